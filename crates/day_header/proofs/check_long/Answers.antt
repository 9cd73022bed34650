-- `day_header::check_long` meets its contract.
use Rattle.day_header.specs.Long.{number_long}
use Rattle.day_header.proofs.check_long.Goals as goal

pub returns : goal.returns
returns c d begins size = number_long d _ _ _ begins size c.requires.0 c.requires.1 c.check_header_of.ensures
