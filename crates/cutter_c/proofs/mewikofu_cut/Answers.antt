-- `cutter_c::mewikofu_cut` meets its contract: it answers what the cutter does.
use borrow.Author.Rules.{rules}
use Rattle.cutter_c.proofs.mewikofu_cut.Goals as goal

pub returns : goal.returns
returns c = c.cut.ensures
