-- `text::digits::put_byte` meets its contract: by one store.
use Rattle.text.specs.Put.{written_byte}
use Rattle.text.proofs.digits.put_byte.Goals as goal

pub returns : goal.returns
returns c = written_byte _ _ _
