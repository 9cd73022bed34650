-- The texts that its calls put, one after another.
use Rattle.text.specs.Put.{then}
use Rattle.text.proofs.refused.put_numbered.Goals as goal

pub returns : goal.returns
returns c = then (then c.put_bytes-a.ensures (rw c.from.ensures at c.put_decimal-b.ensures)) c.put_byte.ensures
