-- What the two reads give.
use Rattle.std.proofs.Common.{rules}
use Rattle.pack.proofs.Entry.{found}
use Rattle.pack.proofs.read.Goals as goal

pub returns : goal.returns
returns g c =
    found _ _ _ _ _ _ _ _ (search rules) (search rules) c.in_ok-read_full.ensures.bytes (search rules) (search rules) (search rules)
    c.in_ok-read_full-2.ensures.bytes
