-- `cutter_cursors::cursors::passed` meets its contract.
use Rattle.std.proofs.Common.{rules}
use Rattle.std.proofs.iter.Serving.{serving}
use Rattle.cutter_cursors.specs.Places.{standing, sweep_is}
use Rattle.cutter_cursors.proofs.cursors.passed.Goals as goal

pub from_fn-requires : goal.from_fn-requires
from_fn-requires c = grind (serving, standing)

pub returns : goal.returns
returns c = sweep_is _ _ c.from_fn.ensures.items.long (λ s l. search (rules, c.from_fn.ensures.items.at s 0 l))
