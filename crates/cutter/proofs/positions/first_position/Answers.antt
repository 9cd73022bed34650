-- `cutter::positions::first_position` meets its contract.
use Rattle.std.proofs.Common.{arith, refl}
use Rattle.cutter.proofs.positions.Laws.{sweep_first, swept_first}
use Rattle.cutter.proofs.positions.first_position.Goals as goal

pub next_gap-requires : goal.next_gap-requires
next_gap-requires c = (sweep_first c.requires c.start-places.ensures, omega arith)

pub returns : goal.returns
returns c = (swept_first _ _ _ c.next_gap.ensures.value c.next_gap.ensures.sweep_at, refl)
