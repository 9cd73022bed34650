-- `day_pools::window_pool` meets its contract.
use Prim.Native.Nat.{◌-◌, ◌≤◌}
use mathlib.Core.Path.{◌≡◌}
use Rattle.rules.specs.Steps.{step_count}
use Rattle.rules.specs.Days.{settled_day}
use Rattle.step_inputs.specs.Ready.{PastHedge}
use Rattle.day_pools.specs.Marks.{word_to}
use Rattle.day_pools.specs.Sums.{pool_to}
use Rattle.day_pools.specs.Sides.{step_pool_at}
use Rattle.day_pools.specs.Passes.{takes_from}
use Rattle.day_pools.proofs.window_pool.Given as goal

abbrev pub invariant-loop-slots : goal.invariant-loop-slots
invariant-loop-slots l = (l.entry.step ≤ l.at.step) × PastHedge l.line.bytes.now l.at.step l.at.places l.at.lower l.at.gap
    × (l.pool ≡ pool_to l.at.step (step_pool_at (settled_day l.line.day.now) l.line.k))
    × (l.taking ≡ word_to (l.at.step - l.entry.step) (takes_from l.line.day.now l.line.k l.entry.step))

abbrev pub decreases-loop-slots : goal.decreases-loop-slots
decreases-loop-slots l = step_count l.line.bytes.now - l.at.step
