-- `day_pools::window_initial` meets its contract.
use Prim.Native.Nat.{◌-◌}
use mathlib.Core.Path.{◌≡◌}
use Rattle.rules.specs.Steps.{step_count}
use Rattle.rules.specs.Days.{settled_day}
use Rattle.step_inputs.specs.Ready.{PastHedge}
use Rattle.day_pools.specs.Sums.{money_to}
use Rattle.day_pools.specs.Lines.{step_money}
use Rattle.day_pools.proofs.window_initial.Given as goal

abbrev pub invariant-loop-slots : goal.invariant-loop-slots
invariant-loop-slots l = PastHedge l.line.bytes.now l.at.step l.at.places l.at.lower l.at.gap
    × (l.money ≡ money_to l.at.step (step_money (settled_day l.line.day.now) l.line.k))

abbrev pub decreases-loop-slots : goal.decreases-loop-slots
decreases-loop-slots l = step_count l.line.bytes.now - l.at.step
