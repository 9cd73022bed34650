-- `day_pools::window_taken` meets its contract.
use Prim.Native.Nat.{◌-◌}
use mathlib.Core.Path.{◌≡◌}
use Rattle.rules.specs.Layout.{line_at}
use Rattle.rules.specs.Steps.{step_count}
use Rattle.day_pools.specs.Marks.{word_to}
use Rattle.step_inputs.specs.Ready.{PastHedge}
use Rattle.day_pools.specs.Passes.{takes_from}
use Rattle.day_pools.proofs.Taken.{taken_to}
use Rattle.day_pools.proofs.window_taken.Given as goal

abbrev pub invariant-loop-word : goal.invariant-loop-word
invariant-loop-word l = PastHedge l.line.bytes.now l.at.step l.at.places l.at.lower l.at.gap
    × (l.word ≡ word_to (step_count (line_at l.line.day.now l.line.k) - l.at.step) (takes_from l.line.day.now l.line.k l.at.step))
    × (l.money ≡ record { plus = l.initial.money.plus; minus = taken_to l.line.day.now l.line.k l.at.step })

abbrev pub decreases-loop-word : goal.decreases-loop-word
decreases-loop-word l = l.word
