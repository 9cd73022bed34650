-- `cutter_prices::put_step` meets its contract: the prices of the schedules before s are written.
use Rattle.std.proofs.Common.{◌≡◌}
use Rattle.rules.specs.Steps.{price}
use Rattle.cutter_prices.specs.Step.{put_to}
use Rattle.cutter_prices.proofs.put_step.Given as goal

abbrev pub invariant-loop-s : goal.invariant-loop-s
invariant-loop-s l = l.prices ≡ put_to l.s l.initial.prices l.n (λ i. price l.line i l.u)
