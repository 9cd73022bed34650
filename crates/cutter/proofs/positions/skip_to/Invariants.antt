-- `cutter::positions::skip_to` meets its contract.
use Rattle.std.proofs.Common.{ℕ, ◌-◌, ◌≤◌, ◌<◌}
use Rattle.rules.specs.Steps.{step_count, upper_end}
use Rattle.cutter.specs.Positions.{SweptAt}
use Rattle.cutter.proofs.positions.skip_to.Given as goal

abbrev pub invariant-loop-end : goal.invariant-loop-end
invariant-loop-end l =
    SweptAt l.line l.at × (l.fn.p.step ≤ l.at.step) × ((i : ℕ) → l.fn.p.step ≤ i → i < l.at.step → upper_end l.line i ≤ l.u)

abbrev pub decreases-loop-end : goal.decreases-loop-end
decreases-loop-end l = step_count l.line - l.at.step
