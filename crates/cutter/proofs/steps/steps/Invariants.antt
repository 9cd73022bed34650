-- `cutter::steps::steps` meets its contract.
use Rattle.std.proofs.Common.{◌-◌}
use Rattle.rules.specs.Steps.{step_count}
use Rattle.cutter.proofs.steps.Swept.{Swept}
use Rattle.cutter.proofs.steps.steps.Given as goal

abbrev pub invariant-loop-end : goal.invariant-loop-end
invariant-loop-end l = Swept l.line l.at.step l.at.places l.at.lower l.at.gap l.ends l.prices l.missing

abbrev pub decreases-loop-end : goal.decreases-loop-end
decreases-loop-end l = step_count l.line - l.at.step
