use Rattle.std.proofs.Common.{◌≡◌}
use Rattle.rules.specs.Fold.{first}
use Rattle.rules.specs.Refusals.{actual_fault}
use Rattle.line_limits.proofs.check_actuals.Given as goal

abbrev pub invariant-loop-i : goal.invariant-loop-i
invariant-loop-i l = first (actual_fault l.line) l.i ≡ 0
