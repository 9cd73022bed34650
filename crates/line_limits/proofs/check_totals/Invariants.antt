use Rattle.std.proofs.Common.{◌≡◌}
use Rattle.rules.specs.Fold.{first}
use Rattle.line_limits.specs.Faults.{totals_fault}
use Rattle.line_limits.proofs.check_totals.Given as goal

abbrev pub invariant-loop-s : goal.invariant-loop-s
invariant-loop-s l = first (totals_fault l.limit l.pricing l.operating) l.s ≡ 0
