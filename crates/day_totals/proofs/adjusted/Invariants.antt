-- `day_totals::adjusted`: the adjusted totals below place s are worked out, and what those schedules leave.
use Rattle.std.specs.Prelude.{◌≡◌, pos}
use Rattle.rules.specs.Totals as T
use Rattle.day_totals.specs.Rows.{Row}
use Rattle.day_totals.proofs.adjusted.Given as goal

abbrev pub invariant-loop-s : goal.invariant-loop-s
invariant-loop-s l = record { row : Row (pos 0) (T.adjusted l.fn.t) (λ k. pos 0) l.a l.s; left : l.left ≡ T.carried l.fn.t l.s }
