-- `day_shares::groups::sums_before`: the sums below place s are worked out, the others are 0.
use Rattle.day_totals.specs.Rows.{Row}
use Rattle.day_shares.specs.Groups.{before}
use Rattle.day_shares.proofs.groups.sums_before.Given as goal

abbrev pub invariant-loop-s : goal.invariant-loop-s
invariant-loop-s l = Row 0 (before l.l l.x) (λ k. 0) l.sums l.s
