-- `day_shares::groups::group_sums`: from place s on the sums are those of the groups, below it those before the schedule.
use Rattle.day_totals.specs.Rows.{Row}
use Rattle.day_shares.specs.Groups.{before, whole}
use Rattle.day_shares.proofs.groups.group_sums.Given as goal

abbrev pub invariant-loop-s : goal.invariant-loop-s
invariant-loop-s l = Row 0 (before l.fn.l l.fn.x) (whole l.fn.l l.fn.x) l.sums l.s
