-- `day_totals::least_sums`: from place s on the leasts are worked out, below it the totals stand.
use Rattle.std.specs.Prelude.{pos}
use Rattle.rules.specs.Fold.{at_z}
use Rattle.day_totals.specs.Parts.{least_of}
use Rattle.day_totals.specs.Rows.{Row}
use Rattle.day_totals.proofs.least_sums.Given as goal

abbrev pub invariant-loop-s : goal.invariant-loop-s
invariant-loop-s l = Row (pos 0) (at_z l.fn.t) (least_of l.fn.t) l.least l.s
