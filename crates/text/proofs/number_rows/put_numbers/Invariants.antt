-- The first s numbers are put.
use Rattle.std.proofs.Common.{◌≡◌, ◌*◌, length}
use Rattle.rules.specs.Report.{number_after}
use Rattle.rules.specs.Fold.{joined, at_z}
use Rattle.text.specs.Put.{Written}
use Rattle.text.proofs.number_rows.put_numbers.Given as goal

abbrev pub invariant-loop-s : goal.invariant-loop-s
invariant-loop-s l = (length l.out ≡ length l.initial.out) × Written (22 * l.s) l.initial.out l.at (joined l.s (number_after (at_z l.v))) l.p l.out
