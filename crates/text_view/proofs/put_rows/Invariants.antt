-- The rows of the first s schedules are put.
use Rattle.std.proofs.Common.{◌≡◌, ◌*◌, length}
use Rattle.rules.specs.Fold.{joined}
use Rattle.text.specs.Put.{Written}
use Rattle.text_view.specs.ViewText.{schedule_row}
use Rattle.text_view.proofs.put_rows.Given as goal

abbrev pub invariant-loop-s : goal.invariant-loop-s
invariant-loop-s l = (length l.out ≡ length l.initial.out) × Written (256 * l.s) l.initial.out l.at (joined l.s (schedule_row l.v)) l.p l.out
