-- `cutter_text::rows::put_five` meets its contract: after s turns the first s numbers are put.
use Rattle.std.proofs.Common.{◌≡◌, ◌*◌, length}
use Rattle.rules.specs.Fold.{joined, at}
use Rattle.text.specs.Put.{Written}
use Rattle.cutter_text.specs.CutRows.{spaced}
use Rattle.cutter_text.proofs.rows.put_five.Given as goal

abbrev pub invariant-loop-s : goal.invariant-loop-s
invariant-loop-s l = (length l.out ≡ length l.initial.out) × Written (21 * l.s) l.initial.out l.at (joined l.s (spaced (at l.v))) l.p l.out
