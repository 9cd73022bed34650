-- The numbers before x are put.
use Rattle.std.proofs.Common.{◌≡◌, ◌*◌, length}
use Rattle.rules.specs.Fold.{joined}
use Rattle.text.specs.Rows.{word_after}
use Rattle.text.specs.Put.{Written}
use Rattle.text.proofs.number_rows.put_words.Given as goal

abbrev pub invariant-loop-x : goal.invariant-loop-x
invariant-loop-x l = (length l.out ≡ length l.initial.out) × Written (21 * l.x-index) l.initial.out l.at (joined l.x-index (word_after l.v)) l.p l.out
