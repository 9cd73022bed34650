-- The first k lines are put.
use Rattle.std.proofs.Common.{◌≡◌, ◌*◌, length}
use Rattle.rules.specs.Fold.{joined}
use Rattle.text.specs.Put.{Written}
use Rattle.text_report.specs.BookText.{entry_text}
use Rattle.text_report.proofs.put_entries.Given as goal

abbrev pub invariant-loop-k : goal.invariant-loop-k
invariant-loop-k l = (length l.out ≡ length l.initial.out) × Written (177 * l.k) l.initial.out l.at (joined l.k (entry_text l.book)) l.p l.out
