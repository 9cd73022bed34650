-- `day_book::put_lines` meets its contract: after k turns the first k lines are put.
use Prim.Native.Nat.{◌*◌, ◌-◌, ◌≤◌}
use mathlib.Core.Path.{◌≡◌}
use lib.ListN.{length}
use native.Mathlib.Omega.{arith}
use borrow.Author.Rules.{rules}
use Rattle.rules.specs.Book.{line_entry}
use Rattle.rules.specs.Days.{settled_day}
use Rattle.rules.specs.Fold.{joined}
use Rattle.book_layout.specs.Framing.{entry_at}
use Rattle.text.specs.Put.{Written, row_none}
use Rattle.day_book.proofs.Laws.{book_next, lines_whole}
use Rattle.day_book.proofs.put_lines.Given as goal

abbrev pub invariant-loop-k : goal.invariant-loop-k
invariant-loop-k l = (length l.book ≡ length l.initial.book) × (Written (56 * l.k) l.initial.book 96 (joined l.k (line_entry (settled_day l.day))) (entry_at l.k) l.book)
