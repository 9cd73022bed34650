-- The first s amounts are put.
use Rattle.std.proofs.Common.{◌≡◌, ◌*◌, length}
use Rattle.rules.specs.Fold.{joined, at_z}
use Rattle.text.specs.Put.{Written}
use Rattle.book.specs.Entries.{money_bytes}
use Rattle.book.proofs.put_five.Given as goal

abbrev pub invariant-loop-s : goal.invariant-loop-s
invariant-loop-s l = (length l.book ≡ length l.initial.book) × Written (8 * l.s) l.initial.book l.at (joined l.s (money_bytes (at_z l.v))) l.p l.book
