-- The first s pairs are put.
use Rattle.std.proofs.Common.{◌≡◌, ◌*◌, length}
use Rattle.rules.specs.Fold.{joined, at_z}
use Rattle.text.specs.Put.{Written}
use Rattle.book.specs.Entries.{pair_bytes}
use Rattle.book.proofs.put_pairs.Given as goal

abbrev pub invariant-loop-s : goal.invariant-loop-s
invariant-loop-s l =
    (length l.book ≡ length l.initial.book) × Written (16 * l.s) l.initial.book l.at (joined l.s (pair_bytes (at_z l.t) (at_z l.a))) l.p l.book
