-- A line of the book, the lines so far, and the whole book, from what the lines are paid and the totals.
use Prim.Native.Nat.{ℕ, ◌+◌, ◌*◌, ◌≤◌, ◌<◌}
use native.Mathlib.Nat.{add-zero}
use native.Mathlib.Omega.{arith}
use mathlib.Core.Path.{◌≡◌, sym, ◌∙◌, ap}
use mathlib.Core.List.{List, [], ◌∷◌, ◌++◌}
use lib.ListN.{length, get_or, drop}
use lib.Seq.{sets}
use lib.IntN.{ℤ, pos}
use mir.Syntax.{w64}
use mir.Val.{to_z, of_z}
use mir.Facts.{to_z-of_z}
use Rattle.rules.specs.Fold.{joined, five, at_z}
use Rattle.rules.specs.Refusals.{book_length}
use Rattle.rules.specs.Payments.{Day}
use Rattle.rules.specs.Totals.{line_payment, total, totals, adjusted, adjusted_total}
use Rattle.rules.specs.Book.{line_entry, book_of}
use Rattle.numbers.specs.Fives.{five_is}
use Rattle.step_inputs.specs.Paid.{DaySized, payment_size}
use Rattle.day_totals.specs.Sizes.{size_fits}
use Rattle.book_layout.specs.Framing.{entry_at, entry_length}
use Rattle.book.specs.Entries.{entry_of, front_of, entry_is, front_is, whole_book}
use Rattle.text.specs.Put.{Written, row_more}
use Rattle.day_paid.specs.Paid.{payments_of, PaidDay}

module _ (y : Day) (z : DaySized y) (p : List ℤ) (c : List ℕ) (paid : PaidDay y p c) (k : ℕ) (l : k < y.lines) where
  payment_read : (s : ℕ) → s < 5 → to_z w64 (of_z w64 (get_or p (5 * k + s) (pos 0))) ≡ line_payment y s k
  payment_read s h =
      let e = paid.payment k s l h in
      ap (λ (x : ℤ). to_z w64 (of_z w64 x)) e ∙ to_z-of_z (size_fits (line_payment y s k) (omega (arith, payment_size y z k l s h)))

  pub payments_read : ◌≡◌ {A = List ℤ}
      (to_z w64 (of_z w64 (get_or p (5 * k) (pos 0))) ∷ to_z w64 (of_z w64 (get_or p (5 * k + 1) (pos 0))) ∷ to_z w64 (of_z w64 (get_or p (5 * k + 2) (pos 0)))
      ∷ to_z w64 (of_z w64 (get_or p (5 * k + 3) (pos 0))) ∷ to_z w64 (of_z w64 (get_or p (5 * k + 4) (pos 0))) ∷ []) (payments_of y k)
  payments_read =
      let first = rw (add-zero (5 * k)) at (payment_read 0 (omega arith)) in
      five_is (λ s. line_payment y s k) first (payment_read 1 (omega arith)) (payment_read 2 (omega arith)) (payment_read 3 (omega arith))
      (payment_read 4 (omega arith))

pub line_put : (y : Day) (k : ℕ) (q r sd n : ℕ) (pay : List ℤ) (b c : List ℕ) (at e : ℕ)
    → q ≡ y.participant k → r ≡ y.point k → sd ≡ y.side k → n ≡ y.count k → pay ≡ payments_of y k
    → Written 56 b at (entry_of q r sd n (at_z pay)) e c → c ≡ sets b at (line_entry y k)
line_put y k q r sd n pay b c at e qe re se ne pe w = w.bytes ∙ ap (sets b at) (entry_is y k qe re se ne pe)

pub book_next : (y : Day) (k at : ℕ) (b m c : List ℕ) → Written (56 * k) b 96 (joined k (line_entry y)) (entry_at k) m → at ≡ entry_at k → c ≡ sets m at (line_entry y k)
    → Written (56 * (k + 1)) b 96 (joined (k + 1) (line_entry y)) (entry_at (k + 1)) c
book_next y k at b m c w h e =
    let n = entry_length y k in
    let f : entry_at (k + 1) ≡ entry_at k + 56 = omega arith in
    let x : Written 56 m (entry_at k) (line_entry y k) (entry_at k + 56) c =
    record { most = omega arith; end = omega arith; bytes = e ∙ ap (λ (i : ℕ). sets m i (line_entry y k)) h } in
    rw f (row_more (line_entry y) 56 k w x)

pub lines_whole : (y : Day) (k n : ℕ) (b m : List ℕ) (at : ℕ) → n ≡ y.lines → k ≤ n → n ≤ k → Written (56 * k) b 96 (joined k (line_entry y)) at m
    → m ≡ sets b 96 (joined y.lines (line_entry y))
lines_whole y k n b m at ne h g w =
    let e : k ≡ y.lines = omega arith in
    w.bytes ∙ ap (λ (j : ℕ). sets b 96 (joined j (line_entry y))) e

pub book_whole : (y : Day) (n at : ℕ) (b m e : List ℕ) (t u : List ℤ) → book_length y.lines ≤ length b → n ≡ y.lines → t ≡ five (total y)
    → u ≡ five (adjusted_total y) → m ≡ sets b 96 (joined y.lines (line_entry y)) → Written 96 m 0 (front_of n (at_z t) (at_z u)) at e
    → e ≡ book_of y ++ drop (book_length y.lines) b
unfolding adjusted_total totals
book_whole y n at b m e t u h ne te ue me w =
    whole_book y b m e h me (w.bytes ∙ ap (sets m 0) (front_is y ne te (ue ∙ ap (λ (x : List ℤ). five (adjusted x)) (sym te))))
