-- How settling ends: the day refused, the book too short, or the book put.
use Prim.Native.Nat.{ℕ, zero, suc, ◌≤◌, ◌<◌}
use mathlib.Core.Path.{◌≡◌, refl, sym, ◌∙◌}
use mathlib.Core.List.{List, ◌++◌}
use lib.ListN.{length, drop}
use lib.Dec.{eqb-suc-zero}
use borrow.Author.Tests.{lt-ltb, le-ltb}
use Rattle.rules.specs.Fold.{refuse, ◌or_else◌}
use Rattle.rules.specs.Layout.{line_count}
use Rattle.rules.specs.Refusals.{day_fault, settle_fault, book_length}
use Rattle.rules.specs.Days.{settled_day}
use Rattle.rules.specs.Book.{book_of, book_after}

pub day_refused : (d b : List ℕ) (r : ℕ) → r ≡ day_fault d → (r ≡ 0 → ⊥) → (r ≡ settle_fault d (length b)) × (b ≡ book_after d b)
unfolding settle_fault book_after ◌or_else◌
day_refused d b zero e h = absurd (h refl)
day_refused d b (suc n) e h = rw (sym e, eqb-suc-zero n) (refl, refl)

pub book_short : (d b : List ℕ) (r : ℕ) → r ≡ day_fault d → r ≡ 0 → length b < book_length (line_count d) → (15 ≡ settle_fault d (length b)) × (b ≡ book_after d b)
unfolding settle_fault book_after refuse ◌or_else◌
book_short d b r e z h = rw (sym e ∙ z, lt-ltb (length b) (book_length (line_count d)) h) (refl, refl)

pub book_put : (d b c : List ℕ) (r n : ℕ) → n ≡ day_fault d → n ≡ 0 → book_length (line_count d) ≤ length b → r ≡ 0 → c ≡ book_of (settled_day d) ++ drop (book_length (line_count d)) b → (r ≡ settle_fault d (length b)) × (c ≡ book_after d b)
unfolding settle_fault book_after refuse ◌or_else◌
book_put d b c r n e z h re ce = rw (sym e ∙ z, le-ltb (length b) (book_length (line_count d)) h) (re, ce)
