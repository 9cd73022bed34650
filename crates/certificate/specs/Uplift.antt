-- Document 02, F-1: the laws of each schedule's uplift, of an accepted day, one field for each. They are stated of answers: `book` is the lent
-- book as settling leaves it, and `x` the five shares that the uplift call answers. Totals, adjusted totals and payments are the book's.
use Rattle.std.specs.Prelude.{ℕ, ◌≤◌, ◌<◌, ◌≡◌, List, true, false, cond, ℤ, pos, nat_abs, ◌-ℤ◌, ◌*ℤ◌}
use Rattle.rules.specs.Fold.{sum_z, five, at_z}
use Rattle.rules.specs.Layout.{word}
use Rattle.rules.specs.Uplift.{above, below, same_group}
use Rattle.book_layout.specs.Framing.{book_total}
use Rattle.certificate.specs.Certificate.{adjusted_in, payments_in}

-- the book's five totals, and what f gives for the schedules of the group of s, added up
abbrev pub totals_in : List ℕ → List ℤ
totals_in book = five (book_total book)

abbrev pub group_in : List ℕ → ℕ → (ℕ → ℤ) → ℤ
group_in book s f = sum_z 5 (λ q. cond (same_group (totals_in book) s q) (f q) (pos 0))

pub record CertifiedUplift (book : List ℕ) (x : List ℤ) : Type 0 where
  -- "each share less than one unit from the exact fraction", its total times the group's summed adjusted totals over its summed totals: both
  -- multiplied by these, which are not 0
  pub close : (s : ℕ) → s < 5 → (book_total book s ≡ pos 0 → ⊥)
      → nat_abs (at_z x s *ℤ group_in book s (book_total book) -ℤ book_total book s *ℤ group_in book s (adjusted_in book)) < nat_abs (group_in book s (book_total book))
  -- "the shares of a group equal to its adjusted sum"
  pub group : (s : ℕ) → s < 5 → group_in book s (at_z x) ≡ group_in book s (adjusted_in book)
  -- "A total of 0 gets 0"
  pub none : (s : ℕ) → s < 5 → book_total book s ≡ pos 0 → at_z x s ≡ pos 0
  -- the five shares add up to all payments in the book
  pub payments : sum_z 5 (at_z x) ≡ sum_z (word book 0) (payments_in book)
  -- a share is at most its total in size, and not of the other sign
  pub most : (s : ℕ) → s < 5 → nat_abs (at_z x s) ≤ nat_abs (book_total book s)
  pub sign_above : (s : ℕ) → s < 5 → above (book_total book s) ≡ true → below (at_z x s) ≡ false
  pub sign_below : (s : ℕ) → s < 5 → below (book_total book s) ≡ true → above (at_z x s) ≡ false
