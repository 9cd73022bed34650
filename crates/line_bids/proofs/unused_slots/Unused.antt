-- Refusal 10, from what the code has read: n is the bid's count, and slot j the (j - n)-th of the unused ones.
use Rattle.std.specs.Prelude.{ℕ, ◌+◌, ◌-◌, ◌≤◌, ◌<◌, ◌≡◌, List}
use Rattle.std.proofs.Common.{arith}
use Rattle.rules.specs.Fold.{refuse, ◌or_else◌, first}
use Rattle.rules.specs.Layout.{bid_count, bid_break, bid_price}
use Rattle.rules.specs.Refusals.{unused_fault}
use Rattle.laws.specs.Folds.{first_none, first_more, first_stop}

pub unused_begins : (w : List ℕ) (s n : ℕ) → first (unused_fault w s) (n - n) ≡ 0
unused_begins w s n = let e : n - n ≡ 0 = omega arith in rw e (first_none (unused_fault w s))

module _ (w : List ℕ) (s n j : ℕ) (count : n ≡ bid_count w s) (l : n ≤ j) where
  slot : bid_count w s + (j - n) ≡ j
  slot = omega arith

  module _ (p : first (unused_fault w s) (j - n) ≡ 0) where
    pub unused_none : bid_break w s j ≡ 0 → bid_price w s j ≡ 0 → first (unused_fault w s) (j + 1 - n) ≡ 0
    unfolding unused_fault refuse ◌or_else◌
    unused_none b q =
        let none : unused_fault w s (j - n) ≡ 0 = rw (slot, b, q) in
        let e : j - n + 1 ≡ j + 1 - n = omega arith in
        rw e at (first_more (unused_fault w s) (j - n) p none)

    module _ (m : j < 11) where
      pub unused_break : (bid_break w s j ≡ 0 → ⊥) → 10 ≡ first (unused_fault w s) (11 - n)
      unfolding unused_fault refuse ◌or_else◌
      unused_break h =
          let some : unused_fault w s (j - n) ≡ 10 = rw slot (grind arith) in
          grind (arith, first_stop, some)

      pub unused_price : (bid_price w s j ≡ 0 → ⊥) → 10 ≡ first (unused_fault w s) (11 - n)
      unfolding unused_fault refuse ◌or_else◌
      unused_price h =
          let some : unused_fault w s (j - n) ≡ 10 = rw slot (grind arith) in
          grind (arith, first_stop, some)

pub ruleset unused_cases = (unused_begins, unused_none, unused_break, unused_price)
