-- M.
use Rattle.std.specs.Prelude.{ℕ, zero, suc, ◌+◌, ◌≤◌, ◌<◌, ◌≡◌, refl, max, List}
use Rattle.std.proofs.Common.{add-one, arith, sym, ◌∙◌, ap}
use Rattle.rules.specs.Fold.{most_to, first}
use Rattle.rules.specs.Layout.{field, bid_word, bid_count, bid_break}
use Rattle.rules.specs.Steps.{bid_most}
use Rattle.rules.specs.Refusals.{bid_fault}
use Rattle.laws.specs.Folds.{first_at, most_none, most_suc, most_rising}
use Rattle.laws.specs.Accepted.{AcceptedBid, accepted_bid}

pub count_most : (w : List ℕ) (s : ℕ) → bid_fault w s ≡ 0 → bid_count w s ≤ 11
count_most w s f = (accepted_bid w s f).count_most

-- the last of a bid's rising breaks is its greatest: word n of a bid of n steps; of a pulled bid the count, 0
pub last_most : (w : List ℕ) (s : ℕ) → bid_fault w s ≡ 0 → field w (bid_word s + bid_count w s) ≡ bid_most w s
unfolding bid_most
last_most w s f = go (bid_count w s) refl
  where
    a : AcceptedBid w s
    a = accepted_bid w s f

    go : (n : ℕ) → n ≡ bid_count w s → field w (bid_word s + n) ≡ most_to n (bid_break w s)
    go zero e = ap (field w) (omega arith) ∙ sym e ∙ sym (most_none (bid_break w s))
    go (suc m) e = ap (field w) (omega arith) ∙ sym (most_rising (bid_break w s) m (λ j h. a.rises j (omega arith)))

pub most_more : (n : ℕ) (f : ℕ → ℕ) → most_to (n + 1) f ≡ max (most_to n f) (f n)
most_more n f = rw add-one (most_suc n f)

pub bid_passed : (w : List ℕ) → first (bid_fault w) 5 ≡ 0 → (s : ℕ) → s < 5 → bid_fault w s ≡ 0
bid_passed w p s h = first_at (bid_fault w) 5 p s h
