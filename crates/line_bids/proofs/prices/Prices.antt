-- Refusals 9 and 10, from what the code has read.
use Rattle.std.specs.Prelude.{ℕ, zero, suc, ◌-◌, ◌≤◌, ◌<◌, ◌≡◌, List, true, false}
use Rattle.std.proofs.Common.{arith}
use Rattle.rules.specs.Fold.{refuse, ◌or_else◌}
use Rattle.rules.specs.Layout.{side, bid_price}
use Rattle.rules.specs.Refusals.{out_of_order, order_fault, price_fault}

-- refusal 9 at one step
pub price_above : (w : List ℕ) (s j : ℕ) → 10000000 < bid_price w s j → 9 ≡ price_fault w s j
unfolding price_fault refuse ◌or_else◌
price_above w s j h = grind arith

pub price_first : (w : List ℕ) (s j : ℕ) → bid_price w s j ≤ 10000000 → j ≡ 0 → 0 ≡ price_fault w s j
unfolding price_fault order_fault refuse ◌or_else◌
price_first w s j h e = grind arith

pub price_bad : (w : List ℕ) (s j : ℕ) → bid_price w s j ≤ 10000000 → 0 < j → out_of_order (side w) (bid_price w s (j - 1)) (bid_price w s j) ≡ true → 9 ≡ price_fault w s j
unfolding price_fault order_fault refuse ◌or_else◌
price_bad w s zero h l e = grind arith
price_bad w s (suc j) h l e = grind arith

pub price_good : (w : List ℕ) (s j : ℕ) → bid_price w s j ≤ 10000000 → 0 < j → out_of_order (side w) (bid_price w s (j - 1)) (bid_price w s j) ≡ false → 0 ≡ price_fault w s j
unfolding price_fault order_fault refuse ◌or_else◌
price_good w s zero h l e = grind arith
price_good w s (suc j) h l e = grind arith

pub ruleset price_cases = (price_above, price_first, price_bad, price_good)
