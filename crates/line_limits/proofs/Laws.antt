-- Refusals 11 to 13, from what the code has read.
use Rattle.std.specs.Prelude.{ℕ, ◌+◌, ◌≤◌, ◌<◌, ◌≡◌, List}
use Rattle.std.proofs.Common.{arith}
use Rattle.rules.specs.Fold.{refuse, ◌or_else◌, first, at, five}
use Rattle.rules.specs.Layout.{excess_most, side, hedge, actual_entry}
use Rattle.rules.specs.Steps.{greatest_break}
use Rattle.rules.specs.Quantities.{pricing_total, table_total}
use Rattle.rules.specs.Refusals.{total_fault, actual_fault}
use Rattle.laws.specs.Folds.{first_same, at_five}
use Rattle.line_limits.specs.Faults.{hedge_fault, totals_fault}

-- refusal 11
pub hedge_above : (w : List ℕ) (m : ℕ) → m < hedge w → 11 ≡ hedge_fault w m
unfolding hedge_fault refuse ◌or_else◌
hedge_above w m h = grind arith

pub hedge_withdrawal : (w : List ℕ) (m : ℕ) → side w ≡ 1 → (hedge w ≡ 0 → ⊥) → 11 ≡ hedge_fault w m
unfolding hedge_fault refuse ◌or_else◌
hedge_withdrawal w m e n = grind arith

pub hedge_injection : (w : List ℕ) (m : ℕ) → hedge w ≤ m → (side w ≡ 1 → ⊥) → 0 ≡ hedge_fault w m
unfolding hedge_fault refuse ◌or_else◌
hedge_injection w m l n = grind arith

pub hedge_none : (w : List ℕ) (m : ℕ) → hedge w ≤ m → hedge w ≡ 0 → 0 ≡ hedge_fault w m
unfolding hedge_fault refuse ◌or_else◌
hedge_none w m l n = grind arith

pub ruleset hedge_cases = (hedge_above, hedge_withdrawal, hedge_injection, hedge_none)

-- refusal 12
pub pricing_above : (m : ℕ) (p o : List ℕ) (s : ℕ) → m < at p s → 12 ≡ totals_fault m p o s
unfolding totals_fault refuse ◌or_else◌
pricing_above m p o s h = grind arith

pub operating_above : (m : ℕ) (p o : List ℕ) (s : ℕ) → m < at o s → 12 ≡ totals_fault m p o s
unfolding totals_fault refuse ◌or_else◌
operating_above m p o s h = grind arith

pub totals_within : (m : ℕ) (p o : List ℕ) (s : ℕ) → at p s ≤ m → at o s ≤ m → totals_fault m p o s ≡ 0
unfolding totals_fault refuse ◌or_else◌
totals_within m p o s h l = grind arith

pub ruleset totals_cases = (pricing_above, operating_above, totals_within)

-- the same with M and the totals that were worked out
pub totals_are : (t : List (List ℕ)) (w : List ℕ) (m : ℕ) → m ≡ greatest_break w + excess_most
    → first (totals_fault m (five (pricing_total w)) (five (table_total t))) 5 ≡ first (total_fault t w) 5
unfolding totals_fault total_fault
totals_are t w m e = first_same 5 (totals_fault m (five (pricing_total w)) (five (table_total t))) (total_fault t w) same
  where
    same : (i : ℕ) → i < 5 → totals_fault m (five (pricing_total w)) (five (table_total t)) i ≡ total_fault t w i
    same i h = rw (e, at_five (pricing_total w) 0 i h, at_five (table_total t) 0 i h)

-- refusal 13
pub actual_above : (w : List ℕ) (i : ℕ) → 200000000 < actual_entry w i → 13 ≡ actual_fault w i
unfolding actual_fault refuse
actual_above w i h = grind arith

pub actual_within : (w : List ℕ) (i : ℕ) → actual_entry w i ≤ 200000000 → actual_fault w i ≡ 0
unfolding actual_fault refuse
actual_within w i h = grind arith

pub ruleset actual_cases = (actual_above, actual_within)
