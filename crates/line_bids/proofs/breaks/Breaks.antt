-- Refusals 7 and 8, from what the code has read.
use Rattle.std.specs.Prelude.{ℕ, ◌≤◌, ◌<◌, ◌≡◌, List}
use Rattle.std.proofs.Common.{arith}
use Rattle.rules.specs.Fold.{refuse, ◌or_else◌, before}
use Rattle.rules.specs.Layout.{bid_break}
use Rattle.rules.specs.Refusals.{break_fault}
use Rattle.line_bids.specs.Counts.{count_fault}

-- refusal 7
pub count_refused : (s n : ℕ) → 11 < n → 7 ≡ count_fault s n
unfolding count_fault refuse ◌or_else◌
count_refused s n h = grind arith

pub count_none : (s n : ℕ) → n ≡ 0 → s ≡ 0 → 7 ≡ count_fault s n
unfolding count_fault refuse ◌or_else◌
count_none s n e h = grind arith

pub count_some : (s n : ℕ) → n ≤ 11 → (n ≡ 0 → ⊥) → 0 ≡ count_fault s n
unfolding count_fault refuse ◌or_else◌
count_some s n h e = grind arith

pub count_pulled : (s n : ℕ) → n ≤ 11 → (s ≡ 0 → ⊥) → 0 ≡ count_fault s n
unfolding count_fault refuse ◌or_else◌
count_pulled s n h e = grind arith

pub ruleset count_cases = (count_refused, count_none, count_some, count_pulled)

-- a count that passes
pub count_few : (s n : ℕ) → 0 ≡ count_fault s n → n ≤ 11
unfolding count_fault refuse ◌or_else◌
count_few s n e = grind arith

-- refusal 8 at one step
pub break_above : (w : List ℕ) (s j : ℕ) → 200000000 < bid_break w s j → 8 ≡ break_fault w s j
unfolding break_fault refuse ◌or_else◌
break_above w s j h = grind arith

pub break_low : (w : List ℕ) (s j : ℕ) → bid_break w s j ≤ before (bid_break w s) j → 8 ≡ break_fault w s j
unfolding break_fault refuse ◌or_else◌
break_low w s j h = grind arith

pub break_good : (w : List ℕ) (s j : ℕ) → bid_break w s j ≤ 200000000 → before (bid_break w s) j < bid_break w s j → 0 ≡ break_fault w s j
unfolding break_fault refuse ◌or_else◌
break_good w s j l h = grind arith

pub ruleset break_cases = (break_above, break_low, break_good)
