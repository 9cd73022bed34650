-- A line's refusals part by part, from what the code has read.
use Prim.Native.Nat.{ℕ, ◌+◌, ◌-◌, ◌≤◌, ◌<◌}
use native.Mathlib.Omega.{arith}
use mathlib.Core.Path.{◌≡◌, refl, sym, ◌∙◌, ap}
use mathlib.Core.List.{List}
use lib.ListN.{length, take, drop}
use lib.Seq.{take_all}
use Rattle.rules.specs.Fold.{refuse, ◌or_else◌, first}
use Rattle.rules.specs.Layout.{side, accreditation, bid_count}
use Rattle.rules.specs.InForce.{table_with}
use Rattle.rules.specs.Refusals.{head_fault, break_fault, bid_fault, line_fault_with, line_fault}
use Rattle.laws.specs.Folds.{part_stops, part_passes, or_else_assoc, fold_goes, fold_stops}
use Rattle.line_limits.specs.Faults.{hedge_fault, limits_fault}
use Rattle.laws.specs.InForce.{own_rows}
use Rattle.line.specs.Parts.{part_from, line_from}
use Rattle.line_bids.specs.Counts.{count_fault}
use Rattle.line_bids.specs.Slots.{slots_fault}

-- refusal 6, by side and accreditation
pub head_side : (w : List ℕ) → 1 < side w → 6 ≡ head_fault w
unfolding head_fault refuse ◌or_else◌
head_side w h = grind arith

pub head_gap : (w : List ℕ) → 1 < accreditation w → accreditation w < 32 → 6 ≡ head_fault w
unfolding head_fault refuse ◌or_else◌
head_gap w h l = grind arith

pub head_above : (w : List ℕ) → 63 < accreditation w → 6 ≡ head_fault w
unfolding head_fault refuse ◌or_else◌
head_above w h = grind arith

pub head_yes_no : (w : List ℕ) → side w ≤ 1 → accreditation w ≤ 1 → 0 ≡ head_fault w
unfolding head_fault refuse ◌or_else◌
head_yes_no w h l = grind arith

pub head_set : (w : List ℕ) → side w ≤ 1 → 32 ≤ accreditation w → accreditation w ≤ 63 → 0 ≡ head_fault w
unfolding head_fault refuse ◌or_else◌
head_set w h l m = grind arith

pub ruleset head_cases = (head_side, head_gap, head_above, head_yes_no, head_set)

-- one bid, part by part, with the count that was read: x is what the first part that refuses answers
bid_is : (w : List ℕ) (s : ℕ) → bid_fault w s ≡ count_fault s (bid_count w s) or_else (first (break_fault w s) (bid_count w s) or_else slots_fault w s)
unfolding bid_fault count_fault slots_fault
bid_is w s = simp or_else_assoc

module _ (w : List ℕ) (s n : ℕ) (count : n ≡ bid_count w s) where
  bid_with : bid_fault w s ≡ count_fault s n or_else (first (break_fault w s) n or_else slots_fault w s)
  bid_with = rw count (bid_is w s)

  pub bid_counted : (x : ℕ) → x ≡ count_fault s n → (x ≡ 0 → ⊥) → x ≡ bid_fault w s
  bid_counted x e h = rw bid_with (part_stops _ _ x e h)

  module _ (counted : 0 ≡ count_fault s n) where
    pub bid_risen : (j x : ℕ) → first (break_fault w s) j ≡ 0 → j < n → x ≡ break_fault w s j → (x ≡ 0 → ⊥) → x ≡ bid_fault w s
    bid_risen j x p l e h =
        rw bid_with (part_passes _ _ x 0 counted refl (part_stops _ _ x (fold_stops (break_fault w s) n j x p l e h) h))

    pub bid_filled : (x : ℕ) → first (break_fault w s) n ≡ 0 → x ≡ slots_fault w s → x ≡ bid_fault w s
    bid_filled x p e = rw bid_with (part_passes _ _ x 0 counted refl (part_passes _ _ x 0 (sym p) refl e))

-- the line, part by part, with a table of operating quantities
line_is : (t : List (List ℕ)) (w : List ℕ) → line_fault_with t w ≡ head_fault w or_else (first (bid_fault w) 5 or_else limits_fault t w)
unfolding line_fault_with limits_fault hedge_fault
line_is t w = simp or_else_assoc

module _ (t : List (List ℕ)) (w : List ℕ) where
  pub line_head : (x : ℕ) → x ≡ head_fault w → (x ≡ 0 → ⊥) → x ≡ line_fault_with t w
  line_head x e h = rw line_is (part_stops _ _ x e h)

  module _ (head : 0 ≡ head_fault w) where
    pub line_bid : (s x : ℕ) → first (bid_fault w) s ≡ 0 → s < 5 → x ≡ bid_fault w s → (x ≡ 0 → ⊥) → x ≡ line_fault_with t w
    line_bid s x p l e h =
        rw line_is (part_passes _ _ x 0 head refl (part_stops _ _ x (fold_stops (bid_fault w) 5 s x p l e h) h))

    pub line_limits : (x : ℕ) (o : List (List ℕ)) → first (bid_fault w) 5 ≡ 0 → o ≡ t → x ≡ limits_fault o w → x ≡ line_fault_with t w
    line_limits x o p oe e = rw (line_is, ← oe) (part_passes _ _ x 0 head refl (part_passes _ _ x 0 (sym p) refl e))

-- line k among those from byte `at` on
pub lent : (b : List ℕ) (p : ℕ) → take (p + 660 - p) (drop p b) ≡ take 660 (drop p b)
lent b p = let size : p + 660 - p ≡ 660 = omega arith in ap (λ (m : ℕ). take m (drop p b)) size

module _ (b : List ℕ) (start r c k n x : ℕ) (w : List ℕ) (e : w ≡ part_from b start k) (p : first (line_from b start r c) k ≡ 0) (l : k < n) (f : x ≡ line_fault_with (table_with b r c k w) w) where
  line_there : x ≡ line_from b start r c k
  unfolding line_from
  line_there = f ∙ ap (λ (z : List ℕ). line_fault_with (table_with b r c k z) z) e

  pub line_stops : (x ≡ 0 → ⊥) → x ≡ first (line_from b start r c) n
  line_stops h = fold_stops (line_from b start r c) n k x p l line_there h

  pub line_passes : x ≡ 0 → (k + 1 ≤ n) × (first (line_from b start r c) (k + 1) ≡ 0)
  line_passes z = fold_goes (line_from b start r c) n k x p l line_there z

-- a single line, with its own rows
pub one_line : (w : List ℕ) → length w ≡ 660 → first (line_from w 0 0 0) 1 ≡ line_fault w
unfolding first ◌or_else◌ line_from part_from line_fault
one_line w h =
    let e : take 660 w ≡ w = take_all 660 w (omega arith) in
    ap (λ (z : List ℕ). line_fault_with (table_with w 0 0 0 z) z) e ∙ ap (λ (t : List (List ℕ)). line_fault_with t w) (own_rows w 0 0 w)
