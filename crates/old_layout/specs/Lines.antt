-- The steps of two such lines, and the refusals of a line.
use Prim.Native.Nat.{ℕ, zero, suc, ◌+◌, ◌-◌, ◌≤◌, ◌<◌}
use native.Mathlib.Omega.{arith}
use Rattle.std.specs.Prelude.{◌≡◌, ◌&&◌, ltb, leb}
use Rattle.std.proofs.Math.Path.{refl, ap}
use Rattle.std.proofs.Common.{◌∙◌}
use mathlib.Core.List.{List, [], ◌∷◌, ◌++◌}
use Rattle.std.proofs.Math.Bool.{cond, not}
use Rattle.std.proofs.Math.ListN.{length, get_or}
use Rattle.std.proofs.Math.Dec.{eqb}
use Rattle.rules.specs.Fold.{refuse, ◌or_else◌, first, most_to, list_to}
use Rattle.rules.specs.Layout.{excess_most, withdrawal, bid_count, bid_break, bid_price}
use Rattle.rules.specs.Steps.{bid_most, greatest_break, rising, bid_breaks, hedge_point, ends, step_count, upper_end, lower_end}
use Rattle.rules.specs.Steps.{step_from, bid_step, source, last_price, price, flag, hedged, holds_in, accredited, paid}
use Rattle.rules.specs.Quantities.{table_total}
use Rattle.rules.specs.Refusals.{bid_fault, total_fault, actual_fault, line_fault_with, same_key}
use Rattle.laws.specs.Folds.{first_same, first_at}
use Rattle.laws.specs.Accepted.{accepted_bid}
use Rattle.old_layout.specs.Same.{counted, most_same, joined_same, list_same, or_else_same, step_same, step_most, cond_most}
use Rattle.old_layout.specs.Fields.{Alike, participant_same, point_same, side_same, accreditation_same, hedge_same, count_same, break_same, price_same}
use Rattle.old_layout.specs.Fields.{bids_fault_same, head_fault_same, pricing_same, actual_fault_same}

-- a line's bids have at most the slots that there are, as refusal 7 asks
pub record Few (w : List ℕ) : Type 0 where
  pub most : (s : ℕ) → s < 5 → bid_count w s ≤ 11

few_bids : (w : List ℕ) → first (bid_fault w) 5 ≡ 0 → Few w
few_bids w e = record { most = λ s l. (accepted_bid w s (first_at (bid_fault w) 5 e s l)).count_most }

-- the bid of which the last price is taken is of a schedule up to s
source_within : (w : List ℕ) (s : ℕ) → source w s ≤ s
unfolding source
source_within w zero = omega arith
source_within w (suc s) =
    let r = source_within w s in
    cond_most (eqb (bid_count w (suc s)) 0) (source w s) (suc s) (suc s) (omega arith) (omega arith)

module _ {v w : List ℕ} (a : Alike v w) (f : Few w) where
  -- M
  bid_most_same : (s : ℕ) → s < 5 → bid_most v s ≡ bid_most w s
  unfolding bid_most
  bid_most_same s l =
      let m = f.most s l in
      counted most_to most_same (count_same a s l) (bid_break v s) (bid_break w s) (λ j g. break_same a s j l (omega arith))

  pub greatest_same : greatest_break v ≡ greatest_break w
  unfolding greatest_break
  greatest_same = most_same 5 (bid_most v) (bid_most w) bid_most_same

  -- the steps
  breaks_same : (s : ℕ) → s < 5 → bid_breaks v s ≡ bid_breaks w s
  unfolding bid_breaks
  breaks_same s l =
      let m = f.most s l in
      counted list_to list_same (count_same a s l) (bid_break v s) (bid_break w s) (λ j g. break_same a s j l (omega arith))

  hedge_point_same : hedge_point v ≡ hedge_point w
  unfolding hedge_point
  hedge_point_same = ap (λ (x : ℕ). cond (eqb x 0) [] (x ∷ [])) (hedge_same a)

  ends_same : ends v ≡ ends w
  unfolding ends
  ends_same =
      let b = joined_same 5 (bid_breaks v) (bid_breaks w) breaks_same in
      λ i. rising (hedge_point_same i ++ b i)

  pub steps_same : step_count v ≡ step_count w
  unfolding step_count
  steps_same = λ i. length (ends_same i)

  pub upper_same : (j : ℕ) → upper_end v j ≡ upper_end w j
  unfolding upper_end
  upper_same j = λ i. get_or (ends_same i) j 0

  pub lower_same : (j : ℕ) → lower_end v j ≡ lower_end w j
  unfolding lower_end
  lower_same j = λ i. get_or (0 ∷ ends_same i) j 0

  -- price and flag of the step that ends at u
  bid_step_same : (s u : ℕ) → s < 5 → bid_step v s u ≡ bid_step w s u
  unfolding bid_step
  bid_step_same s u l =
      let m = f.most s l in
      ap (λ (n : ℕ). step_from (bid_break v s) u 0 n) (count_same a s l)
      ∙ step_same (bid_break v s) (bid_break w s) u 0 (bid_count w s) (λ j g. break_same a s j l (omega arith))

  bid_step_most : (s u : ℕ) → s < 5 → bid_step w s u ≤ 11
  unfolding bid_step
  bid_step_most s u l = let r = step_most (bid_break w s) u 0 (bid_count w s) in let m = f.most s l in omega arith

  source_same : (s : ℕ) → s < 5 → source v s ≡ source w s
  unfolding source
  source_same zero l = refl
  source_same (suc s) l =
      let c = count_same a (suc s) l in
      let r = source_same s (omega arith) in
      λ i. cond (eqb (c i) 0) (r i) (suc s)

  last_price_same : (s : ℕ) → s < 5 → last_price v s ≡ last_price w s
  unfolding last_price
  last_price_same s l =
      let m = f.most s l in
      ap (λ (n : ℕ). bid_price v s (n - 1)) (count_same a s l) ∙ price_same a s (bid_count w s - 1) l (omega arith)

  source_price_same : (s : ℕ) → s < 5 → last_price v (source v s) ≡ last_price w (source w s)
  source_price_same s l =
      let m = source_within w s in
      ap (λ (r : ℕ). last_price v r) (source_same s l) ∙ last_price_same (source w s) (omega arith)

  pub step_price_same : (s u : ℕ) → s < 5 → price v s u ≡ price w s u
  unfolding price
  step_price_same s u l =
      let c = count_same a s l in
      let j = bid_step_same s u l in
      let p = ap (λ (n : ℕ). bid_price v s n) j ∙ price_same a s (bid_step w s u) l (bid_step_most s u l) in
      let q = source_price_same s l in
      λ i. cond (ltb (j i) (c i)) (p i) (q i)

  pub flag_same : (s u : ℕ) → s < 5 → flag v s u ≡ flag w s u
  unfolding flag
  flag_same s u l =
      let c = count_same a s l in
      let j = bid_step_same s u l in
      λ i. cond (ltb (j i) (c i)) 0 1

  total_fault_same : (t : List (List ℕ)) (s : ℕ) → total_fault t v s ≡ total_fault t w s
  unfolding total_fault
  total_fault_same t s =
      let m = greatest_same in
      let p = pricing_same a s in
      λ i. refuse 12 (ltb (m i + excess_most) (p i)) or_else refuse 12 (ltb (m i + excess_most) (table_total t s))

module _ {v w : List ℕ} (a : Alike v w) where
  pub paid_same : (u s : ℕ) → paid v u s ≡ paid w u s
  unfolding paid accredited hedged
  paid_same u s = let c = accreditation_same a in let h = hedge_same a in λ i. holds_in (c i) s && not (leb u (h i))

  pub key_same : {x y : List ℕ} → Alike x y → same_key v x ≡ same_key w y
  unfolding same_key
  key_same b =
      let p = participant_same a in
      let q = participant_same b in
      let m = point_same a in
      let n = point_same b in
      let s = side_same a in
      let t = side_same b in
      λ i. eqb (p i) (q i) && eqb (m i) (n i) && eqb (s i) (t i)

  -- the refusals of a line, with the same table of operating quantities
  pub line_fault_same : (t : List (List ℕ)) → line_fault_with t v ≡ line_fault_with t w
  unfolding line_fault_with
  line_fault_same t =
      or_else_same (head_fault_same a)
      (λ z.
      or_else_same (bids_fault_same a)
      (λ e.
      let f = few_bids w e in
      let m = greatest_same a f in
      let h = hedge_same a in
      let s = side_same a in
      let p = first_same 5 (total_fault t v) (total_fault t w) (λ s l. total_fault_same a f t s) in
      let q = first_same 5 (actual_fault v) (actual_fault w) (actual_fault_same a) in
      λ i. refuse 11 (ltb (m i) (h i)) or_else refuse 11 (withdrawal (s i) && not (eqb (h i) 0)) or_else p i or_else q i))
