-- Two lines that differ in nothing but their operating quantities: their words, the refusals of their bids, their other quantities.
use Prim.Native.Nat.{ℕ, zero, suc, ◌+◌, ◌-◌, ◌≤◌, ◌<◌, min}
use Rattle.std.proofs.Common.{arith, ◌∙◌}
use Rattle.std.specs.Prelude.{◌≡◌, List, [], not, ◌&&◌, get_or, leb}
use Rattle.std.proofs.Math.Path.{refl, ap}
use Rattle.std.proofs.Math.Dec.{eqb, ltb}
use borrow.Author.Tests.{ltb-false}
use Rattle.rules.specs.Fold.{refuse, ◌or_else◌, first, before, at}
use Rattle.rules.specs.Layout.{quantity_most, price_most, field, participant, point, side, accreditation, hedge}
use Rattle.rules.specs.Layout.{bid_slots, bid_word, bid_count, bid_break, bid_price, pricing_row, pricing_entry, actual_entry}
use Rattle.rules.specs.Quantities.{pricing_total, table_actual}
use Rattle.rules.specs.Refusals.{break_fault, out_of_order, order_fault, price_fault, unused_fault, bid_fault, actual_fault, head_fault}
use Rattle.laws.specs.Folds.{refuse_zero, first_same, sum_same}
use Rattle.old_layout.specs.Same.{first_counted, or_else_same}

-- the words before the operating quantities, and the five behind them
pub record Alike (v w : List ℕ) : Type 0 where
  pub front : (j : ℕ) → j < 135 → field v j ≡ field w j
  pub actuals : (i : ℕ) → i < 5 → actual_entry v i ≡ actual_entry w i

-- the place of an entry among the fifteen pricing quantities
pricing_place : (r i : ℕ) → r ≤ i → i < 5 → pricing_row r + (i - r) < 15
pricing_place zero i l g = omega arith
pricing_place (suc zero) i l g = omega arith
pricing_place (suc (suc zero)) i l g = omega arith
pricing_place (suc (suc (suc zero))) i l g = omega arith
pricing_place (suc (suc (suc (suc zero)))) i l g = omega arith
pricing_place (suc (suc (suc (suc (suc r))))) i l g = absurd (omega arith)

module _ {v w : List ℕ} (a : Alike v w) where
  -- words
  pub participant_same : participant v ≡ participant w
  participant_same = a.front 0 (omega arith)

  pub point_same : point v ≡ point w
  point_same = a.front 1 (omega arith)

  pub side_same : side v ≡ side w
  side_same = a.front 2 (omega arith)

  pub accreditation_same : accreditation v ≡ accreditation w
  accreditation_same = a.front 3 (omega arith)

  pub hedge_same : hedge v ≡ hedge w
  hedge_same = a.front 4 (omega arith)

  -- bids
  pub count_same : (s : ℕ) → s < 5 → bid_count v s ≡ bid_count w s
  count_same s l = a.front (bid_word s) (omega arith)

  pub break_same : (s j : ℕ) → s < 5 → j ≤ 11 → bid_break v s j ≡ bid_break w s j
  break_same s j l g = a.front (bid_word s + 1 + j) (omega arith)

  pub price_same : (s j : ℕ) → s < 5 → j ≤ 11 → bid_price v s j ≡ bid_price w s j
  price_same s j l g = a.front (bid_word s + 12 + j) (omega arith)

  before_same : (s j : ℕ) → s < 5 → j ≤ 11 → before (bid_break v s) j ≡ before (bid_break w s) j
  unfolding before
  before_same s zero l g = refl
  before_same s (suc j) l g = break_same s j l (omega arith)

  -- the refusals of a bid
  break_fault_same : (s j : ℕ) → s < 5 → j ≤ 11 → break_fault v s j ≡ break_fault w s j
  unfolding break_fault
  break_fault_same s j l g =
      let e = break_same s j l g in
      let b = before_same s j l g in
      λ i. refuse 8 (leb (e i) (b i)) or_else refuse 8 (ltb quantity_most (e i))

  order_fault_same : (s j : ℕ) → s < 5 → j ≤ 11 → order_fault v s j ≡ order_fault w s j
  unfolding order_fault
  order_fault_same s zero l g = refl
  order_fault_same s (suc j) l g =
      let p = price_same s j l (omega arith) in
      let q = price_same s (suc j) l g in
      λ i. refuse 9 (out_of_order (side_same i) (p i) (q i))

  price_fault_same : (s j : ℕ) → s < 5 → j ≤ 11 → price_fault v s j ≡ price_fault w s j
  unfolding price_fault
  price_fault_same s j l g =
      let p = price_same s j l g in
      let o = order_fault_same s j l g in
      λ i. refuse 9 (ltb price_most (p i)) or_else o i

  unused_fault_same : (s j : ℕ) → s < 5 → bid_count w s + j ≤ 11 → unused_fault v s j ≡ unused_fault w s j
  unfolding unused_fault
  unused_fault_same s j l g =
      let c = count_same s l in
      let b = ap (λ (n : ℕ). bid_break v s (n + j)) c ∙ break_same s (bid_count w s + j) l g in
      let p = ap (λ (n : ℕ). bid_price v s (n + j)) c ∙ price_same s (bid_count w s + j) l g in
      λ i. refuse 10 (not (eqb (b i) 0)) or_else refuse 10 (not (eqb (p i) 0))

  module _ (s : ℕ) (l : s < 5) (few : bid_count w s ≤ 11) where
    breaks_fault_same : first (break_fault v s) (bid_count v s) ≡ first (break_fault w s) (bid_count w s)
    breaks_fault_same =
        first_counted (count_same s l) (break_fault v s) (break_fault w s) (λ j g. break_fault_same s j l (omega arith))

    prices_fault_same : first (price_fault v s) (bid_count v s) ≡ first (price_fault w s) (bid_count w s)
    prices_fault_same =
        first_counted (count_same s l) (price_fault v s) (price_fault w s) (λ j g. price_fault_same s j l (omega arith))

    unuseds_fault_same : first (unused_fault v s) (bid_slots - bid_count v s) ≡ first (unused_fault w s) (bid_slots - bid_count w s)
    unuseds_fault_same =
        first_counted (ap (λ (n : ℕ). bid_slots - n) (count_same s l)) (unused_fault v s) (unused_fault w s)
        (λ j g. unused_fault_same s j l (omega arith))

  -- past refusal 7 there are at most eleven
  bid_fault_same : (s : ℕ) → s < 5 → bid_fault v s ≡ bid_fault w s
  unfolding bid_fault
  bid_fault_same s l =
      let c = count_same s l in
      or_else_same (λ i. refuse 7 (eqb s 0 && eqb (c i) 0))
      (λ y.
      or_else_same (λ i. refuse 7 (ltb bid_slots (c i)))
      (λ z.
      let few = ltb-false 11 (bid_count w s) (refuse_zero 6 (ltb 11 (bid_count w s)) z) in
      let b = breaks_fault_same s l few in
      let p = prices_fault_same s l few in
      let u = unuseds_fault_same s l few in
      λ i. b i or_else p i or_else u i))

  pub bids_fault_same : first (bid_fault v) 5 ≡ first (bid_fault w) 5
  bids_fault_same = first_same 5 (bid_fault v) (bid_fault w) bid_fault_same

  pub head_fault_same : head_fault v ≡ head_fault w
  unfolding head_fault
  head_fault_same =
      let c = accreditation_same in
      λ i. refuse 6 (ltb 1 (side_same i)) or_else refuse 6 (ltb 1 (c i) && ltb (c i) 32) or_else refuse 6 (ltb 63 (c i))

  -- quantities
  pub pricing_same : (s : ℕ) → pricing_total v s ≡ pricing_total w s
  unfolding pricing_total
  pricing_same s =
      sum_same 5 (λ i. pricing_entry v (min s i) i) (λ i. pricing_entry w (min s i) i)
      (λ i l.
      let p = pricing_place (min s i) i (omega arith) l in
      a.front (120 + (pricing_row (min s i) + (i - min s i))) (omega arith))

  pub actual_same : (t : List (List ℕ)) → table_actual t v ≡ table_actual t w
  unfolding table_actual
  actual_same t =
      sum_same 5 (λ i. min (at (get_or t 4 []) i) (actual_entry v i)) (λ i. min (at (get_or t 4 []) i) (actual_entry w i))
      (λ i l. ap (λ (x : ℕ). min (at (get_or t 4 []) i) x) (a.actuals i l))

  pub actual_fault_same : (i : ℕ) → i < 5 → actual_fault v i ≡ actual_fault w i
  unfolding actual_fault
  actual_fault_same i l = ap (λ (x : ℕ). refuse 13 (ltb quantity_most x)) (a.actuals i l)
