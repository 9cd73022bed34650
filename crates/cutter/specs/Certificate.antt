-- The cutter's certificate: what its answer for an accepted line says, place by place. The side stands only in `out_of_order`.
use Prim.Native.Nat.{ℕ, zero, suc, ◌+◌, ◌*◌, ◌-◌, ◌≤◌, ◌<◌}
use Rattle.std.proofs.Common.{arith, ◌∙◌, ap, eq-eqb, eqb-true}
use Rattle.std.specs.Prelude.{◌≡◌, Bool, true, false, cond, List, length, eqb}
use Rattle.std.proofs.Math.Path.{refl, sym}
use Rattle.std.proofs.Math.ListN.{get_or}
use Rattle.rules.specs.Fold.{before, sum_to}
use Rattle.rules.specs.Layout.{side}
use Rattle.rules.specs.Steps.{ends, step_count, upper_end, greatest_break, price, flag}
use Rattle.rules.specs.Refusals.{cut_fault, out_of_order}
use Rattle.rules.specs.Cutting.{prices, flags, flag_word, missing, price_row, cut_of, cut_refused, cut_answer}
use Rattle.rules.specs.declared.Cut.{Cut}
use Rattle.laws.specs.Folds.{or_else_both, sum_none, sum_suc, sum_same, at_five}
use Rattle.laws.specs.Accepted.{AcceptedLine, accepted_line}
use Rattle.cutter.specs.Lists.{rises_at, rises_mono}
use Rattle.cutter.specs.Ends.{EndOf, ends_rise, count_most}
use Rattle.cutter.specs.Prices.{PriceRule, prices_length, prices_at, flags_length, flags_at, flags_most}
use Rattle.cutter.specs.Arrays.{bit_at, padded_at, padded_length, rows_at, bits_at, sum_places}

-- the answer's upper end of step k, the one before (0 before the first), and the width
unfoldable pub end_at : Cut → ℕ → ℕ
end_at r k = get_or r.ends k 0

unfoldable pub width_at : Cut → ℕ → ℕ
width_at r k = end_at r k - before (end_at r) k

-- its price and its flag in schedule s
unfoldable pub price_at : Cut → ℕ → ℕ → ℕ
price_at r s k = get_or r.prices (56 * s + k) 0

unfoldable pub flag_at : Cut → ℕ → ℕ → ℕ
flag_at r s k = bit_at (get_or r.flags s 0) k

-- u is the upper end of one of the answer's steps
pub record IsEnd (r : Cut) (u : ℕ) : Type 0 where
  pub step : ℕ
  pub below : step < r.count
  pub same : end_at r step ≡ u

pub record CutterCertificate (w : List ℕ) (r : Cut) : Type 0 where
  -- the ends strictly rise from above 0
  pub rise : (k : ℕ) → k < r.count → before (end_at r) k < end_at r k
  -- a number is an end exactly when it is a break of one of the five bids, or the hedge where that isn't 0
  pub only : (u : ℕ) → IsEnd r u → EndOf w u
  pub every : (u : ℕ) → EndOf w u → IsEnd r u
  -- there is a step, and there are at most 56
  pub some : 0 < r.count
  pub few : r.count ≤ 56
  -- the last end is M
  pub last : end_at r (r.count - 1) ≡ greatest_break w
  -- the widths are above 0 and add up to M
  pub wide : (k : ℕ) → k < r.count → 0 < width_at r k
  pub whole : sum_to r.count (width_at r) ≡ greatest_break w
  -- each step's price and flag in each schedule are those of the price rule
  pub priced : (s k : ℕ) → s < 5 → k < r.count → PriceRule w s (end_at r k) (price_at r s k) (flag_at r s k)
  -- the flagged steps of a schedule are a run at the end, and the answer says how many they are
  pub run : (s j k : ℕ) → s < 5 → j ≤ k → k < r.count → flag_at r s j ≡ 1 → flag_at r s k ≡ 1
  pub counted : (s : ℕ) → s < 5 → get_or r.missing s 0 ≡ sum_to r.count (flag_at r s)
  -- along the steps of one schedule prices never fall (injection) and never rise (withdrawal)
  pub order : (s j k : ℕ) → s < 5 → j ≤ k → k < r.count → out_of_order (side w) (price_at r s j) (price_at r s k) ≡ false

-- (that the answer is so is in proofs/Certificate.antt)

-- an answer for a line with no fault is the whole one
number_by : (w : List ℕ) (n : ℕ) (t : Bool) → eqb n 0 ≡ t → (cond t (cut_of w) (cut_refused n)).number ≡ 0 → n ≡ 0
unfolding cut_of cut_refused
number_by w n true e p = eqb-true n 0 e
number_by w n false e p = p

pub fault_none : (w : List ℕ) → (cut_answer w).number ≡ 0 → cut_fault w ≡ 0
unfolding cut_answer
fault_none w e = number_by w (cut_fault w) (eqb (cut_fault w) 0) refl e

pub answer_whole : (w : List ℕ) → cut_fault w ≡ 0 → cut_answer w ≡ cut_of w
unfolding cut_answer
answer_whole w e = rw (eq-eqb (cut_fault w) 0 e)

-- the answer's places
module _ (w : List ℕ) (h : AcceptedLine w) where
  pub end_at_lem : (k : ℕ) → end_at (cut_of w) k ≡ upper_end w k
  unfolding end_at cut_of upper_end
  end_at_lem k = padded_at 56 (ends w) k

  pub before_at : (k : ℕ) → before (end_at (cut_of w)) k ≡ before (upper_end w) k
  unfolding before
  before_at zero = refl
  before_at (suc k) = end_at_lem k

  pub width_at_lem : (k : ℕ) → width_at (cut_of w) k ≡ upper_end w k - before (upper_end w) k
  unfolding width_at
  width_at_lem k = rw (end_at_lem k, before_at k)

  row_length : (s : ℕ) → length (price_row w s) ≡ 56
  unfolding price_row
  row_length s =
      let c = count_most w h in
      padded_length 56 (prices w s) (rw (prices_length w s) c)

  pub price_at_lem : (s k : ℕ) → s < 5 → k < step_count w → price_at (cut_of w) s k ≡ price w s (upper_end w k)
  unfolding price_at cut_of price_row
  price_at_lem s k a b =
      let c = count_most w h in
      rows_at 5 (price_row w) (λ i l. row_length i) s k a (omega arith) ∙ padded_at 56 (prices w s) k ∙ prices_at w s k b

  bit_at_lem : (s k : ℕ) → s < 5 → flag_at (cut_of w) s k ≡ get_or (flags w s) k 0
  unfolding flag_at cut_of flag_word
  bit_at_lem s k a = rw (at_five (flag_word w) 0 s a) (bits_at (flags w s) (flags_most w s) k)

  pub flag_at_lem : (s k : ℕ) → s < 5 → k < step_count w → flag_at (cut_of w) s k ≡ flag w s (upper_end w k)
  flag_at_lem s k a b = bit_at_lem s k a ∙ flags_at w s k b

  pub missing_at : (s : ℕ) → s < 5 → get_or (cut_of w).missing s 0 ≡ sum_to (step_count w) (flag_at (cut_of w) s)
  unfolding cut_of missing
  missing_at s a =
      at_five (missing w) 0 s a
      ∙ sum_places (flags w s)
      ∙ rw (flags_length w s) (sum_same (step_count w) (λ k. get_or (flags w s) k 0) (flag_at (cut_of w) s) (λ k l. sym (bit_at_lem s k a)))

  pub end_rises : (k : ℕ) → k < step_count w → before (upper_end w) k < upper_end w k
  unfolding step_count upper_end before
  end_rises zero b = rises_at (ends_rise w h) 0 b
  end_rises (suc k) b = rises_at (ends_rise w h) (suc k) b

  pub end_mono : (j k : ℕ) → j ≤ k → k < step_count w → upper_end w j ≤ upper_end w k
  unfolding step_count upper_end
  end_mono j k a b = rises_mono (ends_rise w h) j k a b

-- differences of a rising row add up to its last
pub telescopes : (n : ℕ) (f : ℕ → ℕ) → ((k : ℕ) → k < n → before f k < f k) → sum_to n (λ k. f k - before f k) ≡ before f n
unfolding before
telescopes zero f h = sum_none (λ k. f k - before f k)
telescopes (suc n) f h =
    let r = telescopes n f (λ k l. h k (omega arith)) in
    let a = h n (omega arith) in
    sum_suc n (λ k. f k - before f k) ∙ omega arith

pub before_last : (n : ℕ) (f : ℕ → ℕ) → 0 < n → before f n ≡ f (n - 1)
unfolding before
before_last zero f h = absurd (omega arith)
before_last (suc n) f h = ap f (omega arith)

-- an answer has at most 56 steps, a refused one too
count_by : (w : List ℕ) (t : Bool) → eqb (cut_fault w) 0 ≡ t → (cond t (cut_of w) (cut_refused (cut_fault w))).count ≤ 56
unfolding cut_of cut_refused cut_fault
count_by w true e = count_most w (accepted_line w (or_else_both _ _ (eqb-true (cut_fault w) 0 e)).right)
count_by w false e = omega arith

pub answer_count : (w : List ℕ) (r : Cut) → r ≡ cut_answer w → r.count ≤ 56
unfolding cut_answer
answer_count w r e = rw e (count_by w (eqb (cut_fault w) 0) refl)
