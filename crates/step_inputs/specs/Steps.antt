-- Step j of line k of an accepted day is what the parts give, and its sizes.
use Rattle.std.specs.Prelude.{ℕ, ◌≤◌, ◌<◌, ◌≡◌, refl, List, Bool, true, false, cond, not, ◌&&◌, length, get_or, replicate, leb}
use Rattle.std.proofs.Common.{arith, ◌∙◌}
use Rattle.std.proofs.Math.Path.{ap}
use Rattle.rules.specs.Fold.{five}
use Rattle.rules.specs.Layout.{line_at, accreditation, hedge}
use Rattle.rules.specs.Steps.{ends, step_count, upper_end, lower_end, price, flag, capped, paid, holds_in, accredited, hedged}
use Rattle.rules.specs.Cutting.{cut_of, flag_word, price_row, prices, flags}
use Rattle.rules.specs.Quantities.{table_total, table_actual}
use Rattle.rules.specs.InForce.{table_in_force}
use Rattle.rules.specs.Payments.{bit}
use Rattle.rules.specs.Days.{step_of}
use Rattle.laws.specs.Folds.{sum_le, at_five, same_five}
use Rattle.laws.specs.Accepted.{AcceptedLine}
use Rattle.cutter.specs.Arrays.{bit_at, price_in, flag_in, bits_at, padded_at, padded_length, rows_at}
use Rattle.cutter.specs.Prices.{prices_at, prices_length, flags_at, flags_most}
use Rattle.cutter.specs.Ends.{count_most}
use Rattle.step_inputs.specs.Inputs.{market_of, totals_of, step_with}
use Rattle.step_terms.specs.Terms.{capped_at, capped_in, accredited_in, paid_row}

-- in each schedule a mark that one test decides, and nothing where another holds
both_none : (b : Bool) → bit (b && false) ≡ 0
both_none true = refl
both_none false = refl

both_all : (b : Bool) → bit (b && true) ≡ bit b
both_all true = refl
both_all false = refl

marks_by : (h : Bool) (f : ℕ → Bool) → cond h (replicate 5 0) (five (λ s. bit (f s))) ≡ five (λ s. bit (f s && not h))
marks_by true f = simp both_none
marks_by false f = simp both_all

-- the parts of `step_of`, with the cutter's rows
pub step_parts : (d : List ℕ) (k j : ℕ) (p f : List ℕ)
    → p ≡ five (λ s. price (line_at d k) s (upper_end (line_at d k) j)) → f ≡ five (λ s. flag (line_at d k) s (upper_end (line_at d k) j))
    → step_with (market_of d) (totals_of (table_in_force d k) (line_at d k)) (lower_end (line_at d k) j) (upper_end (line_at d k) j) p f ≡ step_of d k j
unfolding step_with market_of totals_of capped_in capped_at paid_row accredited_in step_of capped paid accredited hedged
step_parts d k j p f a b =
    let w = line_at d k in
    rw (a, b, marks_by (leb (upper_end w j) (hedge w)) (holds_in (accreditation w)))

-- rows of the cutter's answer
module _ (w : List ℕ) (h : AcceptedLine w) (j : ℕ) (l : j < step_count w) where
  few : j < 56
  few = omega (arith, count_most w h)

  pub end_is : get_or (cut_of w).ends j 0 ≡ upper_end w j
  unfolding cut_of upper_end
  end_is = padded_at 56 (ends w) j

  row_length : (s : ℕ) → s < 5 → length (price_row w s) ≡ 56
  unfolding price_row
  row_length s q = padded_length 56 (prices w s) (omega (arith, prices_length w s, count_most w h))

  price_is : (s : ℕ) → s < 5 → price_in (cut_of w).prices j s ≡ price w s (upper_end w j)
  unfolding price_in cut_of price_row
  price_is s q = rows_at 5 (price_row w) row_length s j q few ∙ padded_at 56 (prices w s) j ∙ prices_at w s j l

  flag_is : (s : ℕ) → s < 5 → flag_in (cut_of w).flags j s ≡ flag w s (upper_end w j)
  unfolding flag_in cut_of flag_word
  flag_is s q = ap (λ (x : ℕ). bit_at x j) (at_five (flag_word w) 0 s q) ∙ bits_at (flags w s) (flags_most w s) j ∙ flags_at w s j l

-- the step that the code puts together from the cutter's answer
pub step_is : (d : List ℕ) (k j : ℕ) → AcceptedLine (line_at d k) → j < step_count (line_at d k)
    → step_with (market_of d) (totals_of (table_in_force d k) (line_at d k)) (lower_end (line_at d k) j) (upper_end (line_at d k) j)
    (five (price_in (cut_of (line_at d k)).prices j)) (five (flag_in (cut_of (line_at d k)).flags j))
    ≡ step_of d k j
step_is d k j h l =
    let w = line_at d k in
    let p = price_is w h j l in
    let f = flag_is w h j l in
    step_parts d k j _ _
    (same_five (p 0 (omega arith)) (p 1 (omega arith)) (p 2 (omega arith)) (p 3 (omega arith)) (p 4 (omega arith)))
    (same_five (f 0 (omega arith)) (f 1 (omega arith)) (f 2 (omega arith)) (f 3 (omega arith)) (f 4 (omega arith)))

-- the effective actual is at most the last operating total
pub actual_most : (t : List (List ℕ)) (w : List ℕ) → table_actual t w ≤ table_total t 4
unfolding table_actual table_total
actual_most t w = sum_le 5 _ _ (λ i l. omega arith)
