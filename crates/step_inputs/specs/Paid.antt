-- How much a line is paid in a schedule: at most the limits of quantity and price multiplied, since the C of its steps add up to at most a quantity.
use Prim.Native.Nat.{ℕ, zero, suc, ◌*◌, ◌-◌, ◌≤◌, ◌<◌, min}
use Rattle.std.proofs.Common.{zero-mul, add-mul, mul-le-mul_right, arith, sym, ltb-true}
use Rattle.std.specs.Prelude.{◌≡◌, refl, List, Bool, true, false, cond, ltb, eqb, ℤ}
use Rattle.rules.specs.Fold.{sum_to, sum_z, at, before}
use Rattle.rules.specs.Layout.{quantity_most, price_most, most_lines, line_count, line_at, bid_count, bid_price, market_price, cap_mark, price_cap}
use Rattle.rules.specs.Steps.{step_count, upper_end, bid_step, source, last_price, price, capped}
use Rattle.rules.specs.Matching.{earlier, rise, fall}
use Rattle.rules.specs.declared.Step.{Step}
use Rattle.rules.specs.Payments.{on_step, is_paid, Day, pool_of, step_final}
use Rattle.rules.specs.Totals.{line_payment, totals}
use Rattle.rules.specs.Days.{step_of, settled_day}
use Rattle.laws.specs.Accepted.{AcceptedLine, AcceptedDay, accepted_line_at}
use Rattle.laws.specs.Sources.{nearest}
use Rattle.laws.specs.Folds.{sum_none, sum_suc, sum_le, sum_most, sum_z_none, sum_z_suc}
use Rattle.laws.specs.Ints.{pl, mi, apart, pl_add, mi_add}
use Rattle.day_totals.specs.Sizes.{size, Bounded}
use Rattle.day_totals.specs.Money.{totals_bounded}
use Rattle.numbers.specs.Fives.{five_most}
use Rattle.step_quantities.specs.Adding.{step_constrained, constrained_within}
use Rattle.step_payments.specs.Sizes.{Sized}
use Rattle.step_payments.specs.Parts.{change_on}
use Rattle.step_payments.specs.Kinds.{paid_most, taken_most}
use Rattle.cutter.specs.Ends.{count_most, most_limit}
use Rattle.step_inputs.specs.Ends.{line_ends, upper_most}

-- what a sum has above 0 is at most what its terms have, and so below 0
pub plus_most : (n : ℕ) (f : ℕ → ℤ) → pl (sum_z n f) ≤ sum_to n (λ i. pl (f i))
plus_most zero f = rw (sum_z_none f) (omega arith)
plus_most (suc n) f =
    let r = plus_most n f in
    rw (sum_z_suc n f, sum_suc n (λ i. pl (f i))) (omega (arith, pl_add (sum_z n f) (f n)))

pub minus_most : (n : ℕ) (f : ℕ → ℤ) → mi (sum_z n f) ≤ sum_to n (λ i. mi (f i))
minus_most zero f = rw (sum_z_none f) (omega arith)
minus_most (suc n) f =
    let r = minus_most n f in
    rw (sum_z_suc n f, sum_suc n (λ i. mi (f i))) (omega (arith, mi_add (sum_z n f) (f n)))

-- terms of at most g i times b
scaled : (n b : ℕ) (f : ℕ → ℕ) → sum_to n (λ i. f i * b) ≡ sum_to n f * b
scaled zero b f = rw (sum_none (λ i. f i * b), sum_none f) (sym (zero-mul b))
scaled (suc n) b f =
    let r = scaled n b f in
    rw (sum_suc n (λ i. f i * b), sum_suc n f, r) (sym (add-mul (sum_to n f) (f n) b))

pub scaled_most : (n b m : ℕ) (f g : ℕ → ℕ) → ((i : ℕ) → i < n → f i ≤ g i * b) → sum_to n g ≤ m → sum_to n f ≤ m * b
scaled_most n b m f g h k =
    let r = sum_le n f (λ i. g i * b) h in
    let e = scaled n b g in
    let q = mul-le-mul_right b k in
    omega arith

-- A day within the limits: all that the laws of pools, payments and totals ask of a day's steps.
pub record DaySized (y : Day) : Type 0 where
  pub lines : y.lines ≤ most_lines
  pub counts : (k : ℕ) → k < y.lines → y.count k ≤ 56
  pub steps : (k : ℕ) → k < y.lines → (j : ℕ) → j < y.count k → Sized (y.step k j)
  -- C(s) of a line's steps adds up to at most the quantity limit
  pub constrained : (k : ℕ) → k < y.lines → (s : ℕ) → s < 5 → sum_to (y.count k) (λ j. at (on_step (y.step k j)) s) ≤ quantity_most

-- a figure of the steps added up over line k
unfoldable pub step_at : (Step → ℕ → ℕ) → Day → ℕ → ℕ → ℕ → ℕ
step_at q y s k j = q (y.step k j) s

unfoldable pub line_sum : (Step → ℕ → ℕ) → Day → ℕ → ℕ → ℕ
line_sum q y s k = sum_to (y.count k) (step_at q y s k)

-- one part of the steps' final payments in s, what is paid or what is taken back, and of line k's
unfoldable pub step_amount : (ℤ → ℕ) → Day → ℕ → ℕ → ℕ → ℕ
step_amount part y s k j = part (step_final y s k j)

unfoldable pub line_amount : (ℤ → ℕ) → Day → ℕ → ℕ → ℕ
line_amount part y s k = sum_to (y.count k) (step_amount part y s k)

-- a rise or a fall that is paid is at most the whole one
change_by : (t : Bool) (c : ℕ) → cond t c 0 ≤ c
change_by true c = omega arith
change_by false c = omega arith

module _ (y : Day) (z : DaySized y) (k : ℕ) (l : k < y.lines) where
  -- and so does C(s-1)
  earlier_most : (s : ℕ) → s < 5 → sum_to (y.count k) (λ j. earlier (on_step (y.step k j)) s) ≤ quantity_most
  unfolding earlier before
  earlier_most zero i = omega (arith, sum_most (y.count k) 0 (λ j. 0) (λ j g. omega arith))
  earlier_most (suc s) i = z.constrained k l s (omega arith)

  -- and so do the paid rises, and the paid falls
  pub rises_most : (s : ℕ) → s < 5 → line_sum (change_on rise) y s k ≤ quantity_most
  unfolding line_sum step_at change_on rise
  rises_most s i =
      let x = y.step k in
      let r = sum_le (y.count k) (step_at (change_on rise) y s k) (λ j. at (on_step (x j)) s) (λ j g. omega (arith, change_by (is_paid (x j) s) (rise (on_step (x j)) s))) in
      omega (arith, z.constrained k l s i)

  pub falls_most : (s : ℕ) → s < 5 → line_sum (change_on fall) y s k ≤ quantity_most
  unfolding line_sum step_at change_on fall
  falls_most s i =
      let x = y.step k in
      let r = sum_le (y.count k) (step_at (change_on fall) y s k) (λ j. earlier (on_step (x j)) s) (λ j g. omega (arith, change_by (is_paid (x j) s) (fall (on_step (x j)) s))) in
      omega (arith, earlier_most s i)

  -- what its steps are paid, and what is taken back from them
  pub line_paid_most : (s : ℕ) → s < 5 → line_amount pl y s k ≤ quantity_most * price_most
  unfolding line_amount step_amount step_final line_sum step_at
  line_paid_most s i =
      scaled_most (y.count k) price_most quantity_most _ (step_at (change_on rise) y s k)
      (λ j g. paid_most (y.step k j) y.clawback s (pool_of y (y.side k) s) (z.steps k l j g))
      (rises_most s i)

  pub line_taken_most : (s : ℕ) → s < 5 → line_amount mi y s k ≤ quantity_most * price_most
  unfolding line_amount step_amount step_final line_sum step_at
  line_taken_most s i =
      scaled_most (y.count k) price_most quantity_most _ (step_at (change_on fall) y s k)
      (λ j g. taken_most (y.step k j) y.clawback s (pool_of y (y.side k) s) (z.steps k l j g))
      (falls_most s i)

  pub payment_size : (s : ℕ) → s < 5 → size (line_payment y s k) ≤ quantity_most * price_most
  unfolding line_payment line_amount step_amount
  payment_size s i =
      let n = y.count k in
      let f = step_final y s k in
      omega (arith, line_paid_most s i, line_taken_most s i, plus_most n f, minus_most n f, apart (sum_z n f))

pub day_bounded : (y : Day) → DaySized y → Bounded (totals y)
day_bounded y z = totals_bounded y z.lines (payment_size y z)

-- a step's price is within the limit: it is one of the bid's or the last of an earlier one's
last_most : (w : List ℕ) → AcceptedLine w → (s : ℕ) → s < 5 → last_price w (source w s) ≤ price_most
unfolding last_price
last_most w h s l =
    let n = nearest w h s l in
    let b = n.within in
    let c = n.some in
    (h.bids (source w s) (omega arith)).price_most_lem (bid_count w (source w s) - 1) (omega arith)

price_by : (w : List ℕ) → AcceptedLine w → (s : ℕ) → s < 5 → (i : ℕ) (t : Bool) → ltb i (bid_count w s) ≡ t → cond t (bid_price w s i) (last_price w (source w s)) ≤ price_most
price_by w h s l i true e = (h.bids s l).price_most_lem i (ltb-true i (bid_count w s) e)
price_by w h s l i false e = last_most w h s l

pub price_most_lem : (w : List ℕ) → AcceptedLine w → (s u : ℕ) → s < 5 → price w s u ≤ price_most
unfolding price
price_most_lem w h s u l = price_by w h s l (bid_step w s u) (ltb (bid_step w s u) (bid_count w s)) refl

capped_by : (t : Bool) (p c b : ℕ) → p ≤ b → cond t (min p c) p ≤ b
capped_by true p c b h = omega arith
capped_by false p c b h = h

module _ (d : List ℕ) (a : AcceptedDay d) where
  module _ (k : ℕ) (l : k < line_count d) where
    abbrev w : List ℕ
    w = line_at d k

    line : AcceptedLine w
    line = accepted_line_at d a k l

    sized : (j : ℕ) → j < step_count w → Sized (step_of d k j)
    unfolding step_of capped
    sized j g =
        record {
          upper = omega (arith, upper_most w line j g, most_limit w line);
          prices =
              five_most (λ s. capped d s (price w s (upper_end w j))) price_most
              (λ s i. capped_by (eqb (cap_mark d s) 1) (price w s (upper_end w j)) (price_cap d) price_most (price_most_lem w line s (upper_end w j) i));
          markets = five_most (market_price d) price_most (λ s i. a.market.price_most_lem s i);
        }

    constrained_most : (s : ℕ) → s < 5 → sum_to (step_count w) (λ j. at (on_step (step_of d k j)) s) ≤ quantity_most
    unfolding step_constrained
    constrained_most s i =
        omega (arith, constrained_within d k (line_ends w line) s i, most_limit w line)

  -- the day of an accepted file is within them
  pub settled_sized : DaySized (settled_day d)
  settled_sized =
      record {
        lines = a.header.count_most;
        counts = λ k l. count_most (line_at d k) (accepted_line_at d a k l);
        steps = sized;
        constrained = constrained_most;
      }
