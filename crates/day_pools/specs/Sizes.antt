-- Sizes of the pools of a day within the limits: no sum leaves its word, and a step is in its side's pool.
use Rattle.std.specs.Prelude.{ℕ, zero, suc, ◌*◌, ◌≤◌, ◌<◌, ◌≡◌, refl, Bool, not, cond}
use Rattle.std.proofs.Common.{le_trans, mul-le-mul_right, arith, ◌∙◌, eq-eqb}
use Rattle.std.proofs.Math.Nat.{mul-le-mul_left}
use Rattle.std.proofs.Math.Decide.{dec_lt}
use Rattle.std.proofs.Math.Path.{ap}
use mathlib.Core.List.{List}
use Rattle.std.proofs.Math.Bool.{true, false}
use Rattle.rules.specs.Fold.{sum_to, at, eqb_z}
use Rattle.rules.specs.Layout.{quantity_most, price_most}
use Rattle.rules.specs.Matching.{rise, fall}
use Rattle.rules.specs.Payments.{bit, revised, initial, Day}
use Rattle.rules.specs.declared.Step.{Step}
use Rattle.laws.specs.Folds.{sum_most, sum_term, sum_suc, at_five}
use Rattle.numbers.specs.Fives.{past_five}
use Rattle.step_payments.specs.Sizes.{rate_most}
use Rattle.step_payments.specs.Parts.{change_on, initial_plus, revised_plus, revised_most}
use Rattle.step_payments.specs.Kinds.{initial_most}
use Rattle.step_pool.specs.Amounts.{sum_in, differs_on, Addable, InPool}
use Rattle.step_pool.specs.declared.pool_amounts.SidePool.{SidePool}
use Rattle.step_inputs.specs.Paid.{DaySized, step_at, line_sum, scaled_most, rises_most, falls_most}
use Rattle.day_pools.specs.Sums.{row_to, pool_to}
use Rattle.day_pools.specs.Sides.{of_side, step_pool_at, line_pool, side_part, side_pool, side_at, side_sum, Row, revised_paid, revised_taken}
use Rattle.day_pools.specs.Sides.{plus_row, minus_row, rises_row, falls_row, differs_row, steps_place, part_place, lines_place, side_place}

-- fewer terms add up to no more
pub sum_fewer : (m n : ℕ) (f : ℕ → ℕ) → m ≤ n → sum_to m f ≤ sum_to n f
sum_fewer m zero f h = let e : m ≡ 0 = omega arith in rw e (omega arith)
sum_fewer m (suc n) f h =
    let r = sum_fewer m n f in
    elim (dec_lt n m) [
      | yes l ↦ let e : m ≡ suc n = omega arith in rw e (omega arith)
      | no g ↦ let q = r (omega arith) in rw (sum_suc n f) (omega arith)
    ]

module _ (y : Day) (z : DaySized y) where
  paid_most : (k : ℕ) → k < y.lines → (s : ℕ) → s < 5 → line_sum revised_paid y s k ≤ quantity_most * price_most
  unfolding line_sum step_at revised_paid
  paid_most k l s i =
      scaled_most (y.count k) price_most quantity_most _ (step_at (change_on rise) y s k)
      (λ j h.
      let x = y.step k j in
      let m = mul-le-mul_left (change_on rise x s) (rate_most x s (z.steps k l j h)) in
      omega (arith, revised_plus x s, initial_plus x s))
      (rises_most y z k l s i)

  taken_most : (k : ℕ) → k < y.lines → (s : ℕ) → s < 5 → line_sum revised_taken y s k ≤ quantity_most * price_most
  unfolding line_sum step_at revised_taken
  taken_most k l s i =
      scaled_most (y.count k) price_most quantity_most _ (step_at (change_on fall) y s k)
      (λ j h.
      let x = y.step k j in
      omega (arith, revised_most x s, initial_most x s (z.steps k l j h)))
      (falls_most y z k l s i)

  bit_most : (t : Bool) → bit t ≤ 1
  bit_most true = omega arith
  bit_most false = omega arith

  differs_most : (k : ℕ) → k < y.lines → (s : ℕ) → s < 5 → line_sum differs_on y s k ≤ 56
  unfolding line_sum step_at differs_on
  differs_most k l s i =
      let m = sum_most (y.count k) 1 _ (λ j h. bit_most (not (eqb_z (revised (y.step k j) s) (initial (y.step k j) s)))) in
      omega (arith, z.counts k l)

-- additions of one row
module _ (of : SidePool → List ℕ) (q : Step → ℕ → ℕ) (row : Row of q) (y : Day) (b : ℕ) (most : (k : ℕ) → k < y.lines → (s : ℕ) → s < 5 → line_sum q y s k ≤ b) where
  past_steps : (k n s : ℕ) → 5 ≤ s → at (of (pool_to n (step_pool_at y k))) s ≡ 0
  past_steps k n s h = ap (λ (r : List ℕ). at r s) (row.sum n (step_pool_at y k)) ∙ past_five (row_to n (λ i. of (step_pool_at y k i))) s h

  past_step : (k j s : ℕ) → 5 ≤ s → at (of (step_pool_at y k j)) s ≡ 0
  unfolding step_pool_at
  past_step k j s h = ap (λ (r : List ℕ). at r s) (row.step (y.step k j)) ∙ past_five (q (y.step k j)) s h

  step_is : (k j s : ℕ) → s < 5 → at (of (step_pool_at y k j)) s ≡ step_at q y s k j
  unfolding step_pool_at step_at
  step_is k j s l = ap (λ (r : List ℕ). at r s) (row.step (y.step k j)) ∙ at_five (q (y.step k j)) 0 s l

  pub steps_add : (k n : ℕ) → k < y.lines → n < y.count k → (s : ℕ) → sum_in (of (pool_to n (step_pool_at y k))) (of (step_pool_at y k n)) s ≤ b
  unfolding sum_in line_sum
  steps_add k n l h s =
      elim (dec_lt s 5) [
        | yes i ↦
            let f = step_at q y s k in
            let m = sum_fewer (suc n) (y.count k) f (omega arith) in
            omega (arith, steps_place of q row y s i k n, step_is k n s i, sum_suc n f, most k l s i)
        | no g ↦ omega (arith, past_steps k n s (omega arith), past_step k n s (omega arith))
      ]

  side_by : (sd k s : ℕ) (t : Bool) → k < y.lines → s < 5 → cond t (line_sum q y s k) 0 ≤ b
  side_by sd k s true l i = most k l s i
  side_by sd k s false l i = omega arith

  side_most : (sd k s : ℕ) → k < y.lines → s < 5 → side_at q y sd s k ≤ b
  unfolding side_at
  side_most sd k s l i = side_by sd k s (of_side y sd k) l i

  past_lines : (sd n s : ℕ) → 5 ≤ s → at (of (pool_to n (side_part y sd))) s ≡ 0
  past_lines sd n s h = ap (λ (r : List ℕ). at r s) (row.sum n (side_part y sd)) ∙ past_five (row_to n (λ i. of (side_part y sd i))) s h

  past_by : (k s : ℕ) (t : Bool) → 5 ≤ s → at (of (cond t (line_pool y k) (pool_to 0 (step_pool_at y k)))) s ≡ 0
  unfolding line_pool
  past_by k s true h = past_steps k (y.count k) s h
  past_by k s false h = past_steps k 0 s h

  past_part : (sd k s : ℕ) → 5 ≤ s → at (of (side_part y sd k)) s ≡ 0
  unfolding side_part
  past_part sd k s h = past_by k s (of_side y sd k) h

  pub lines_add : (sd n : ℕ) → n < y.lines → (s : ℕ) → sum_in (of (pool_to n (side_part y sd))) (of (side_part y sd n)) s ≤ y.lines * b
  unfolding sum_in
  lines_add sd n h s =
      elim (dec_lt s 5) [
        | yes i ↦
            let f = side_at q y sd s in
            let m = sum_fewer (suc n) y.lines f (omega arith) in
            let t = sum_most y.lines b f (λ k l. side_most sd k s l i) in
            omega (arith, lines_place of q row y s i sd n, part_place of q row y s i sd n, sum_suc n f)
        | no g ↦ omega (arith, past_lines sd n s (omega arith), past_part sd n s (omega arith))
      ]

  pub side_within : (sd s : ℕ) → at (of (side_pool y sd)) s ≤ y.lines * b
  unfolding side_pool
  side_within sd s =
      elim (dec_lt s 5) [
        | yes i ↦
            let t = sum_most y.lines b (side_at q y sd s) (λ k l. side_most sd k s l i) in
            omega (arith, lines_place of q row y s i sd y.lines)
        | no g ↦ omega (arith, past_lines sd y.lines s (omega arith))
      ]

  -- a step's figure is at most its side's
  pub step_within : (k j s : ℕ) → k < y.lines → j < y.count k → s < 5 → q (y.step k j) s ≤ at (of (side_pool y (y.side k))) s
  unfolding line_sum step_at side_sum side_at
  step_within k j s l h i =
      let sd = y.side k in
      let f = step_at q y s k in
      let one = sum_term (y.count k) f j h in
      let all = sum_term y.lines (side_at q y sd s) k l in
      let own : side_at q y sd s k ≡ line_sum q y s k = rw (eq-eqb sd sd refl) in
      omega (arith, side_place of q row y s i sd)

module _ (y : Day) (z : DaySized y) where
  lines_most : (b m : ℕ) → 64 * b ≤ m → y.lines * b ≤ m
  lines_most b m h = le_trans (mul-le-mul_right b z.lines) h

  pub steps_addable : (k n : ℕ) → k < y.lines → n < y.count k → Addable (pool_to n (step_pool_at y k)) (step_pool_at y k n)
  steps_addable k n l h =
      record {
        plus = λ s. omega (arith, steps_add (λ p. p.plus) revised_paid plus_row y _ (paid_most y z) k n l h s);
        minus = λ s. omega (arith, steps_add (λ p. p.minus) revised_taken minus_row y _ (taken_most y z) k n l h s);
        rises = λ s. omega (arith, steps_add (λ p. p.rises) (change_on rise) rises_row y _ (rises_most y z) k n l h s);
        falls = λ s. omega (arith, steps_add (λ p. p.falls) (change_on fall) falls_row y _ (falls_most y z) k n l h s);
        differs = λ s. omega (arith, steps_add (λ p. p.differs) differs_on differs_row y _ (differs_most y z) k n l h s);
      }

  pub lines_addable : (sd n : ℕ) → n < y.lines → Addable (pool_to n (side_part y sd)) (side_part y sd n)
  lines_addable sd n h =
      let money = lines_most (quantity_most * price_most) 128000000000000000 (omega arith) in
      let gas = lines_most quantity_most 12800000000 (omega arith) in
      let marks = lines_most 56 3584 (omega arith) in
      record {
        plus = λ s. omega (arith, lines_add (λ p. p.plus) revised_paid plus_row y _ (paid_most y z) sd n h s);
        minus = λ s. omega (arith, lines_add (λ p. p.minus) revised_taken minus_row y _ (taken_most y z) sd n h s);
        rises = λ s. omega (arith, lines_add (λ p. p.rises) (change_on rise) rises_row y _ (rises_most y z) sd n h s);
        falls = λ s. omega (arith, lines_add (λ p. p.falls) (change_on fall) falls_row y _ (falls_most y z) sd n h s);
        differs = λ s. omega (arith, lines_add (λ p. p.differs) differs_on differs_row y _ (differs_most y z) sd n h s);
      }

  pub in_pool : (k j : ℕ) → k < y.lines → j < y.count k → InPool (y.step k j) (side_pool y (y.side k))
  in_pool k j l h =
      let sd = y.side k in
      let gas = lines_most quantity_most 12800000000 (omega arith) in
      let money = lines_most (quantity_most * price_most) 128000000000000000 (omega arith) in
      record {
        within = λ s i. step_within (λ p. p.falls) (change_on fall) falls_row y _ (falls_most y z) k j s l h i;
        rising = λ s i. omega (arith, side_within (λ p. p.rises) (change_on rise) rises_row y _ (rises_most y z) sd s);
        falling = λ s i. omega (arith, side_within (λ p. p.falls) (change_on fall) falls_row y _ (falls_most y z) sd s);
        paying = λ s i. omega (arith, side_within (λ p. p.plus) revised_paid plus_row y _ (paid_most y z) sd s);
      }
