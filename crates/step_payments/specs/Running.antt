-- Document 02, F-14, of one step: the running sum of its modified payments, where it is paid in all schedules so far, is what is open of its rises,
-- each at the rate of the schedule where it rose, and what falls at a rate of 0 took of earlier rises, at those rises' rates.
use Rattle.std.specs.Prelude.{ℕ, zero, suc, ◌+◌, ◌*◌, ◌<◌, ◌≡◌, refl, true, false, cond, ◌&&◌, eqb, ltb, ℤ, pos, ◌+ℤ◌}
use Rattle.std.proofs.Common.{zero-mul, mul-zero, arith, ◌∙◌, ap, true≢false, ne_eqb, lt-ltb}
use Rattle.std.proofs.Math.Dec.{eqb-suc-zero}
use Rattle.rules.specs.Fold.{sum_to, sum_z}
use Rattle.rules.specs.Matching.{rise, fall}
use Rattle.rules.specs.Payments.{on_step, rate, is_paid, given_back, initial, modified}
use Rattle.rules.specs.declared.Step.{Step}
use Rattle.laws.specs.Folds.{sum_none, sum_suc, sum_z_none, sum_z_suc}
use Rattle.laws.specs.Ints.{pl, mi, eq_z, add_read}
use Rattle.step_matching.specs.OpenValue.{open_value, taken_value, open_none, open_next, taken_none}
use Rattle.step_payments.specs.Parts.{change_on, initial_plus, initial_minus, modified_plus, modified_minus}

-- what a fall of s at a rate of 0 took of earlier rises, at their rates: 0 at any other rate
unfoldable pub taken_at_zero_on : Step → ℕ → ℕ
taken_at_zero_on x s = cond (eqb (rate x s) 0) (given_back x s (rate x)) 0

-- a paid step's rise is paid at the rate of its schedule
modified_rise : (x : Step) (s : ℕ) → is_paid x s ≡ true → pl (modified x s) ≡ rise (on_step x) s * rate x s
unfolding change_on
modified_rise x s p = modified_plus x s ∙ initial_plus x s ∙ rw p

-- its fall is taken back at the rates of the rises that it takes from, but at a rate of 0 nothing is
at_zero_by : (d n g : ℕ) → (d ≡ 0 → g ≡ 0) → cond (eqb (d * n) 0) 0 g + cond (eqb n 0) g 0 ≡ g
at_zero_by d zero g h = rw (mul-zero d) (omega arith)
at_zero_by zero (suc n) g h = rw (zero-mul (suc n), eqb-suc-zero n) (omega (arith, h refl))
at_zero_by (suc d) (suc n) g h = rw (ne_eqb (suc d * suc n) 0 (λ e. omega arith), eqb-suc-zero n) (omega arith)

given_none : (x : Step) (s : ℕ) → fall (on_step x) s ≡ 0 → given_back x s (rate x) ≡ 0
unfolding given_back taken_value
given_none x s e = taken_none (on_step x) (rate x) s e

modified_fall : (x : Step) (s : ℕ) → is_paid x s ≡ true → mi (modified x s) + taken_at_zero_on x s ≡ given_back x s (rate x)
unfolding change_on taken_at_zero_on
modified_fall x s p =
    let e : mi (initial x s) ≡ fall (on_step x) s * rate x s = initial_minus x s ∙ rw p in
    rw (modified_minus x s, e) (at_zero_by (fall (on_step x) s) (rate x s) (given_back x s (rate x)) (given_none x s))

-- a schedule more
sum_next : (a b k g u : ℕ) (z : ℤ) → pl z ≡ u → mi z + k ≡ g → b + g ≡ a + u → (t : ℕ) → pos (a + t) +ℤ z ≡ pos (b + (t + k))
sum_next a b k g u z p m o t = eq_z (pos (a + t) +ℤ z) (pos (b + (t + k))) (omega (arith, add_read (pos (a + t)) z))

-- THE EXACT DIFFERENCE, for any number of schedules
pub running_sum_lem : (x : Step) (n : ℕ) → ((s : ℕ) → s < n → is_paid x s ≡ true) → sum_z n (modified x) ≡ pos (open_value (on_step x) (rate x) n + sum_to n (taken_at_zero_on x))
unfolding given_back taken_value
running_sum_lem x zero h = rw (sum_z_none (modified x), sum_none (taken_at_zero_on x)) (ap pos (omega (arith, open_none (on_step x) (rate x))))
running_sum_lem x (suc n) h =
    let c = on_step x in
    rw (sum_z_suc n (modified x), sum_suc n (taken_at_zero_on x), running_sum_lem x n (λ s l. h s (omega arith)))
    (sum_next (open_value c (rate x) n) (open_value c (rate x) (suc n)) (taken_at_zero_on x n) (given_back x n (rate x)) (rise c n * rate x n) (modified x n)
    (modified_rise x n (h n (omega arith))) (modified_fall x n (h n (omega arith))) (open_next c (rate x) n) (sum_to n (taken_at_zero_on x)))

-- it is 0 where the schedule has no fall, or one at a rate above 0
at_zero_none_by : (d n g : ℕ) → (d ≡ 0 → g ≡ 0) → (ltb 0 d && eqb n 0) ≡ false → cond (eqb n 0) g 0 ≡ 0
at_zero_none_by zero zero g h e = h refl
at_zero_none_by (suc d) zero g h e = absurd (true≢false (rw (lt-ltb 0 (suc d) (omega arith)) at e))
at_zero_none_by d (suc n) g h e = rw (eqb-suc-zero n)

pub at_zero_none : (x : Step) (s : ℕ) → (ltb 0 (fall (on_step x) s) && eqb (rate x s) 0) ≡ false → taken_at_zero_on x s ≡ 0
unfolding taken_at_zero_on
at_zero_none x s e = at_zero_none_by (fall (on_step x) s) (rate x s) (given_back x s (rate x)) (given_none x s) e
