-- Paid rises and falls beside C, final payments with clawback off, and money by its payments.
use Rattle.std.specs.Prelude.{ℕ, ◌-◌, ◌≤◌, ◌<◌, ◌≡◌, refl, Bool, true, false, cond, ◌||◌, eqb, ℤ}
use Rattle.std.proofs.Common.{arith, ap, eq-eqb}
use Rattle.rules.specs.Fold.{at}
use Rattle.rules.specs.Matching.{earlier, rise, fall}
use Rattle.rules.specs.Payments.{Pool, on_step, is_paid, initial, final_payment}
use Rattle.rules.specs.declared.Step.{Step}
use Rattle.laws.specs.Ints.{pl, mi}
use Rattle.numbers.specs.Fives.{five_same}
use Rattle.step_payments.specs.Parts.{change_on}
use Rattle.step_payments.specs.Amounts as amounts
use Rattle.step_payments.specs.Amounts.{money_of}

-- a paid rise is at most C(s), and a paid fall at most C(s-1)
cond_most : (t : Bool) (c : ℕ) → cond t c 0 ≤ c
cond_most true c = omega arith
cond_most false c = omega arith

pub rise_le : (x : Step) (s : ℕ) → change_on rise x s ≤ at (on_step x) s
unfolding change_on rise
rise_le x s = omega (arith, cond_most (is_paid x s) (at (on_step x) s - earlier (on_step x) s))

pub fall_le : (x : Step) (s : ℕ) → change_on fall x s ≤ earlier (on_step x) s
unfolding change_on fall
fall_le x s = omega (arith, cond_most (is_paid x s) (earlier (on_step x) s - at (on_step x) s))

-- with clawback off the pool is not read
or_true : (t : Bool) → (t || true) ≡ true
or_true true = refl
or_true false = refl

pub off_initial : (x : Step) (claw s : ℕ) (p : Pool) → claw ≡ 0 → final_payment x claw s p ≡ initial x s
unfolding final_payment
off_initial x claw s p e = rw (eq-eqb claw 0 e, or_true (eqb s 0))

pub money_same : (f g : ℕ → ℤ) → ((s : ℕ) → s < 5 → f s ≡ g s) → money_of f ≡ money_of g
unfolding money_of amounts.plus_of amounts.minus_of
money_same f g h =
    let p = five_same (λ s. pl (f s)) (λ s. pl (g s)) (λ s l. ap pl (h s l)) in
    let m = five_same (λ s. mi (f s)) (λ s. mi (g s)) (λ s l. ap mi (h s l)) in
    λ i. record { plus = p i; minus = m i }
