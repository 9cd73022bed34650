-- Laws of the four kinds of payment: the first schedule takes nothing back, revised is never below initial, an unpaid step has
-- none, and none passes the rise or the fall at the greatest price.
use Rattle.std.specs.Prelude.{ℕ, zero, suc, ◌+◌, ◌*◌, ◌-◌, ◌/◌, ◌≤◌, min, ◌≡◌, Bool, true, false, cond, ◌&&◌, eqb, ltb, ℤ, pos}
use Rattle.std.proofs.Common.{zero-mul, mul-le-mul_left, arith, ◌∙◌}
use Rattle.std.specs.Int.Signed.{le_z}
use Rattle.rules.specs.Fold.{at, before}
use Rattle.rules.specs.Layout.{quantity_most, price_most}
use Rattle.rules.specs.Matching.{earlier, rise, fall}
use Rattle.rules.specs.Payments.{Pool, on_step, rate, is_paid, given_back, initial, revised, modified, final_payment}
use Rattle.rules.specs.declared.Step.{Step}
use Rattle.laws.specs.Ints.{pl, mi, eq_z, le_le_z}
use Rattle.step_payments.specs.Sizes.{Sized, rate_most, rise_most, fall_most, given_back_most}
use Rattle.step_payments.specs.Parts.{change_on, initial_plus, initial_minus, revised_plus, revised_most, modified_plus, modified_minus, taken_back, shared_total, final_plus, final_minus}

-- initial of schedule 1 takes nothing back
none_by : (t : Bool) (a n : ℕ) → cond t (0 - a) 0 * n ≡ 0
none_by true a n = let e : 0 - a ≡ 0 = omega arith in rw e (zero-mul n)
none_by false a n = zero-mul n

pub initial_first : (x : Step) → mi (initial x 0) ≡ 0
unfolding change_on fall earlier before
initial_first x = initial_minus x 0 ∙ none_by (is_paid x 0) (at (on_step x) 0) (rate x 0)

pub revised_first : (x : Step) → mi (revised x 0) ≡ 0
revised_first x = omega (arith, initial_first x, revised_most x 0)

pub modified_first : (x : Step) → mi (modified x 0) ≡ 0
modified_first x = modified_minus x 0 ∙ rw (initial_first x)

-- "initial of schedule 1 is never negative"
pub initial_not_negative : (x : Step) → le_z (pos 0) (initial x 0) ≡ true
initial_not_negative x = le_le_z (pos 0) (initial x 0) (omega (arith, initial_first x))

-- final pays what initial pays and takes back at most the greater of what initial and modified take back
taken_by : (i r m b : ℕ) (first off flagged pooled : Bool) → r ≤ i → i ≤ b → m ≤ b → (n : ℕ) → cond first i (cond off i (cond flagged m (cond pooled (min i n) r))) ≤ b
taken_by i r m b true off flagged pooled h p q n = p
taken_by i r m b false true flagged pooled h p q n = p
taken_by i r m b false false true pooled h p q n = q
taken_by i r m b false false false true h p q n = omega arith
taken_by i r m b false false false false h p q n = omega arith

-- what is paid and what is taken back are at most the rise and the fall at the greatest price
pub paid_most : (x : Step) (claw s : ℕ) (p : Pool) → Sized x → pl (final_payment x claw s p) ≤ change_on rise x s * price_most
paid_most x claw s p z =
    rw (final_plus x claw s p, initial_plus x s) (mul-le-mul_left (change_on rise x s) (rate_most x s z))

pub initial_most : (x : Step) (s : ℕ) → Sized x → mi (initial x s) ≤ change_on fall x s * price_most
initial_most x s z = rw (initial_minus x s) (mul-le-mul_left (change_on fall x s) (rate_most x s z))

modified_by : (t : Bool) (i d g n b : ℕ) → i ≡ cond t d 0 * n → g ≤ d * b → cond (eqb i 0) 0 g ≤ cond t d 0 * b
modified_by t zero d g n b e h = omega arith
modified_by true (suc i) d g n b e h = rw (borrow.Author.Tests.ne_eqb (suc i) 0 (λ q. omega arith)) h
modified_by false (suc i) d g n b e h = absurd (omega (arith, zero-mul n))

pub modified_most : (x : Step) (s : ℕ) → Sized x → mi (modified x s) ≤ change_on fall x s * price_most
unfolding change_on
modified_most x s z =
    rw (modified_minus x s)
    (modified_by (is_paid x s) (mi (initial x s)) (fall (on_step x) s) (given_back x s (rate x)) (rate x s) price_most (initial_minus x s)
    (given_back_most x s price_most (rate x) (λ r. rate_most x r z)))

pub taken_most : (x : Step) (claw s : ℕ) (p : Pool) → Sized x → mi (final_payment x claw s p) ≤ change_on fall x s * price_most
unfolding taken_back
taken_most x claw s p z =
    rw (final_minus x claw s p)
    (taken_by (mi (initial x s)) (mi (revised x s)) (mi (modified x s)) (change_on fall x s * price_most) (eqb s 0) (eqb claw 0)
    (eqb (at x.flag s) 1) (ltb 0 (shared_total p) && ltb 0 (mi (initial x s))) (revised_most x s) (initial_most x s z) (modified_most x s z) _)

-- an unpaid step has no payment of any kind
unpaid_change : (x : Step) (s : ℕ) → is_paid x s ≡ false → (n : ℕ) → change_on rise x s * n + change_on fall x s * n ≡ 0
unfolding change_on
unpaid_change x s h n = rw h (omega (arith, zero-mul n))

nothing : (z : ℤ) → pl z ≡ 0 → mi z ≡ 0 → z ≡ pos 0
nothing z p q = eq_z z (pos 0) (omega arith)

pub record Unpaid (x : Step) (s : ℕ) : Type 0 where
  pub initial_none : initial x s ≡ pos 0
  pub revised_none : revised x s ≡ pos 0
  pub modified_none : modified x s ≡ pos 0
  pub final_none : (claw : ℕ) (p : Pool) → final_payment x claw s p ≡ pos 0

final_unpaid : (x : Step) (claw s : ℕ) (p : Pool) → mi (initial x s) ≡ 0 → mi (revised x s) ≡ 0 → mi (modified x s) ≡ 0 → mi (final_payment x claw s p) ≡ 0
unfolding taken_back
final_unpaid x claw s p i r m =
    let n = mi (revised x s) + shared_total p * fall (on_step x) s / p.base in
    omega (
      arith,
      final_minus x claw s p,
      taken_by (mi (initial x s)) (mi (revised x s)) (mi (modified x s)) 0 (eqb s 0) (eqb claw 0) (eqb (at x.flag s) 1)
          (ltb 0 (shared_total p) && ltb 0 (mi (initial x s))) (omega arith) (omega arith) (omega arith) n,
    )

pub unpaid : (x : Step) (s : ℕ) → is_paid x s ≡ false → Unpaid x s
unpaid x s h =
    let none = unpaid_change x s h (rate x s) in
    let paid : pl (initial x s) ≡ 0 = omega (arith, initial_plus x s, none) in
    let taken : mi (initial x s) ≡ 0 = omega (arith, initial_minus x s, none) in
    let revising : mi (revised x s) ≡ 0 = omega (arith, revised_most x s) in
    let modifying : mi (modified x s) ≡ 0 = modified_minus x s ∙ rw taken in
    record {
      initial_none = nothing (initial x s) paid taken;
      revised_none = nothing (revised x s) (revised_plus x s ∙ paid) revising;
      modified_none = nothing (modified x s) (modified_plus x s ∙ paid) modifying;
      final_none =
          λ claw p.
          nothing (final_payment x claw s p) (final_plus x claw s p ∙ paid) (final_unpaid x claw s p taken revising modifying);
    }

-- a payment of at most b in size
pub record SizeWithin (b : ℕ) (z : ℤ) : Type 0 where
  pub paid : pl z ≤ b
  pub taken : mi z ≤ b

change_by : (t : Bool) (q b : ℕ) → q ≤ b → cond t q 0 ≤ b
change_by true q b h = h
change_by false q b h = omega arith

pub rise_within : (x : Step) (s : ℕ) → Sized x → change_on rise x s ≤ quantity_most
unfolding change_on
rise_within x s z = change_by (is_paid x s) (rise (on_step x) s) quantity_most (omega (arith, rise_most x s, z.upper))

pub fall_within : (x : Step) (s : ℕ) → Sized x → change_on fall x s ≤ quantity_most
unfolding change_on
fall_within x s z = change_by (is_paid x s) (fall (on_step x) s) quantity_most (omega (arith, fall_most x s, z.upper))

pub final_within : (x : Step) (claw s : ℕ) (p : Pool) → Sized x → SizeWithin (quantity_most * price_most) (final_payment x claw s p)
final_within x claw s p z =
    record {
      paid = omega (arith, paid_most x claw s p z, rise_within x s z);
      taken = omega (arith, taken_most x claw s p z, fall_within x s z);
    }

pub initial_within : (x : Step) (s : ℕ) → Sized x → SizeWithin (quantity_most * price_most) (initial x s)
initial_within x s z =
    record {
      paid = omega (arith, initial_plus x s, mul-le-mul_left (change_on rise x s) (rate_most x s z), rise_within x s z);
      taken = omega (arith, initial_most x s z, fall_within x s z);
    }

pub revised_within : (x : Step) (s : ℕ) → Sized x → SizeWithin (quantity_most * price_most) (revised x s)
revised_within x s z =
    let i = initial_within x s z in
    record { paid = omega (arith, revised_plus x s, i.paid); taken = omega (arith, revised_most x s, i.taken) }

pub modified_within : (x : Step) (s : ℕ) → Sized x → SizeWithin (quantity_most * price_most) (modified x s)
modified_within x s z =
    let i = initial_within x s z in
    record {
      paid = omega (arith, modified_plus x s, i.paid);
      taken = omega (arith, modified_most x s z, fall_within x s z);
    }
