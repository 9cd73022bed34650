-- What each kind of payment pays and what it takes back, as natural numbers.
use Rattle.std.specs.Prelude.{ℕ, zero, suc, ◌+◌, ◌*◌, ◌-◌, ◌/◌, ◌≤◌, min, ◌≡◌, refl, Bool, true, false, cond, ◌&&◌, ◌||◌, List, eqb, ltb, ℤ, pos, negsuc, neg_ℤ, ◌-ℤ◌, ◌*ℤ◌}
use Rattle.std.proofs.Common.{zero-mul, arith, sym, ◌∙◌, ap, ne_eqb, le-ltb, lt-ltb}
use Rattle.std.proofs.lemmas.Bool.{false≢true}
use Rattle.std.proofs.Math.IntN.{sub_ℕ}
use Rattle.std.specs.Int.Signed.{lt_z, non_neg, quot_z}
use Rattle.rules.specs.Fold.{at}
use Rattle.rules.specs.Matching.{earlier, rise, fall}
use Rattle.rules.specs.Payments.{Pool, on_step, rate, revised_rate, is_paid, initial, given_back, initial_or, revised, modified, max_z, pooled_payment, is_pooled, final_payment}
use Rattle.rules.specs.declared.Step.{Step}
use Rattle.laws.specs.Ints.{pl, mi, apart, pl_subℕ, mi_subℕ, pl_scale, mi_scale, pl_neg, mi_neg, non_neg_yes, non_neg_no, pl_max, mi_max, sub_read, lt_z_yes}
use Rattle.step_payments.specs.Sizes.{revised_rate-most, given_back_most}

-- a rise or a fall of the step in s where the step is paid, else 0
unfoldable pub change_on : (List ℕ → ℕ → ℕ) → Step → ℕ → ℕ
change_on change x s = cond (is_paid x s) (change (on_step x) s) 0

-- initial: a rise is paid, a fall is taken back, at the rate
initial_by : (t : Bool) (a b n : ℕ) → (pl (cond t (sub_ℕ a b *ℤ pos n) (pos 0)) ≡ cond t (a - b) 0 * n) × (mi (cond t (sub_ℕ a b *ℤ pos n) (pos 0)) ≡ cond t (b - a) 0 * n)
initial_by true a b n =
    (pl_scale (sub_ℕ a b) n ∙ ap (λ (k : ℕ). k * n) (pl_subℕ a b), mi_scale (sub_ℕ a b) n ∙ ap (λ (k : ℕ). k * n) (mi_subℕ a b))
initial_by false a b n = (sym (zero-mul n), sym (zero-mul n))

pub initial_plus : (x : Step) (s : ℕ) → pl (initial x s) ≡ change_on rise x s * rate x s
unfolding initial change_on rise
initial_plus x s = (initial_by (is_paid x s) (at (on_step x) s) (earlier (on_step x) s) (rate x s)).0

pub initial_minus : (x : Step) (s : ℕ) → mi (initial x s) ≡ change_on fall x s * rate x s
unfolding initial change_on fall
initial_minus x s = (initial_by (is_paid x s) (at (on_step x) s) (earlier (on_step x) s) (rate x s)).1

-- revised and modified pay what the initial pays
or_plus_by : (z : ℤ) (g : ℕ) (t : Bool) → non_neg z ≡ t → pl (cond t z (neg_ℤ (pos g))) ≡ pl z
or_plus_by z g true e = refl
or_plus_by z g false e = omega (arith, pl_neg (pos g), apart z, non_neg_no z e)

or_plus : (x : Step) (s : ℕ) (f : ℕ → ℕ) → pl (initial_or x s f) ≡ pl (initial x s)
unfolding initial_or
or_plus x s f = or_plus_by (initial x s) (given_back x s f) (non_neg (initial x s)) refl

pub revised_plus : (x : Step) (s : ℕ) → pl (revised x s) ≡ pl (initial x s)
unfolding revised
revised_plus x s = or_plus x s (revised_rate x s)

pub modified_plus : (x : Step) (s : ℕ) → pl (modified x s) ≡ pl (initial x s)
unfolding modified
modified_plus x s = or_plus x s (rate x)

-- and take back what matches give, where the initial takes back anything
or_minus_by : (z : ℤ) (g : ℕ) (t : Bool) → non_neg z ≡ t → mi (cond t z (neg_ℤ (pos g))) ≡ cond (eqb (mi z) 0) 0 g
or_minus_by z g true e = let h = non_neg_yes z e in rw h
or_minus_by z g false e =
    rw (ne_eqb (mi z) 0 (λ q. omega (arith, non_neg_no z e)))
    (mi_neg (pos g))

or_minus : (x : Step) (s : ℕ) (f : ℕ → ℕ) → mi (initial_or x s f) ≡ cond (eqb (mi (initial x s)) 0) 0 (given_back x s f)
unfolding initial_or
or_minus x s f = or_minus_by (initial x s) (given_back x s f) (non_neg (initial x s)) refl

pub modified_minus : (x : Step) (s : ℕ) → mi (modified x s) ≡ cond (eqb (mi (initial x s)) 0) 0 (given_back x s (rate x))
unfolding modified
modified_minus x s = or_minus x s (rate x)

pub revised_taken_lem : (x : Step) (s : ℕ) → mi (revised x s) ≡ cond (eqb (mi (initial x s)) 0) 0 (given_back x s (revised_rate x s))
unfolding revised
revised_taken_lem x s = or_minus x s (revised_rate x s)

-- revised: no test of the initial is needed, since the revised rates are at most the rate
revised_by : (t : Bool) (i d g n : ℕ) → i ≡ cond t d 0 * n → g ≤ d * n → cond (eqb i 0) 0 g ≡ cond t g 0
revised_by true zero d g n p h = omega arith
revised_by true (suc i) d g n p h = rw (ne_eqb (suc i) 0 (λ q. omega arith))
revised_by false zero d g n p h = refl
revised_by false (suc i) d g n p h = absurd (omega (arith, zero-mul n))

pub revised_minus : (x : Step) (s : ℕ) → mi (revised x s) ≡ cond (is_paid x s) (given_back x s (revised_rate x s)) 0
unfolding revised change_on
revised_minus x s =
    or_minus x s (revised_rate x s)
    ∙ revised_by (is_paid x s) (mi (initial x s)) (fall (on_step x) s) (given_back x s (revised_rate x s)) (rate x s) (initial_minus x s)
    (given_back_most x s (rate x s) (revised_rate x s) (revised_rate-most x s))

-- "Revised" takes back at most what "Initial" does
revised_le : (t : Bool) (i d g n : ℕ) → i ≡ cond t d 0 * n → g ≤ d * n → cond t g 0 ≤ i
revised_le true i d g n p h = omega arith
revised_le false i d g n p h = omega arith

pub revised_most : (x : Step) (s : ℕ) → mi (revised x s) ≤ mi (initial x s)
unfolding change_on
revised_most x s =
    rw (revised_minus x s)
    (revised_le (is_paid x s) (mi (initial x s)) (fall (on_step x) s) (given_back x s (revised_rate x s)) (rate x s) (initial_minus x s)
    (given_back_most x s (rate x s) (revised_rate x s) (revised_rate-most x s)))

-- final: what it takes back in schedules after the first, from the clawback switch, the flag, what the three other kinds
-- take back, the fall, T (0 where nothing is pooled) and B
unfoldable pub taken_back : ℕ → ℕ → ℕ → ℕ → ℕ → ℕ → ℕ → ℕ → ℕ
taken_back claw flag i r m d t b =
    cond (eqb claw 0) i (cond (eqb flag 1) m (cond (ltb 0 t && ltb 0 i) (min i (r + t * d / b)) r))

-- T where it is above 0 and some revised differs, else 0
unfoldable pub shared_total : Pool → ℕ
shared_total p = cond p.differs (pl p.total) 0

-- a pooled payment: revised less a share of T, and at least the initial
pooled_parts : (i r t : ℤ) (d b : ℕ) → lt_z (pos 0) t ≡ true → lt_z i (pos 0) ≡ true → pl r ≡ pl i → (pl (max_z i (r -ℤ quot_z (t *ℤ pos d) (pos b))) ≡ pl i) × (mi (max_z i (r -ℤ quot_z (t *ℤ pos d) (pos b))) ≡ min (mi i) (mi r + pl t * d / b))
pooled_parts i r (pos t) d b e k h =
    let q = r -ℤ pos (t * d / b) in (
      omega (arith, pl_max i q, sub_read r (pos (t * d / b)), lt_z_yes i (pos 0) k, apart i, apart q),
      omega (arith, mi_max i q, sub_read r (pos (t * d / b)), lt_z_yes i (pos 0) k, apart i, apart q),
    )
pooled_parts i r (negsuc t) d b e k h = absurd (false≢true e)

final_by : (i m r t : ℤ) (d b : ℕ) → pl m ≡ pl i → pl r ≡ pl i → (first flagged a c n : Bool) → lt_z (pos 0) t ≡ a → lt_z i (pos 0) ≡ c
    → (pl (cond first i (cond flagged m (cond (a && c && n) (max_z i (r -ℤ quot_z (t *ℤ pos d) (pos b))) r))) ≡ pl i)
    × (mi (cond first i (cond flagged m (cond (a && c && n) (max_z i (r -ℤ quot_z (t *ℤ pos d) (pos b))) r)))
    ≡ cond first (mi i) (cond flagged (mi m) (cond (a && c && n) (min (mi i) (mi r + pl t * d / b)) (mi r))))
final_by i m r t d b p q true flagged a c n e k = (refl, refl)
final_by i m r t d b p q false true a c n e k = (p, refl)
final_by i m r t d b p q false false true true true e k = pooled_parts i r t d b e k q
final_by i m r t d b p q false false true true false e k = (q, refl)
final_by i m r t d b p q false false true false n e k = (q, refl)
final_by i m r t d b p q false false false c n e k = (q, refl)

total_test : (t : ℤ) → lt_z (pos 0) t ≡ ltb 0 (pl t)
total_test (pos t) = refl
total_test (negsuc t) = refl

below_test : (i : ℤ) → lt_z i (pos 0) ≡ ltb 0 (mi i)
below_test (pos i) = le-ltb i 0 (omega arith)
below_test (negsuc i) = sym (lt-ltb 0 (suc i) (omega arith))

first_by : (a b : Bool) (i r : ℕ) → cond (a || b) i r ≡ cond a i (cond b i r)
first_by true b i r = refl
first_by false b i r = refl

pub final_plus : (x : Step) (claw s : ℕ) (p : Pool) → pl (final_payment x claw s p) ≡ pl (initial x s)
unfolding final_payment is_pooled pooled_payment
final_plus x claw s p =
    (final_by (initial x s) (modified x s) (revised x s) p.total (fall (on_step x) s) p.base (modified_plus x s) (revised_plus x s)
    (eqb s 0 || eqb claw 0) (eqb (at x.flag s) 1) (lt_z (pos 0) p.total) (lt_z (initial x s) (pos 0)) p.differs refl refl
    ).0

and_true : (a c : Bool) → a && c && true ≡ a && c
and_true true true = refl
and_true true false = refl
and_true false c = refl

and_false : (a c : Bool) → a && c && false ≡ false
and_false true true = refl
and_false true false = refl
and_false false c = refl

shared_by : (n : Bool) (t i d b r : ℕ) → cond (ltb 0 t && ltb 0 i && n) (min i (r + t * d / b)) r ≡ cond (ltb 0 (cond n t 0) && ltb 0 i) (min i (r + cond n t 0 * d / b)) r
shared_by true t i d b r = rw (and_true (ltb 0 t) (ltb 0 i))
shared_by false t i d b r = rw (and_false (ltb 0 t) (ltb 0 i))

pub final_minus : (x : Step) (claw s : ℕ) (p : Pool)
    → mi (final_payment x claw s p) ≡ cond (eqb s 0) (mi (initial x s)) (taken_back claw (at x.flag s) (mi (initial x s)) (mi (revised x s)) (mi (modified x s)) (fall (on_step x) s) (shared_total p) p.base)
unfolding final_payment is_pooled pooled_payment taken_back shared_total
final_minus x claw s p =
    (final_by (initial x s) (modified x s) (revised x s) p.total (fall (on_step x) s) p.base (modified_plus x s) (revised_plus x s)
    (eqb s 0 || eqb claw 0) (eqb (at x.flag s) 1) (lt_z (pos 0) p.total) (lt_z (initial x s) (pos 0)) p.differs refl refl
    ).1
    ∙ rw (total_test p.total, below_test (initial x s), shared_by p.differs (pl p.total) (mi (initial x s)) (fall (on_step x) s) p.base (mi (revised x s)))
    (first_by (eqb s 0) (eqb claw 0) (mi (initial x s)) _)
