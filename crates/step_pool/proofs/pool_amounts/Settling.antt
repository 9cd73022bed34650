-- What a step adds to its side's pool and what the final payments take back, by the code's rows.
use Prim.Native.Nat.{ℕ, zero, suc, ◌+◌, ◌*◌, ◌-◌, ◌/◌, ◌≤◌, ◌<◌, min, max}
use native.Mathlib.Nat.{zero-mul}
use native.Mathlib.Omega.{arith}
use mathlib.Core.Path.{◌≡◌, refl, sym, ◌∙◌, ap}
use mathlib.Core.Bool.{Bool, true, false, cond, not, ◌&&◌}
use mathlib.Core.List.{List}
use lib.Dec.{eqb, ltb, eqb-suc-suc}
use lib.IntN.{ℤ, pos, negsuc}
use borrow.Author.Tests.{eq-eqb, ne_eqb, lt-ltb}
use Rattle.rules.specs.Fold.{five, at, eqb_z}
use Rattle.rules.specs.Matching.{rise, fall}
use Rattle.rules.specs.Payments.{on_step, bit, rate, revised_rate, is_paid, initial, given_back, revised, modified, final_payment}
use Rattle.rules.specs.declared.Step.{Step}
use Rattle.laws.specs.Folds.{at_five}
use Rattle.laws.specs.Ints.{pl, mi, pl_subℕ}
use Rattle.numbers.specs.Fives.{five_same}
use Rattle.step_payments.specs.Sizes.{Sized}
use Rattle.step_payments.specs.Parts.{change_on, initial_minus, taken_back, shared_total, revised_plus, revised_taken_lem, modified_minus, final_plus, final_minus}
use Rattle.step_payments.specs.Kinds.{initial_first, fall_within}
use Rattle.step_payments.specs.Amounts.{plus_of, minus_of}
use Rattle.step_payments.proofs.amounts.Joining.{given_most, revised_rate_most, revised_pays}
use Rattle.step_pool.specs.declared.pool_amounts.SidePool.{SidePool}
use Rattle.step_pool.specs.declared.pool_amounts.Changes.{Changes}
use Rattle.step_pool.specs.Amounts.{changes_on, step_pool, differ_in, differs_on, pool_at, total_in, base_in, final_taken, taken_on, SharedOn, InPool, final_on}

-- the rows of a step's changes
module _ (x : Step) (v : Changes) (e : v ≡ changes_on x) where
  pub of_rises : v.rises ≡ five (change_on rise x)
  unfolding changes_on
  of_rises = ap (λ (z : Changes). z.rises) e

  pub of_falls : v.falls ≡ five (change_on fall x)
  unfolding changes_on
  of_falls = ap (λ (z : Changes). z.falls) e

  pub of_plus : v.plus ≡ five (plus_of (initial x))
  unfolding changes_on
  of_plus = ap (λ (z : Changes). z.plus) e

  pub of_minus : v.minus ≡ five (minus_of (initial x))
  unfolding changes_on
  of_minus = ap (λ (z : Changes). z.minus) e

-- where revised differs from initial
differs_by : (a b : ℤ) → pl a ≡ pl b → eqb (mi a) (mi b) ≡ eqb_z a b
differs_by (pos a) (pos b) e = sym (eq-eqb a b e)
differs_by (pos a) (negsuc b) e = ne_eqb 0 (suc b) (λ q. omega arith)
differs_by (negsuc a) (pos b) e = ne_eqb (suc a) 0 (λ q. omega arith)
differs_by (negsuc a) (negsuc b) e = eqb-suc-suc a b

pub differ_row : (x : Step) {a b d : List ℕ} → a ≡ five (minus_of (revised x)) → b ≡ five (minus_of (initial x)) → d ≡ five (differ_in a b) → d ≡ five (differs_on x)
unfolding differ_in minus_of differs_on
differ_row x e f g =
    rw (g, e, f)
    (five_same (λ s. bit (not (eqb (mi (revised x s)) (mi (initial x s))))) (differs_on x)
    (λ s h. ap (λ (t : Bool). bit (not t)) (differs_by (revised x s) (initial x s) (revised_plus x s))))

-- a row read as wider numbers
pub wide_row : (f : ℕ → ℕ) {u w : List ℕ} → u ≡ five f → w ≡ five (at u) → w ≡ five f
wide_row f e g = rw (g, e)

-- what a step adds to its side's pool, from its changes
pub full_pool : (x : Step) {v : Changes} {m d : List ℕ} → v ≡ changes_on x → m ≡ five (minus_of (revised x)) → d ≡ five (differ_in m v.minus)
    → ◌≡◌ {A = SidePool} (record { plus = v.plus; minus = m; rises = five (at v.rises); falls = five (at v.falls); differs = d }) (step_pool x)
unfolding step_pool
full_pool x {v} e f g =
    let plus = of_plus x v e ∙ revised_pays x in
    let rises = wide_row (change_on rise x) (of_rises x v e) refl in
    let falls = wide_row (change_on fall x) (of_falls x v e) refl in
    let differs = differ_row x f (of_minus x v e) g in
    λ i. record { plus = plus i; minus = f i; rises = rises i; falls = falls i; differs = differs i }

-- the pool's T and B
total_by : (n t : ℕ) → cond (ltb 0 n) t 0 ≡ cond (eqb n 0) 0 t
total_by zero t = refl
total_by (suc n) t = rw (lt-ltb 0 (suc n) (omega arith), ne_eqb (suc n) 0 (λ q. omega arith))

shared_total_lem : (p : SidePool) (s : ℕ) → shared_total (pool_at p s) ≡ total_in p s
unfolding shared_total pool_at total_in
shared_total_lem p s =
    rw (pl_subℕ (at p.plus s) (at p.minus s))
    (total_by (at p.differs s) (at p.plus s - at p.minus s))

-- the fall counts only where the initial payment takes something back
no_taking : (a : Bool) (x y : ℕ) → cond (a && false) x y ≡ y
no_taking true x y = refl
no_taking false x y = refl

pub cond_same : (t : Bool) (n : ℕ) → cond t n n ≡ n
cond_same true n = refl
cond_same false n = refl

pub taken_none : (claw flag d t b : ℕ) → taken_back claw flag 0 0 0 d t b ≡ 0
unfolding taken_back
taken_none claw flag d t b = rw (no_taking (ltb 0 t) (min 0 (0 + t * d / b)) 0, cond_same (eqb flag 1) 0, cond_same (eqb claw 0) 0)

taken_fall : (claw flag i r m d e t b : ℕ) → (0 < i → d ≡ e) → taken_back claw flag i r m d t b ≡ taken_back claw flag i r m e t b
unfolding taken_back
taken_fall claw flag zero r m d e t b h =
    rw (no_taking (ltb 0 t) (min 0 (r + t * d / b)) r, no_taking (ltb 0 t) (min 0 (r + t * e / b)) r)
taken_fall claw flag (suc i) r m d e t b h = rw (h (omega arith))

paid_fall_by : (t : Bool) (i d n : ℕ) → i ≡ cond t d 0 * n → 0 < i → d ≡ cond t d 0
paid_fall_by true i d n e h = refl
paid_fall_by false i d n e h = absurd (omega (arith, zero-mul n))

paid_fall : (x : Step) (s : ℕ) → 0 < mi (initial x s) → fall (on_step x) s ≡ change_on fall x s
unfolding change_on
paid_fall x s h = paid_fall_by (is_paid x s) (mi (initial x s)) (fall (on_step x) s) (rate x s) (initial_minus x s) h

finished : (x : Step) (claw s : ℕ) (p : SidePool)
    → mi (final_payment x claw s (pool_at p s)) ≡ cond (eqb s 0) (mi (initial x s)) (taken_back claw (at x.flag s) (mi (initial x s)) (mi (revised x s)) (mi (modified x s)) (change_on fall x s) (total_in p s) (base_in p s))
unfolding pool_at base_in
finished x claw s p =
    final_minus x claw s (pool_at p s)
    ∙ rw (shared_total_lem p s)
    (ap (λ (n : ℕ). cond (eqb s 0) (mi (initial x s)) n)
    (taken_fall claw (at x.flag s) (mi (initial x s)) (mi (revised x s)) (mi (modified x s)) (fall (on_step x) s) (change_on fall x s) (total_in p s)
    (max (at p.rises s) (at p.falls s)) (paid_fall x s)))

-- with clawback on, by whether the initial payment takes something back
on_by : (claw flag i r m d t b : ℕ) → (claw ≡ 0 → ⊥) → taken_back claw flag i (cond (eqb i 0) 0 r) (cond (eqb i 0) 0 m) d t b ≡ final_taken flag i r m d t b
unfolding taken_back final_taken
on_by claw flag zero r m d t b h = taken_none claw flag d t b
on_by claw flag (suc i) r m d zero b h = rw (ne_eqb claw 0 h, ne_eqb (suc i) 0 (λ q. omega arith))
on_by claw flag (suc i) r m d (suc t) b h =
    rw (
      ne_eqb claw 0 h,
      ne_eqb (suc i) 0 (λ q. omega arith),
      ne_eqb (suc t) 0 (λ q. omega arith),
      lt-ltb 0 (suc t) (omega arith),
      lt-ltb 0 (suc i) (omega arith),
    )

taken_entry : (x : Step) (claw : ℕ) (p : SidePool) → (claw ≡ 0 → ⊥) → (s : ℕ) → s < 5 → taken_on x (five (total_in p)) (five (base_in p)) s ≡ minus_of (final_on x claw p) s
unfolding taken_on minus_of final_on
taken_entry x claw p n zero h = sym (finished x claw 0 p ∙ initial_first x)
taken_entry x claw p n (suc s) h =
    let i = mi (initial x (suc s)) in
    let z = ne_eqb (suc s) 0 (λ q. omega arith) in
    rw (z, at_five (total_in p) 0 (suc s) h, at_five (base_in p) 0 (suc s) h)
    (sym
    (finished x claw (suc s) p
    ∙ rw (z, revised_taken_lem x (suc s), modified_minus x (suc s))
    (on_by claw (at x.flag (suc s)) i (given_back x (suc s) (revised_rate x (suc s))) (given_back x (suc s) (rate x)) (change_on fall x (suc s))
    (total_in p (suc s)) (base_in p (suc s)) n)))

pub shares_final : (x : Step) (claw : ℕ) (p : SidePool) {t b q : List ℕ} → (claw ≡ 0 → ⊥) → t ≡ five (total_in p) → b ≡ five (base_in p) → q ≡ five (taken_on x t b) → q ≡ five (minus_of (final_on x claw p))
shares_final x claw p n e f g =
    rw (g, e, f) (five_same (taken_on x (five (total_in p)) (five (base_in p))) (minus_of (final_on x claw p)) (taken_entry x claw p n))

pub final_pays : (x : Step) (claw : ℕ) (p : SidePool) → five (plus_of (initial x)) ≡ five (plus_of (final_on x claw p))
unfolding plus_of final_on
final_pays x claw p = five_same (plus_of (initial x)) (plus_of (final_on x claw p)) (λ s h. sym (final_plus x claw s (pool_at p s)))

-- a share of T fits
total_most_lem : (n t u : ℕ) → cond (eqb n 0) 0 (t - u) ≤ t
total_most_lem zero t u = omega arith
total_most_lem (suc n) t u = rw (ne_eqb (suc n) 0 (λ q. omega arith)) (omega arith)

some_by : (d n : ℕ) → 0 < d * n → 0 < d
some_by zero n h = omega (arith, zero-mul n)
some_by (suc d) n h = omega arith

pub shares_fit : (x : Step) (p : SidePool) {t b : List ℕ} → t ≡ five (total_in p) → b ≡ five (base_in p) → Sized x → InPool x p → SharedOn x t b
unfolding total_in base_in minus_of
shares_fit x p e f z k =
    record {
      sharing =
          λ s l.
          rw (e, f, at_five (total_in p) 0 s l, at_five (base_in p) 0 s l)
          (record {
            part = omega (arith, k.within s l);
            some = λ h. omega (arith, k.within s l, some_by (change_on fall x s) (rate x s) (omega (arith, initial_minus x s)));
            base = omega (arith, k.rising s l, k.falling s l);
            fall = omega (arith, fall_within x s z);
            fits =
                omega (
                  arith,
                  given_most x s (revised_rate x s) z (revised_rate_most x s z),
                  k.paying s l,
                  total_most_lem (at p.differs s) (at p.plus s) (at p.minus s),
                );
          });
    }
