-- A step whose initial payments take nothing back: revised, modified and final payments are the initial ones.
use Prim.Native.Nat.{ℕ, ◌<◌, max}
use native.Mathlib.Omega.{arith}
use mathlib.Core.Path.{◌≡◌, refl, sym, ◌∙◌, ap}
use mathlib.Core.Bool.{Bool, true, cond, not}
use mathlib.Core.List.{List}
use lib.Dec.{eqb}
use lib.IntN.{ℤ, pos, negsuc}
use lib.Signed.{non_neg}
use borrow.Author.Tests.{eqb-true, eq-eqb}
use Rattle.rules.specs.Fold.{five, at, eqb_z, most_to}
use Rattle.rules.specs.Matching.{rise, fall}
use Rattle.rules.specs.Payments.{on_step, bit, initial, initial_or, revised, modified}
use Rattle.rules.specs.declared.Step.{Step}
use Rattle.laws.specs.Folds.{at_five, most_term}
use Rattle.laws.specs.Ints.{pl, mi}
use Rattle.numbers.specs.Fives.{five_same}
use Rattle.step_payments.specs.Parts.{change_on, final_minus}
use Rattle.step_payments.specs.Amounts.{plus_of, minus_of, money_of}
use Rattle.step_pool.specs.declared.pool_amounts.SidePool.{SidePool}
use Rattle.step_pool.specs.declared.pool_amounts.Changes.{Changes}
use Rattle.step_pool.specs.Amounts.{changes_on, step_pool, differs_on, pool_at, final_on, all_zero, Kept}
use Rattle.step_pool.proofs.pool_amounts.Settling.{cond_same, taken_none, final_pays, of_plus, of_rises, of_falls, wide_row}

-- the greatest of five by four comparisons
next : (k : ℕ) {m n : ℕ} → m ≡ n → max m k ≡ max n k
next k e = ap (λ (m : ℕ). max m k) e

pub most_is : (v : List ℕ) (a b c d : ℕ) → a ≡ max (at v 0) (at v 1) → b ≡ max a (at v 2) → c ≡ max b (at v 3) → d ≡ max c (at v 4) → d ≡ most_to 5 (at v)
unfolding most_to
most_is v a b c d ae be ce de =
    let z : at v 0 ≡ max 0 (at v 0) = omega arith in
    de ∙ next (at v 4) (ce ∙ next (at v 3) (be ∙ next (at v 2) (ae ∙ next (at v 1) z)))

pub none_is : (v : List ℕ) (a b c d : ℕ) → a ≡ max (at v 0) (at v 1) → b ≡ max a (at v 2) → c ≡ max b (at v 3) → d ≡ max c (at v 4) → eqb d 0 ≡ all_zero v
unfolding all_zero
none_is v a b c d ae be ce de = ap (λ (n : ℕ). eqb n 0) (most_is v a b c d ae be ce de)

pub kept_row : (x : Step) (v : List ℕ) → v ≡ five (minus_of (initial x)) → true ≡ all_zero v → Kept x
unfolding all_zero minus_of
kept_row x v e h =
    record {
      none =
          λ s l.
          let z = eqb-true (most_to 5 (at v)) 0 (sym h) in
          let m = most_term 5 (at v) s l in
          let q : at v s ≡ mi (initial x s) = ap (λ (r : List ℕ). at r s) e ∙ at_five (λ t. mi (initial x t)) 0 s l in
          omega arith;
    }

initial_by : (i g : ℤ) → mi i ≡ 0 → cond (non_neg i) i g ≡ i
initial_by (pos n) g h = refl
initial_by (negsuc n) g h = absurd (omega arith)

or_initial : (x : Step) (s : ℕ) (f : ℕ → ℕ) → mi (initial x s) ≡ 0 → initial_or x s f ≡ initial x s
unfolding initial_or
or_initial x s f h = initial_by (initial x s) _ h

revised_kept : (x : Step) (s : ℕ) → mi (initial x s) ≡ 0 → revised x s ≡ initial x s
unfolding revised
revised_kept x s h = or_initial x s _ h

modified_kept : (x : Step) (s : ℕ) → mi (initial x s) ≡ 0 → modified x s ≡ initial x s
unfolding modified
modified_kept x s h = or_initial x s _ h

same_eqb : (z : ℤ) → eqb_z z z ≡ true
same_eqb (pos n) = eq-eqb n n refl
same_eqb (negsuc n) = eq-eqb n n refl

-- what the step adds to its pool
module _ (x : Step) (k : Kept x) where
  pub kept_plus : five (plus_of (initial x)) ≡ five (plus_of (revised x))
  unfolding plus_of
  kept_plus = five_same (plus_of (initial x)) (plus_of (revised x)) (λ s l. ap pl (sym (revised_kept x s (k.none s l))))

  pub kept_minus : five (λ (s : ℕ). 0) ≡ five (minus_of (revised x))
  unfolding minus_of
  kept_minus = five_same (λ (s : ℕ). 0) (minus_of (revised x)) (λ s l. sym (ap mi (revised_kept x s (k.none s l)) ∙ k.none s l))

  pub kept_differs : five (λ (s : ℕ). 0) ≡ five (differs_on x)
  unfolding differs_on
  kept_differs =
      five_same (λ (s : ℕ). 0) (differs_on x)
      (λ s l. sym (ap (λ (z : ℤ). bit (not (eqb_z z (initial x s)))) (revised_kept x s (k.none s l)) ∙ ap (λ (t : Bool). bit (not t)) (same_eqb (initial x s))))

  -- from the step's changes
  pub kept_pool : {v : Changes} → v ≡ changes_on x
      → ◌≡◌ {A = SidePool} (record { plus = v.plus; minus = five (λ s. 0); rises = five (at v.rises); falls = five (at v.falls); differs = five (λ s. 0) }) (step_pool x)
  unfolding step_pool
  kept_pool {v} e =
      let plus = of_plus x v e ∙ kept_plus in
      let rises = wide_row (change_on rise x) (of_rises x v e) refl in
      let falls = wide_row (change_on fall x) (of_falls x v e) refl in
      λ i. record { plus = plus i; minus = kept_minus i; rises = rises i; falls = falls i; differs = kept_differs i }

  -- what the final payments take back
  final_none : (claw : ℕ) (p : SidePool) (s : ℕ) → s < 5 → minus_of (initial x) s ≡ minus_of (final_on x claw p) s
  unfolding minus_of final_on
  final_none claw p s l =
      let h = k.none s l in
      let r : mi (revised x s) ≡ 0 = ap mi (revised_kept x s h) ∙ h in
      let m : mi (modified x s) ≡ 0 = ap mi (modified_kept x s h) ∙ h in
      h ∙ sym (final_minus x claw s (pool_at p s) ∙ rw (h, r, m, taken_none claw (at x.flag s) (fall (on_step x) s) _ _, cond_same (eqb s 0) 0))

  pub final_kept : (claw : ℕ) (p : SidePool) → money_of (initial x) ≡ money_of (final_on x claw p)
  unfolding money_of
  final_kept claw p =
      let q = final_pays x claw p in
      let m = five_same (minus_of (initial x)) (minus_of (final_on x claw p)) (final_none claw p) in
      λ i. record { plus = q i; minus = m i }
