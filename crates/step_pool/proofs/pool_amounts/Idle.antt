-- A step without a paid rise or fall: it adds nothing to its side's pool and is paid nothing.
use Prim.Native.Nat.{ℕ, zero, suc, ◌+◌, ◌-◌, ◌≤◌, ◌<◌, min}
use native.Mathlib.Nat.{zero-mul}
use native.Mathlib.Omega.{arith}
use mathlib.Core.Path.{◌≡◌, refl, sym, ◌∙◌, ap, subst}
use mathlib.Core.Bool.{Bool, true, false, cond, not}
use mathlib.Core.List.{List}
use borrow.Author.Tests.{eqb-true, ne_eqb}
use Rattle.rules.specs.Fold.{before, five, at, most_to}
use Rattle.rules.specs.Matching.{earlier, rise, fall}
use Rattle.rules.specs.Quantities.{allocated, least_from, beyond, msiq_from, msiq, constrained}
use Rattle.rules.specs.Payments.{bit, operating_on, pricing_on, msiq_on, constrained_on, on_step, rate, is_paid, initial}
use Rattle.rules.specs.declared.Step.{Step}
use Rattle.laws.specs.Folds.{at_five, most_term}
use Rattle.laws.specs.Chains.{least_later}
use Rattle.numbers.specs.Fives.{five_same}
use Rattle.step_quantities.specs.Bounds.{on_step_most}
use Rattle.step_payments.specs.declared.amounts.Money.{Money}
use Rattle.step_payments.specs.Parts.{change_on, initial_plus, initial_minus}
use Rattle.step_payments.specs.Amounts.{plus_of, minus_of, money_of}
use Rattle.step_pool.specs.declared.pool_amounts.SidePool.{SidePool}
use Rattle.step_pool.specs.declared.pool_amounts.Changes.{Changes}
use Rattle.step_pool.specs.Amounts.{changes_on, step_pool, no_pool, no_money, pool_sum, money_sum, pool_at, final_on, all_zero, Idle, Kept, takes_back}
use Rattle.step_pool.specs.Parts.{rise_le, fall_le, off_initial, money_same}
use Rattle.step_pool.proofs.pool_amounts.Settling.{of_plus, of_minus, final_pays}
use Rattle.step_pool.proofs.pool_amounts.Kept.{kept_row, kept_plus, kept_minus, kept_differs, final_kept}

zero_at : (v : List ℕ) → true ≡ all_zero v → (s : ℕ) → s < 5 → at v s ≡ 0
unfolding all_zero
zero_at v h s l =
    let z = eqb-true (most_to 5 (at v)) 0 (sym h) in
    let m = most_term 5 (at v) s l in
    omega arith

-- a step that is not paid
unpaid_change : (change : List ℕ → ℕ → ℕ) (x : Step) (s : ℕ) → at x.paid s ≡ 0 → change_on change x s ≡ 0
unfolding change_on is_paid
unpaid_change change x s e = rw (ne_eqb (at x.paid s) 1 (λ q. omega arith))

pub idle_unpaid : (x : Step) → true ≡ all_zero x.paid → Idle x
idle_unpaid x h =
    record {
      rises = λ s l. unpaid_change rise x s (zero_at x.paid h s l);
      falls = λ s l. unpaid_change fall x s (zero_at x.paid h s l);
    }

-- a step whose C are all 0
none_earlier : (c : List ℕ) → ((s : ℕ) → s < 5 → at c s ≡ 0) → (s : ℕ) → s < 5 → earlier c s ≡ 0
unfolding earlier before
none_earlier c h zero l = omega arith
none_earlier c h (suc s) l = h s (omega arith)

pub none_on : (x : Step) → ((s : ℕ) → s < 5 → at (on_step x) s ≡ 0) → Idle x
none_on x z =
    record {
      rises = λ s l. omega (arith, rise_le x s, z s l);
      falls = λ s l. omega (arith, fall_le x s, none_earlier (on_step x) z s l);
    }

-- past every operating total nothing is operated
past_operating : (x : Step) → most_to 5 (at x.operating) ≤ x.lower → (s : ℕ) → s < 5 → at (on_step x) s ≡ 0
unfolding operating_on allocated
past_operating x h s l = omega (arith, on_step_most x s l, most_term 5 (at x.operating) s l)

-- within every pricing total MSIQ is the step's width in each schedule
least_at : (o : List ℕ) (s : ℕ) → s < 5 → least_from o 0 4 ≤ at o s
least_at o s l = let e : s + 0 ≡ s = omega arith in subst (λ (n : ℕ). least_from o 0 4 ≤ at o n) e (least_later o s 0 4 (omega arith))

least_by : (t : Bool) (e n w : ℕ) → w ≤ e → w ≤ n → w ≤ cond t e (min e n)
least_by true e n w h k = h
least_by false e n w h k = omega arith

msiq_least : (sd : ℕ) (p mp e : List ℕ) (w : ℕ) → ((i : ℕ) → i < 5 → w ≤ at e i) → (s m : ℕ) → s + m ≤ 4 → w ≤ msiq_from sd p mp e s m
unfolding msiq_from
msiq_least sd p mp e w h s zero l = h s (omega arith)
msiq_least sd p mp e w h s (suc m) l =
    least_by (beyond sd (at p s) (at mp s)) (at e s) (msiq_from sd p mp e (suc s) m) w (h s (omega arith)) (msiq_least sd p mp e w h (suc s) m (omega arith))

priced_on : (x : Step) → x.upper ≤ least_from x.pricing 0 4 → (s : ℕ) → s < 5 → x.upper - x.lower ≤ at (five (pricing_on x)) s
unfolding pricing_on allocated
priced_on x h s l = omega (arith, at_five (pricing_on x) 0 s l, least_at x.pricing s l)

within_pricing : (x : Step) → x.upper ≤ least_from x.pricing 0 4 → (s : ℕ) → s < 5 → at (on_step x) s ≡ 0
unfolding on_step constrained_on constrained msiq_on msiq operating_on allocated
within_pricing x h s l =
    let q = msiq_least x.side x.price x.market (five (pricing_on x)) (x.upper - x.lower) (priced_on x h) s (4 - s) (omega arith) in
    omega (arith, at_five (constrained_on x) 0 s l, at_five (operating_on x) 0 s l, at_five (msiq_on x) 0 s l)

-- where no operating total is above a pricing one MSIQ is at least O in each schedule
covered_on : (x : Step) (s : ℕ) → s < 5 → min (least_from x.pricing 0 4) x.upper - x.lower ≤ at (five (pricing_on x)) s
unfolding pricing_on allocated
covered_on x s l = omega (arith, at_five (pricing_on x) 0 s l, least_at x.pricing s l)

covered : (x : Step) → most_to 5 (at x.operating) ≤ least_from x.pricing 0 4 → (s : ℕ) → s < 5 → at (on_step x) s ≡ 0
unfolding on_step constrained_on constrained msiq_on msiq operating_on allocated
covered x h s l =
    let w = min (least_from x.pricing 0 4) x.upper - x.lower in
    let q = msiq_least x.side x.price x.market (five (pricing_on x)) w (covered_on x) s (4 - s) (omega arith) in
    let m = most_term 5 (at x.operating) s l in
    omega (arith, at_five (constrained_on x) 0 s l, at_five (operating_on x) 0 s l, at_five (msiq_on x) 0 s l)

pub idle_covered : (x : Step) → most_to 5 (at x.operating) ≤ least_from x.pricing 0 4 → Idle x
idle_covered x h = none_on x (covered x h)

-- a step that lies within every pricing total, and one past every operating total
pub idle_within : (x : Step) → x.upper ≤ least_from x.pricing 0 4 → Idle x
idle_within x h = none_on x (within_pricing x h)

pub idle_past : (x : Step) → most_to 5 (at x.operating) ≤ x.lower → Idle x
idle_past x h = none_on x (past_operating x h)

pub nothing_taken : (x : Step) → Kept x → five (minus_of (initial x)) ≡ five (λ (s : ℕ). 0)
unfolding minus_of
nothing_taken x k = five_same (minus_of (initial x)) (λ (s : ℕ). 0) k.none

module _ (x : Step) (k : Idle x) where
  none_paid : (s : ℕ) → s < 5 → plus_of (initial x) s ≡ 0
  unfolding plus_of
  none_paid s l = initial_plus x s ∙ rw (k.rises s l) (zero-mul (rate x s))

  pub keeps : Kept x
  keeps = record { none = λ s l. initial_minus x s ∙ rw (k.falls s l) (zero-mul (rate x s)) }

  no_plus : five (plus_of (initial x)) ≡ five (λ (s : ℕ). 0)
  no_plus = five_same (plus_of (initial x)) (λ (s : ℕ). 0) none_paid

  pub idle_pool : step_pool x ≡ no_pool
  unfolding step_pool no_pool
  idle_pool =
      let plus = sym (kept_plus x keeps) ∙ no_plus in
      let minus = sym (kept_minus x keeps) in
      let rises = five_same (change_on rise x) (λ (s : ℕ). 0) k.rises in
      let falls = five_same (change_on fall x) (λ (s : ℕ). 0) k.falls in
      let differs = sym (kept_differs x keeps) in
      λ i. record { plus = plus i; minus = minus i; rises = rises i; falls = falls i; differs = differs i }

  pub initial_money : money_of (initial x) ≡ no_money
  unfolding money_of no_money
  initial_money = let plus = no_plus in let minus = nothing_taken x keeps in λ i. record { plus = plus i; minus = minus i }

  pub pool_idle : (p : SidePool) → pool_sum p no_pool ≡ p → p ≡ pool_sum p (step_pool x)
  pool_idle p e = sym e ∙ ap (pool_sum p) (sym idle_pool)

  pub money_idle : (m : Money) (claw : ℕ) (p : SidePool) → money_sum m no_money ≡ m → m ≡ money_sum m (money_of (final_on x claw p))
  money_idle m claw p e = sym e ∙ ap (money_sum m) (sym initial_money ∙ final_kept x keeps claw p)

-- what any other step is paid
module _ (x : Step) (v : Changes) (e : v ≡ changes_on x) (claw : ℕ) (p : SidePool) where
  pub taken_money : (w : List ℕ) → w ≡ five (minus_of (final_on x claw p)) → ◌≡◌ {A = Money} (record { plus = v.plus; minus = w }) (money_of (final_on x claw p))
  unfolding money_of
  taken_money w we = let pays = of_plus x v e ∙ final_pays x claw p in λ i. record { plus = pays i; minus = we i }

  first_money : money_of (initial x) ≡ money_of (final_on x claw p) → ◌≡◌ {A = Money} (record { plus = v.plus; minus = v.minus }) (money_of (final_on x claw p))
  unfolding money_of
  first_money h = taken_money v.minus (of_minus x v e ∙ ap (λ (m : Money). m.minus) h)

  pub kept_money : Kept x → ◌≡◌ {A = Money} (record { plus = v.plus; minus = v.minus }) (money_of (final_on x claw p))
  kept_money k = first_money (final_kept x k claw p)

  pub off_money : claw ≡ 0 → ◌≡◌ {A = Money} (record { plus = v.plus; minus = v.minus }) (money_of (final_on x claw p))
  unfolding final_on
  off_money z = first_money (sym (money_same _ _ (λ s l. off_initial x claw s (pool_at p s) z)))

-- a step takes nothing back where no initial payment does
pub takes_none : (x : Step) → Kept x → takes_back x ≡ 0
unfolding takes_back all_zero most_to
takes_none x k = ap (λ (l : List ℕ). bit (not (all_zero l))) (nothing_taken x k)

pub kept_none : (x : Step) → takes_back x ≡ 0 → Kept x
unfolding takes_back
kept_none x e = kept_by (all_zero (five (minus_of (initial x)))) refl e
  where
    kept_by : (t : Bool) → all_zero (five (minus_of (initial x))) ≡ t → bit (not t) ≡ 0 → Kept x
    kept_by true z h = kept_row x _ refl (sym z)
    kept_by false z h = absurd (omega (arith, h))

pub takes_some : (x : Step) (v : List ℕ) → v ≡ five (minus_of (initial x)) → false ≡ all_zero v → 1 ≡ takes_back x
unfolding takes_back
takes_some x v e h = rw (← e, ← h)

-- C is 0 throughout
pub idle_zero : (x : Step) (c : List ℕ) (n : ℕ) → c ≡ on_step x → n ≡ most_to 5 (at c) → n ≡ 0 → Idle x
idle_zero x c n ce ne z =
    none_on x (λ s l. let m = most_term 5 (at c) s l in let q = ap (λ (r : List ℕ). at r s) ce in omega arith)

-- the initial payments from a step's changes
pub initial_parts : (x : Step) (v : Changes) → v ≡ changes_on x → ◌≡◌ {A = Money} (record { plus = v.plus; minus = v.minus }) (money_of (initial x))
unfolding money_of
initial_parts x v e = λ i. record { plus = of_plus x v e i; minus = of_minus x v e i }

-- no initial payment of an idle step changes the money
pub initial_idle : (x : Step) → Idle x → (m : Money) → money_sum m no_money ≡ m → m ≡ money_sum m (money_of (initial x))
initial_idle x k m e = sym e ∙ ap (money_sum m) (sym (initial_money x k))
