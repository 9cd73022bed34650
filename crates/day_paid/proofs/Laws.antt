-- What a line is paid, put into the lent places, and the lines so far, from what the code has worked out.
use Prim.Native.Nat.{ℕ, ◌+◌, ◌*◌, ◌≤◌, ◌<◌}
use native.Mathlib.Omega.{arith}
use native.Mathlib.Numerals.{towards_suc}
use mathlib.Core.Path.{◌≡◌, refl, sym, ◌∙◌, ap, subst}
use mathlib.Core.List.{List, [], ◌∷◌}
use lib.ListN.{length, set}
use lib.Seq.{sets}
use lib.IntN.{ℤ}
use borrow.Author.Tests.{eq-eqb, ne_eqb}
use Rattle.rules.specs.Fold.{five, at_z, list_to}
use Rattle.rules.specs.Layout.{clawback}
use Rattle.rules.specs.Payments.{Day}
use Rattle.rules.specs.Totals.{total, totals, adjusted, adjusted_total}
use Rattle.step_payments.specs.declared.amounts.Money.{Money}
use Rattle.step_pool.specs.declared.pool_amounts.SidePool.{SidePool}
use Rattle.step_payments.specs.Amounts.{Signable, signed_payment}
use Rattle.step_pool.specs.Amounts.{money_sum, MoneyAddable}
use Rattle.laws.specs.Accepted.{AcceptedDay}
use Rattle.step_inputs.specs.declared.inputs.Market.{Market}
use Rattle.step_inputs.specs.Inputs.{market_of}
use Rattle.step_inputs.specs.Paid.{DaySized, day_bounded}
use Rattle.day_pools.proofs.Laws.{market_claw}
use Rattle.day_pools.specs.Sums.{money_to, money_more}
use Rattle.day_pools.specs.Lines.{step_money, line_signable}
use Rattle.day_totals.specs.Sizes.{Bounded}
use Rattle.day_paid.specs.Sums.{line_money, total_adds, total_signable, total_is, payments_are}
use Rattle.day_paid.specs.Lines.{pool_in}
use Rattle.day_paid.specs.Paid.{payments_of, payments_to}

pub pool_first : (sd : ℕ) (i w : SidePool) → sd ≡ 0 → i ≡ pool_in sd i w
unfolding pool_in
pool_first sd i w e = rw (eq-eqb sd 0 e)

pub pool_second : (sd : ℕ) (i w : SidePool) → (sd ≡ 0 → ⊥) → w ≡ pool_in sd i w
unfolding pool_in
pool_second sd i w e = rw (ne_eqb sd 0 e)

-- five stores, one after another
five_list : (v : List ℤ) → length v ≡ 5 → v ≡ five (at_z v)
five_list (a ∷ b ∷ c ∷ d ∷ e ∷ []) h = refl
five_list [] h = absurd (omega arith)
five_list (a ∷ []) h = absurd (omega arith)
five_list (a ∷ b ∷ []) h = absurd (omega arith)
five_list (a ∷ b ∷ c ∷ []) h = absurd (omega arith)
five_list (a ∷ b ∷ c ∷ d ∷ []) h = absurd (omega arith)
five_list (a ∷ b ∷ c ∷ d ∷ e ∷ f ∷ v) h = absurd (omega arith)

pub five_stores : (l v : List ℤ) (at : ℕ) {a b c d e : ℤ} → length v ≡ 5 → a ≡ at_z v 0 → b ≡ at_z v 1 → c ≡ at_z v 2 → d ≡ at_z v 3 → e ≡ at_z v 4
    → set (set (set (set (set l at a) (at + 1) b) (at + 2) c) (at + 3) d) (at + 4) e ≡ sets l at v
five_stores l v at h p q r s t = rw (p, q, r, s, t) (simp towards_suc refl ∙ ap (sets l at) (sym (five_list v h)))

module _ (y : Day) (k : ℕ) where
  pub money_signable : DaySized y → k < y.lines → (m : Money) → m ≡ money_to (y.count k) (step_money y k) → Signable m
  money_signable z l m e = subst Signable (sym e) (line_signable y z k l)

  pub money_steps : (m : Money) → m ≡ line_money y k → m ≡ money_to (y.count k) (step_money y k)
  unfolding line_money
  money_steps m e = e

  pub line_money_lem : (m : Money) → m ≡ money_to (y.count k) (step_money y k) → m ≡ line_money y k
  unfolding line_money
  line_money_lem m e = e

  pub line_payments_lem : (m : Money) (pay b c : List ℤ) → m ≡ money_to (y.count k) (step_money y k) → pay ≡ five (signed_payment m)
      → c ≡ sets b (5 * k) pay → c ≡ sets b (5 * k) (payments_of y k)
  unfolding line_money
  line_payments_lem m pay b c me pe ce =
      ce ∙ ap (sets b (5 * k)) (pe ∙ ap (λ (x : Money). five (signed_payment x)) me ∙ payments_are y k)

  pub total_addable : DaySized y → k < y.lines → (q m : Money) → q ≡ money_to k (line_money y) → m ≡ line_money y k → MoneyAddable q m
  total_addable z l q m qe me = rw (qe, me) (total_adds y z k l)

pub lines_next : (y : Day) (k : ℕ) (q m r : Money) → q ≡ money_to k (line_money y) → m ≡ line_money y k → r ≡ money_sum q m → r ≡ money_to (k + 1) (line_money y)
lines_next y k q m r qe me re = re ∙ rw (qe, me) (sym (money_more k (line_money y)))

pub all_paid : (y : Day) (k n : ℕ) (q : Money) (l m : List ℤ) → n ≡ y.lines → k ≤ n → n ≤ k → q ≡ money_to k (line_money y) → m ≡ sets l 0 (payments_to y k)
    → (q ≡ money_to y.lines (line_money y)) × (m ≡ sets l 0 (payments_to y y.lines))
all_paid y k n q l m ne h g qe me =
    let e : k ≡ y.lines = omega arith in
    (qe ∙ ap (λ (j : ℕ). money_to j (line_money y)) e, me ∙ ap (λ (j : ℕ). sets l 0 (payments_to y j)) e)

pub lines_paid : (y : Day) (k n : ℕ) (q : Money) (l m : List ℤ) (b c : List ℕ) → n ≡ y.lines → k ≤ n → n ≤ k
    → q ≡ money_to k (line_money y) → m ≡ sets l 0 (payments_to y k) → c ≡ sets b 0 (list_to k y.count)
    → (q ≡ money_to y.lines (line_money y)) × ((m ≡ sets l 0 (payments_to y y.lines)) × (c ≡ sets b 0 (list_to y.lines y.count)))
lines_paid y k n q l m b c ne h g qe me ce =
    let e : k ≡ y.lines = omega arith in
    let p = all_paid y k n q l m ne h g qe me in
    (p.0, (p.1, ce ∙ ap (λ (j : ℕ). sets b 0 (list_to j y.count)) e))

-- the totals
module _ (y : Day) (z : DaySized y) (q : Money) (qe : q ≡ money_to y.lines (line_money y)) where
  pub all_signable : Signable q
  all_signable = subst Signable (sym qe) (total_signable y z)

  module _ (t : List ℤ) (te : t ≡ five (signed_payment q)) where
    pub totals_there : t ≡ five (total y)
    totals_there = te ∙ ap (λ (x : Money). five (signed_payment x)) qe ∙ total_is y

    pub all_bounded : Bounded t
    unfolding totals
    all_bounded = subst Bounded (sym totals_there) (day_bounded y z)

    pub adjusted_there : (u : List ℤ) → u ≡ five (adjusted t) → u ≡ five (adjusted_total y)
    unfolding adjusted_total totals
    adjusted_there u ue = ue ∙ ap (λ (x : List ℤ). five (adjusted x)) totals_there

-- the clawback switch is 0 or 1
pub clawback_on : (d : List ℕ) → AcceptedDay d → (m : Market) → m ≡ market_of d → (m.clawback ≡ 0 → ⊥) → clawback d ≡ 1
clawback_on d a m e n = let q = market_claw d m e in omega (arith, a.market.clawback_most)
