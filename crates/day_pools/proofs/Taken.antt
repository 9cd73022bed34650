-- What the final payments of a line take back: the second pass, from what the first kept.
use Prim.Native.Nat.{ℕ, zero, suc, ◌+◌, ◌*◌, ◌-◌, ◌%◌, ◌/◌, ◌≤◌, ◌<◌, ◌^◌}
use native.Mathlib.Omega.{arith}
use native.Mathlib.Numerals.{add-one}
use native.Mathlib.Decide.{dec_lt}
use mathlib.Core.Path.{◌≡◌, refl, sym, ◌∙◌, ap, subst}
use mathlib.Core.Bool.{cond}
use mathlib.Core.List.{List}
use lib.Dec.{eqb}
use borrow.Author.Tests.{eq-eqb, ne_eqb}
use Rattle.rules.specs.Fold.{five}
use Rattle.rules.specs.Layout.{line_count, line_at, side, clawback}
use Rattle.rules.specs.Steps.{step_count}
use Rattle.rules.specs.Days.{step_of, settled_day}
use Rattle.laws.specs.Accepted.{AcceptedDay}
use Rattle.cutter_cursors.specs.Sweep.{far}
use Rattle.cutter_cursors.specs.declared.cursors.Sweep.{Sweep}
use Rattle.cutter.specs.Positions.{SweptTo}
use Rattle.cutter.specs.declared.positions.Position.{Position}
use Rattle.cutter.proofs.positions.Laws.{swept_end}
use Rattle.step_payments.specs.declared.amounts.Money.{Money}
use Rattle.step_payments.specs.Amounts.{money_of}
use Rattle.step_payments.proofs.amounts.Joining.{revised_pays}
use Rattle.step_pool.specs.declared.pool_amounts.SidePool.{SidePool}
use Rattle.step_pool.specs.Amounts.{sum_in, taken_with, taken_on, total_in, base_in, SharedOn, money_sum, step_pool, Kept, takes_back}
use Rattle.step_pool.proofs.pool_amounts.Settling.{final_pays, shares_final, shares_fit}
use Rattle.step_pool.proofs.pool_amounts.Kept.{final_kept}
use Rattle.step_pool.proofs.pool_amounts.Idle.{keeps, nothing_taken, kept_none}
use Rattle.day_pools.specs.Marks.{word_to, word_none, word_same, word_front, word_zero}
use Rattle.day_pools.specs.Sums.{row_to, row_whole, row_same, plus_rows, paid_of, taken_of, pool_to, money_to, money_more}
use Rattle.day_pools.specs.Sides.{step_pool_at, line_pool, side_pool}
use Rattle.day_pools.specs.Lines.{PoolFor, step_money, step_money_is, no_money_lem}
use Rattle.day_pools.specs.Passes.{Entered, takes_from}
use Rattle.day_pools.proofs.Laws.{sized_at, money_addable, money_there, payable_at}
use Rattle.day_pools.proofs.Passes.{pool_own, takes_most}

-- there is a next step while the count is not reached
pub gap_there : (d : List ℕ) (k : ℕ) {w : List ℕ} {j : ℕ} {at : Sweep} {e g : ℕ} → w ≡ line_at d k → SweptTo w j at e g → j < step_count (line_at d k) → g < far
gap_there d k {w} {j} {at} {e} {g} q v l =
    elim (dec_lt g far) [
      | yes h ↦ h
      | no h ↦ absurd (omega (arith, swept_end v (omega arith), ap step_count q))
    ]

-- the word of the steps from j on
module _ (d : List ℕ) (k n j x : ℕ) (e : x ≡ word_to (n - j) (takes_from d k j)) where
  pub word_goes : (x ≡ 0 → ⊥) → j < n
  word_goes h =
      elim (dec_lt j n) [
        | yes l ↦ l
        | no l ↦ let z : n - j ≡ 0 = omega arith in absurd (h (e ∙ ap (λ (m : ℕ). word_to m (takes_from d k j)) z ∙ word_none (takes_from d k j)))
      ]

  pub word_ends : x ≡ 0 → (i : ℕ) → j ≤ i → i < n → Kept (step_of d k i)
  unfolding takes_from
  word_ends z i a b =
      let q : j + (i - j) ≡ i = omega arith in
      let m = word_zero (n - j) (takes_from d k j) (sym e ∙ z) (i - j) (omega arith) in
      subst (λ (s : ℕ). Kept (step_of d k s)) q (kept_none (step_of d k (j + (i - j))) m)

  module _ (l : j < n) where
    front : x ≡ takes_back (step_of d k j) + 2 * word_to (n - (j + 1)) (takes_from d k (j + 1))
    unfolding takes_from
    front =
        let q : n - j ≡ suc (n - (j + 1)) = omega arith in
        let z : j + 0 ≡ j = omega arith in
        e ∙ ap (λ (m : ℕ). word_to m (takes_from d k j)) q ∙ word_front (n - (j + 1)) (takes_from d k j)
        ∙ rw (z, word_same (n - (j + 1)) (λ i. takes_from d k j (suc i)) (takes_from d k (j + 1)) (λ i b. ap (λ (s : ℕ). takes_back (step_of d k s)) (omega arith)))

    pub word_bit : x % 2 ≡ takes_back (step_of d k j)
    word_bit = omega (arith, front, takes_most (step_of d k j))

    pub word_half : x / 2 ≡ word_to (n - (j + 1)) (takes_from d k (j + 1))
    word_half = omega (arith, front, takes_most (step_of d k j))

-- what is taken back of the first j steps of line k
module _ (d : List ℕ) (k : ℕ) where
  abbrev steps : ℕ → Money
  steps = step_money (settled_day d) k

  unfoldable pub taken_to : ℕ → List ℕ
  taken_to j = (money_to j (step_money (settled_day d) k)).minus

  taken_more : (j : ℕ) → taken_to (j + 1) ≡ five (sum_in (taken_to j) (steps j).minus)
  unfolding taken_to money_sum
  taken_more j = ap (λ (m : Money). m.minus) (money_more j steps)

  none_taken : (j : ℕ) → Kept (step_of d k j) → (steps j).minus ≡ five (λ s. 0)
  unfolding money_of
  none_taken j z =
      let x = step_of d k j in
      let sd = side (line_at d k) in
      let p = side_pool (settled_day d) sd in
      ap (λ (m : Money). m.minus) (sym (step_money_is (settled_day d) k j p (pool_own (settled_day d) sd)) ∙ sym (final_kept x z (clawback d) p))
      ∙ nothing_taken x z

  pub taken_kept : (j : ℕ) → Kept (step_of d k j) → taken_to (j + 1) ≡ taken_to j
  unfolding taken_to money_to
  taken_kept j z = taken_more j ∙ ap (λ (r : List ℕ). five (sum_in (taken_to j) r)) (none_taken j z) ∙ row_whole (row_to j (taken_of (step_money (settled_day d) k)))

  pub taken_rest : (m n : ℕ) → m ≤ n → ((i : ℕ) → m ≤ i → i < n → Kept (step_of d k i)) → taken_to n ≡ taken_to m
  taken_rest m zero l h = let e : m ≡ 0 = omega arith in rw e
  taken_rest m (suc n) l h =
      elim (dec_lt n m) [
        | yes q ↦ let e : m ≡ suc n = omega arith in rw e
        | no q ↦
            let r = taken_rest m n (omega arith) (λ i a b. h i a (omega arith)) in
            ap taken_to (sym (add-one n)) ∙ taken_kept n (h n (omega arith) (omega arith)) ∙ r
      ]

  pub taken_first : {p : Position} → Entered d k p → five (λ s. 0) ≡ taken_to p.step
  unfolding taken_to
  taken_first {p} v =
      ap (λ (m : Money). m.minus) (no_money_lem steps)
      ∙ sym (taken_rest 0 p.step (omega arith) (λ i a b. keeps (step_of d k i) (v.idle i b)))

  -- what is paid
  paid_same : (j : ℕ) → (step_pool_at (settled_day d) k j).plus ≡ (steps j).plus
  unfolding step_pool_at step_pool money_of
  paid_same j =
      let x = step_of d k j in
      let sd = side (line_at d k) in
      let p = side_pool (settled_day d) sd in
      sym (revised_pays x) ∙ final_pays x (clawback d) p
      ∙ ap (λ (m : Money). m.plus) (step_money_is (settled_day d) k j p (pool_own (settled_day d) sd))

  pub plus_same : (line_pool (settled_day d) k).plus ≡ (money_to (step_count (line_at d k)) (step_money (settled_day d) k)).plus
  unfolding line_pool pool_to money_to plus_rows paid_of
  plus_same = row_same (step_count (line_at d k)) (λ i. (step_pool_at (settled_day d) k i).plus) (λ i. (steps i).plus) paid_same

  -- the line's money, from what is paid and what is taken back
  pub money_whole_is : (m : Money) (plus : List ℕ) (j : ℕ) → m ≡ record { plus = plus; minus = taken_to j } → plus ≡ (line_pool (settled_day d) k).plus
      → j ≤ step_count (line_at d k) → ((i : ℕ) → j ≤ i → i < step_count (line_at d k) → Kept (step_of d k i))
      → m ≡ money_to (step_count (line_at d k)) (step_money (settled_day d) k)
  unfolding taken_to
  money_whole_is m plus j e pe l h =
      let a = pe ∙ plus_same in
      let b = sym (taken_rest j (step_count (line_at d k)) l h) in
      e ∙ (λ i. record { plus = a i; minus = b i })

  -- a step more
  module _ (a : AcceptedDay d) (l : k < line_count d) (j : ℕ) (below : j < step_count (line_at d k)) (p : SidePool) (g : PoolFor (settled_day d) (side (line_at d k)) p) (on : clawback d ≡ 1) (t b : List ℕ) (te : t ≡ five (total_in p)) (be : b ≡ five (base_in p)) where
    there : five (taken_on (step_of d k j) t b) ≡ (steps j).minus
    unfolding money_of
    there =
        shares_final (step_of d k j) 1 p (λ e. omega arith) te be refl
        ∙ ap (λ (m : Money). m.minus) (money_there d a k l j below p g 1 (sym on))

    pub shared_there : SharedOn (step_of d k j) t b
    shared_there =
        shares_fit (step_of d k j) p te be (sized_at d a k l j below) ((payable_at d a k l j below p g 1 (sym on)).pooled (λ e. omega arith))

    pub taken_fits : (m : Money) (plus : List ℕ) → m ≡ record { plus = plus; minus = taken_to j } → (s : ℕ) → sum_in m.minus (five (taken_on (step_of d k j) t b)) s < 2 ^ 64
    unfolding taken_to
    taken_fits m plus e s = rw (e, there) ((money_addable d a k l j below (money_to j steps) (steps j) refl refl).minus s)

    pub taken_next : (x : ℕ) (m r : Money) (plus : List ℕ) → m ≡ record { plus = plus; minus = taken_to j } → x ≡ takes_back (step_of d k j)
        → r ≡ cond (eqb x 0) m (taken_with m (five (taken_on (step_of d k j) t b))) → r ≡ record { plus = plus; minus = taken_to (j + 1) }
    unfolding taken_with
    taken_next zero m r plus me xe re = re ∙ me ∙ ap (λ (z : List ℕ). record { plus = plus; minus = z }) (sym (taken_kept j (kept_none (step_of d k j) (sym xe))))
    taken_next (suc x) m r plus me xe re =
        re ∙ rw (ne_eqb (suc x) 0 (λ q. omega arith), me, there) (ap (λ (z : List ℕ). record { plus = plus; minus = z }) (sym (taken_more j)))
