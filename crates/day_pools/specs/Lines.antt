-- What a line's steps are paid in the end, from the pool of its side.
use Rattle.std.specs.Prelude.{ℕ, suc, ◌*◌, ◌≤◌, ◌<◌, ◌^◌, ◌≡◌, refl, ℤ}
use Rattle.std.proofs.Common.{arith, sym, ◌∙◌, subst}
use Rattle.std.proofs.Math.Decide.{dec_lt, ℕ_discrete}
use Rattle.std.proofs.Math.Path.{ap}
use mathlib.Core.List.{List}
use Rattle.rules.specs.Fold.{sum_to, five, at}
use Rattle.rules.specs.Layout.{quantity_most, price_most}
use Rattle.rules.specs.Payments.{final_payment, Day, pool_of, step_final}
use Rattle.rules.specs.Totals.{line_payment}
use Rattle.rules.specs.declared.Step.{Step}
use Rattle.laws.specs.Folds.{sum_suc, sum_same, at_five}
use Rattle.laws.specs.Ints.{pl, mi, Split, split_own, split_is}
use Rattle.numbers.specs.Fives.{past_five}
use Rattle.step_pool.specs.declared.pool_amounts.SidePool.{SidePool}
use Rattle.step_payments.specs.declared.amounts.Money.{Money}
use Rattle.step_payments.specs.Amounts as amounts
use Rattle.step_payments.specs.Amounts.{money_of, Signable, signed_payment}
use Rattle.step_pool.specs.Amounts.{sum_in, no_pool, final_on, pool_at, InPool, MoneyAddable}
use Rattle.step_pool.specs.Parts.{off_initial, money_same}
use Rattle.step_inputs.specs.Paid.{DaySized, step_amount, line_amount, line_paid_most, line_taken_most}
use Rattle.day_pools.specs.Sums.{place_of, row_to, pool_to, paid_of, taken_of, money_to, sum_split}
use Rattle.day_pools.specs.Sides.{side_pool, pool_is}
use Rattle.day_pools.specs.Sizes.{sum_fewer, in_pool}

-- the pool that the payments of a side read: the side's, unless clawback is off
pub record PoolFor (y : Day) (sd : ℕ) (p : SidePool) : Type 0 where
  pub shared : (y.clawback ≡ 0 → ⊥) → p ≡ side_pool y sd

-- a step whose final payments can be worked out: clawback is off, or the pool has the step in it
pub record Payable (x : Step) (claw : ℕ) (p : SidePool) : Type 0 where
  pub pooled : (claw ≡ 0 → ⊥) → InPool x p

-- the final payments of step j of line k, by schedule
abbrev pub final_in : Day → ℕ → ℕ → ℕ → ℤ
final_in y k j s = step_final y s k j

-- what step j of line k is paid in the end
unfoldable pub step_money : Day → ℕ → ℕ → Money
step_money y k j = money_of (final_in y k j)

-- the final payments from the pool that the code has are document 01's
pub final_is : (y : Day) (k j : ℕ) (p : SidePool) → PoolFor y (y.side k) p → (s : ℕ) → s < 5 → final_on (y.step k j) y.clawback p s ≡ final_in y k j s
unfolding final_on step_final
final_is y k j p h s l =
    elim (ℕ_discrete y.clawback 0) [
      | yes e ↦ off_initial (y.step k j) y.clawback s (pool_at p s) e ∙ sym (off_initial (y.step k j) y.clawback s (pool_of y (y.side k) s) e)
      | no n ↦
          ap (final_payment (y.step k j) y.clawback s)
          (ap (λ (q : SidePool). pool_at q s) (h.shared n) ∙ pool_is y (y.side k) s l)
    ]

pub step_money_is : (y : Day) (k j : ℕ) (p : SidePool) → PoolFor y (y.side k) p → money_of (final_on (y.step k j) y.clawback p) ≡ step_money y k j
unfolding step_money
step_money_is y k j p h = money_same _ _ (final_is y k j p h)

-- a pool that the payments of a side read has the side's steps in it
pub payable : (y : Day) → DaySized y → (k j : ℕ) → k < y.lines → j < y.count k → (p : SidePool) → PoolFor y (y.side k) p → Payable (y.step k j) y.clawback p
payable y z k j l h p g = record { pooled = λ n. subst (InPool (y.step k j)) (sym (g.shared n)) (in_pool y z k j l h) }

-- what is paid, and what is taken back: one row of the money, `of`, and the part of a payment that it holds
pub record Part (of : Money → List ℕ) (part : ℤ → ℕ) : Type 0 where
  pub step : (f : ℕ → ℤ) → of (money_of f) ≡ five (λ s. part (f s))
  pub sum : (n : ℕ) (f : ℕ → Money) → of (money_to n f) ≡ five (row_to n (λ i. of (f i)))

pub paid_part : Part (λ m. m.plus) pl
unfolding money_of money_to paid_of amounts.plus_of
paid_part = record { step = λ f. refl; sum = λ n f. refl }

pub taken_part : Part (λ m. m.minus) mi
unfolding money_of money_to taken_of amounts.minus_of
taken_part = record { step = λ f. refl; sum = λ n f. refl }

module _ (of : Money → List ℕ) (part : ℤ → ℕ) (row : Part of part) (y : Day) where
  step_place : (k j s : ℕ) → s < 5 → at (of (step_money y k j)) s ≡ step_amount part y s k j
  unfolding step_money step_amount
  step_place k j s l = ap (λ (r : List ℕ). at r s) (row.step _) ∙ at_five (λ t. part (step_final y t k j)) 0 s l

  pub money_place : (k n s : ℕ) → s < 5 → at (of (money_to n (step_money y k))) s ≡ sum_to n (step_amount part y s k)
  unfolding row_to place_of
  money_place k n s l =
      ap (λ (r : List ℕ). at r s) (row.sum n (step_money y k))
      ∙ at_five (row_to n (λ i. of (step_money y k i))) 0 s l
      ∙ sum_same n _ (step_amount part y s k) (λ j h. step_place k j s l)

  past_step : (k j s : ℕ) → 5 ≤ s → at (of (step_money y k j)) s ≡ 0
  unfolding step_money
  past_step k j s h = ap (λ (r : List ℕ). at r s) (row.step (final_in y k j)) ∙ past_five (λ t. part (final_in y k j t)) s h

  past_money : (k n s : ℕ) → 5 ≤ s → at (of (money_to n (step_money y k))) s ≡ 0
  past_money k n s h = ap (λ (r : List ℕ). at r s) (row.sum n (step_money y k)) ∙ past_five (row_to n (λ i. of (step_money y k i))) s h

  module _ (most : (k : ℕ) → k < y.lines → (s : ℕ) → s < 5 → line_amount part y s k ≤ quantity_most * price_most) where
    pub part_adds : (k n : ℕ) → k < y.lines → n < y.count k → (s : ℕ) → sum_in (of (money_to n (step_money y k))) (of (step_money y k n)) s < 2 ^ 64
    unfolding sum_in line_amount
    part_adds k n l h s =
        elim (dec_lt s 5) [
          | yes i ↦
              let f = step_amount part y s k in
              let m = sum_fewer (suc n) (y.count k) f (omega arith) in
              omega (arith, money_place k n s i, step_place k n s i, sum_suc n f, most k l s i)
          | no g ↦ omega (arith, past_money k n s (omega arith), past_step k n s (omega arith))
        ]

    pub part_fits : (k : ℕ) → k < y.lines → (s : ℕ) → at (of (money_to (y.count k) (step_money y k))) s < 2 ^ 63
    unfolding line_amount
    part_fits k l s =
        elim (dec_lt s 5) [
          | yes i ↦ omega (arith, money_place k (y.count k) s i, most k l s i)
          | no g ↦ omega (arith, past_money k (y.count k) s (omega arith))
        ]

module _ (y : Day) (z : DaySized y) where
  pub money_adds : (k n : ℕ) → k < y.lines → n < y.count k → MoneyAddable (money_to n (step_money y k)) (step_money y k n)
  money_adds k n l h =
      record {
        plus = part_adds (λ m. m.plus) pl paid_part y (line_paid_most y z) k n l h;
        minus = part_adds (λ m. m.minus) mi taken_part y (line_taken_most y z) k n l h;
      }

  pub line_signable : (k : ℕ) → k < y.lines → Signable (money_to (y.count k) (step_money y k))
  line_signable k l =
      record {
        plus = part_fits (λ m. m.plus) pl paid_part y (line_paid_most y z) k l;
        minus = part_fits (λ m. m.minus) mi taken_part y (line_taken_most y z) k l;
      }

-- the line's payment in s, from its money
pub payment_split : (y : Day) (s k : ℕ) → Split (line_payment y s k) (line_amount pl y s k) (line_amount mi y s k)
unfolding line_payment line_amount step_amount
payment_split y s k = sum_split (y.count k) _ _ _ (λ j h. split_own (step_final y s k j))

pub payment_is : (y : Day) (k s : ℕ) → s < 5 → signed_payment (money_to (y.count k) (step_money y k)) s ≡ line_payment y s k
unfolding signed_payment line_amount
payment_is y k s l =
    let n = y.count k in
    let p = money_place (λ m. m.plus) pl paid_part y k n s l in
    let m = money_place (λ m. m.minus) mi taken_part y k n s l in
    rw (p, m) (sym (split_is (payment_split y s k)))

pub no_pool_lem : (f : ℕ → SidePool) → no_pool ≡ pool_to 0 f
unfolding no_pool pool_to row_to sum_to
no_pool_lem f = refl

pub no_money_lem : (f : ℕ → Money) → ◌≡◌ {A = Money} (record { plus = five (λ s. 0); minus = five (λ s. 0) }) (money_to 0 f)
unfolding money_to row_to sum_to
no_money_lem f = refl
