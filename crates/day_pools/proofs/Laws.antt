-- Step j of line k as the loops over a line's steps put it together.
use Prim.Native.Nat.{ℕ, ◌+◌, ◌*◌, ◌≤◌, ◌<◌}
use native.Mathlib.Omega.{arith}
use native.Mathlib.Numerals.{add-one}
use mathlib.Core.Path.{◌≡◌, sym, ◌∙◌, ap, subst}
use mathlib.Core.List.{List}
use lib.ListN.{length, get_or}
use Rattle.rules.specs.Layout.{line_count, line_place, file_length, line_at, side, clawback}
use lib.Dec.{eqb}
use mathlib.Core.Bool.{true, false}
use borrow.Author.Tests.{eq-eqb, ne_eqb}
use Rattle.rules.specs.Steps.{step_count, upper_end, lower_end}
use Rattle.rules.specs.Cutting.{cut_of}
use Rattle.rules.specs.Refusals.{line_fault_with}
use Rattle.rules.specs.InForce.{table_in_force}
use Rattle.rules.specs.Payments.{Day}
use Rattle.rules.specs.Days.{step_of, settled_day}
use Rattle.rules.specs.declared.Step.{Step}
use Rattle.rules.specs.declared.Cut.{Cut}
use Rattle.laws.specs.Accepted.{AcceptedLine, AcceptedDay, accepted_line_at}
use Rattle.cutter.specs.Ends.{count_most}
use Rattle.step_payments.specs.Sizes.{Sized}
use Rattle.step_payments.specs.Amounts.{money_of}
use Rattle.step_pool.specs.Amounts.{step_pool, no_pool, pool_sum, Addable, MoneyAddable, final_on, money_sum}
use Rattle.step_payments.specs.declared.amounts.Money.{Money}
use Rattle.step_pool.specs.declared.pool_amounts.SidePool.{SidePool}
use Rattle.step_inputs.specs.declared.inputs.Market.{Market}
use Rattle.step_inputs.specs.declared.inputs.LineTotals.{LineTotals}
use Rattle.step_inputs.specs.Inputs.{market_of, totals_of, StepReady}
use Rattle.step_inputs.specs.Steps.{end_is}
use Rattle.step_inputs.specs.Paid.{DaySized, settled_sized}
use Rattle.day_pools.specs.Sums.{pool_to, pool_more, money_to, money_more}
use Rattle.day_pools.specs.Sides.{step_pool_at, line_pool, side_part, side_pool}
use Rattle.day_pools.specs.Lines.{PoolFor, Payable, payable, step_money, step_money_is, money_adds, no_pool_lem}
use Rattle.day_pools.specs.Sizes.{steps_addable, lines_addable}

-- line k of an accepted day
module _ (d : List ℕ) (a : AcceptedDay d) (k : ℕ) (l : k < line_count d) where
  -- step j of it
  module _ (j : ℕ) (below : j < step_count (line_at d k)) where
    pub sized_at : Sized (step_of d k j)
    sized_at = (settled_sized d a).steps k l j below

    -- the pool with this step
    pub pool_addable : (q : SidePool) → q ≡ pool_to j (step_pool_at (settled_day d) k) → Addable q (step_pool (step_of d k j))
    unfolding step_pool_at
    pool_addable q qe = rw qe (steps_addable (settled_day d) (settled_sized d a) k j l below)

    pub pool_next : (q r : SidePool) → q ≡ pool_to j (step_pool_at (settled_day d) k) → r ≡ pool_sum q (step_pool (step_of d k j)) → r ≡ pool_to (j + 1) (step_pool_at (settled_day d) k)
    unfolding step_pool_at
    pool_next q r qe re = re ∙ rw qe (sym (pool_more j (step_pool_at (settled_day d) k)))

    -- the money with this step
    pub money_addable : (q m : Money) → q ≡ money_to j (step_money (settled_day d) k) → m ≡ step_money (settled_day d) k j → MoneyAddable q m
    money_addable q m qe me = rw (qe, me) (money_adds (settled_day d) (settled_sized d a) k j l below)

    module _ (p : SidePool) (g : PoolFor (settled_day d) (side (line_at d k)) p) (cl : ℕ) (ce : cl ≡ clawback d) where
      pub payable_at : Payable (step_of d k j) cl p
      payable_at = rw ce (payable (settled_day d) (settled_sized d a) k j l below p g)

      pub money_there : money_of (final_on (step_of d k j) cl p) ≡ step_money (settled_day d) k j
      money_there = rw ce (step_money_is (settled_day d) k j p g)

  -- the cutter's answer for it
  module _ (v : List ℕ) (e : v ≡ line_at d k) (c : Cut) (cut : c ≡ cut_of v) where
    own : c ≡ cut_of (line_at d k)
    own = cut ∙ ap cut_of e

    pub count_is : c.count ≡ step_count (line_at d k)
    unfolding cut_of
    count_is = ap (λ (z : Cut). z.count) own

    pub count_few : c.count ≤ 56
    count_few = omega (arith, count_is, count_most (line_at d k) (accepted_line_at d a k l))

    module _ (j : ℕ) (h : j < c.count) where
      below : j < step_count (line_at d k)
      below = omega (arith, count_is)

      -- what step j of line k is put together from
      pub step_there : (m : Market) (t : LineTotals) (tb : List (List ℕ)) (lo : ℕ)
          → m ≡ market_of d → tb ≡ table_in_force d k → t ≡ totals_of tb v → lo ≡ lower_end (line_at d k) j
          → StepReady d k m t c.ends c.prices c.flags lo j
      step_there m t tb lo me be te le =
          record {
            accepted = accepted_line_at d a k l;
            step = below;
            market = me;
            totals = te ∙ ap (λ (z : List (List ℕ)). totals_of z v) be ∙ ap (totals_of (table_in_force d k)) e;
            ends = ap (λ (z : Cut). z.ends) own;
            prices = ap (λ (z : Cut). z.prices) own;
            flags = ap (λ (z : Cut). z.flags) own;
            lower = le;
          }

      pub step_sized : (x : Step) → x ≡ step_of d k j → Sized x
      step_sized x xe = subst Sized (sym xe) (sized_at j below)

      -- the lower end of the next step
      pub next_lower : (u : ℕ) → u ≡ get_or c.ends j 0 → u ≡ lower_end (line_at d k) (j + 1)
      unfolding lower_end upper_end
      next_lower u ue =
          let e = end_is (line_at d k) (accepted_line_at d a k l) j below in
          rw add-one (ue ∙ ap (λ (z : Cut). get_or z.ends j 0) own ∙ e)

      pub step_payable : (p : SidePool) → PoolFor (settled_day d) (side (line_at d k)) p → (cl : ℕ) → cl ≡ clawback d → (x : Step) → x ≡ step_of d k j → Payable x cl p
      step_payable p g cl ce x xe = rw xe (payable_at j below p g cl ce)

-- a side's part of a line
pub part_other : (d v : List ℕ) (sd k x : ℕ) (r : SidePool) → v ≡ line_at d k → x ≡ side v → (x ≡ sd → ⊥) → r ≡ no_pool → r ≡ side_part (settled_day d) sd k
unfolding side_part
part_other d v sd k x r e xe n re =
    let h : eqb (side (line_at d k)) sd ≡ false = ne_eqb _ sd (λ z. n (xe ∙ ap side e ∙ z)) in
    re ∙ no_pool_lem (step_pool_at (settled_day d) k) ∙ rw h

pub part_own : (d v : List ℕ) (sd k x : ℕ) (r : SidePool) → v ≡ line_at d k → x ≡ side v → x ≡ sd → r ≡ line_pool (settled_day d) k → r ≡ side_part (settled_day d) sd k
unfolding side_part
part_own d v sd k x r e xe n re =
    let h : eqb (side (line_at d k)) sd ≡ true = eq-eqb _ sd (sym (ap side e) ∙ sym xe ∙ n) in
    re ∙ rw h

-- a side's pool, line by line
module _ (y : Day) (sd : ℕ) where
  pub side_addable : DaySized y → (k : ℕ) → k < y.lines → (q r : SidePool) → q ≡ pool_to k (side_part y sd) → r ≡ side_part y sd k → Addable q r
  side_addable z k l q r qe re = rw (qe, re) (lines_addable y z sd k l)

  pub side_next : (k : ℕ) (q r p : SidePool) → q ≡ pool_to k (side_part y sd) → r ≡ side_part y sd k → p ≡ pool_sum q r → p ≡ pool_to (k + 1) (side_part y sd)
  side_next k q r p qe re pe = pe ∙ rw (qe, re) (sym (pool_more k (side_part y sd)))

  pub side_whole : (n k : ℕ) (q : SidePool) → n ≡ y.lines → k ≤ n → n ≤ k → q ≡ pool_to k (side_part y sd) → q ≡ side_pool y sd
  unfolding side_pool
  side_whole n k q ne h l qe = let e : k ≡ y.lines = omega arith in qe ∙ ap (λ (m : ℕ). pool_to m (side_part y sd)) e

  pub pool_off : (cl : ℕ) (p : SidePool) → cl ≡ y.clawback → cl ≡ 0 → PoolFor y sd p
  pool_off cl p e z = record { shared = λ n. absurd (n (sym e ∙ z)) }

  pub pool_on : (p : SidePool) → p ≡ side_pool y sd → PoolFor y sd p
  pool_on p e = record { shared = λ n. e }

pub market_claw : (d : List ℕ) (m : Market) → m ≡ market_of d → m.clawback ≡ clawback d
unfolding market_of
market_claw d m e = ap (λ (z : Market). z.clawback) e
