-- Rows of five as the code has them: sums of two, pools of a side, and what the final payments take back.
use Rattle.std.specs.Prelude.{ℕ, ◌+◌, ◌*◌, ◌-◌, ◌/◌, ◌≤◌, ◌<◌, ◌^◌, min, max, Bool, cond, not, List, ◌≡◌, eqb, ltb, ℤ}
use Rattle.std.proofs.Math.IntN.{sub_ℕ}
use Rattle.rules.specs.Fold.{most_to, five, at, eqb_z}
use Rattle.laws.specs.Ints.{mi}
use Rattle.rules.specs.Layout.{quantity_most, price_most, most_lines}
use Rattle.rules.specs.Matching.{rise, fall}
use Rattle.rules.specs.Payments.{Pool, bit, rate, revised_rate, initial, given_back, revised, final_payment}
use Rattle.rules.specs.declared.Step.{Step}
use Rattle.step_payments.specs.declared.amounts.Money.{Money}
use Rattle.step_payments.specs.Parts.{change_on}
use Rattle.step_payments.specs.Amounts.{plus_of, minus_of}
use Rattle.step_pool.specs.declared.pool_amounts.SidePool.{SidePool}
use Rattle.step_pool.specs.declared.pool_amounts.Changes.{Changes}

unfoldable pub sum_in : List ℕ → List ℕ → ℕ → ℕ
sum_in a b s = at a s + at b s

-- 1 where two rows differ
unfoldable pub differ_in : List ℕ → List ℕ → ℕ → ℕ
differ_in a b s = bit (not (eqb (at a s) (at b s)))

-- the sum of two amounts of money
unfoldable pub money_sum : Money → Money → Money
money_sum a b = record { plus = five (sum_in a.plus b.plus); minus = five (sum_in a.minus b.minus) }

-- money of which the part taken back has a row more
unfoldable pub taken_with : Money → List ℕ → Money
taken_with m r = record { plus = m.plus; minus = five (sum_in m.minus r) }

-- 1 where "revised .. differs from its initial"
unfoldable pub differs_on : Step → ℕ → ℕ
differs_on x s = bit (not (eqb_z (revised x s) (initial x s)))

-- what one step adds to its side's pool
unfoldable pub step_pool : Step → SidePool
step_pool x =
    record {
      plus = five (plus_of (revised x));
      minus = five (minus_of (revised x));
      rises = five (change_on rise x);
      falls = five (change_on fall x);
      differs = five (differs_on x);
    }

-- the pool, and the money, of no step
unfoldable pub no_pool : SidePool
no_pool =
    record {
      plus = five (λ s. 0);
      minus = five (λ s. 0);
      rises = five (λ s. 0);
      falls = five (λ s. 0);
      differs = five (λ s. 0);
    }

unfoldable pub no_money : Money
no_money = record { plus = five (λ s. 0); minus = five (λ s. 0) }

-- a step's paid rises and falls, and its initial payments
unfoldable pub changes_on : Step → Changes
changes_on x =
    record {
      rises = five (change_on rise x);
      falls = five (change_on fall x);
      plus = five (plus_of (initial x));
      minus = five (minus_of (initial x));
    }

unfoldable pub pool_sum : SidePool → SidePool → SidePool
pool_sum a b =
    record {
      plus = five (sum_in a.plus b.plus);
      minus = five (sum_in a.minus b.minus);
      rises = five (sum_in a.rises b.rises);
      falls = five (sum_in a.falls b.falls);
      differs = five (sum_in a.differs b.differs);
    }

-- two pools whose sum fits
pub record Addable (a b : SidePool) : Type 0 where
  pub plus : (s : ℕ) → sum_in a.plus b.plus s < 2 ^ 64
  pub minus : (s : ℕ) → sum_in a.minus b.minus s < 2 ^ 64
  pub rises : (s : ℕ) → sum_in a.rises b.rises s < 2 ^ 64
  pub falls : (s : ℕ) → sum_in a.falls b.falls s < 2 ^ 64
  pub differs : (s : ℕ) → sum_in a.differs b.differs s < 2 ^ 64

-- two amounts of money whose sum fits
pub record MoneyAddable (a b : Money) : Type 0 where
  pub plus : (s : ℕ) → sum_in a.plus b.plus s < 2 ^ 64
  pub minus : (s : ℕ) → sum_in a.minus b.minus s < 2 ^ 64

-- T, B and whether some revised differs, in schedule s
unfoldable pub pool_at : SidePool → ℕ → Pool
pool_at p s =
    record {
      total = sub_ℕ (at p.plus s) (at p.minus s);
      base = max (at p.rises s) (at p.falls s);
      differs = ltb 0 (at p.differs s);
    }

-- the final payments of a step, from the clawback switch and its side's pool
unfoldable pub final_on : Step → ℕ → SidePool → ℕ → ℤ
final_on x claw p s = final_payment x claw s (pool_at p s)

-- T and B of a pool, by schedule; T as `shared_total` has it
unfoldable pub total_in : SidePool → ℕ → ℕ
total_in p s = cond (eqb (at p.differs s) 0) 0 (at p.plus s - at p.minus s)

unfoldable pub base_in : SidePool → ℕ → ℕ
base_in p s = max (at p.rises s) (at p.falls s)

-- what the final payment takes back in a schedule after the first with clawback on: from the flag, what the initial payment takes back,
-- what the matches give back at the revised rates and at the rates, the fall, T and B
unfoldable pub final_taken : ℕ → ℕ → ℕ → ℕ → ℕ → ℕ → ℕ → ℕ
final_taken flag i r m d t b = cond (eqb i 0) 0 (cond (eqb flag 1) m (cond (eqb t 0) r (min i (r + t * d / b))))

-- the same on a step, where t and b are T and B of its side by schedule
unfoldable pub taken_on : Step → List ℕ → List ℕ → ℕ → ℕ
taken_on x t b s =
    cond (eqb s 0) 0
    (final_taken (at x.flag s) (minus_of (initial x) s) (given_back x s (revised_rate x s)) (given_back x s (rate x)) (change_on fall x s) (at t s) (at b s))

-- what a share of t by d of b needs, where the initial payment takes back i and the matches give back r at the revised rates
pub record Sharing (i r d t b : ℕ) : Type 0 where
  pub part : d ≤ b
  pub some : 0 < i → 0 < b
  pub base : b < 2 ^ 34
  pub fall : d < 2 ^ 28
  pub fits : r + t < 2 ^ 64

-- the same on a step
pub record SharedOn (x : Step) (t b : List ℕ) : Type 0 where
  pub sharing : (s : ℕ) → s < 5 → Sharing (minus_of (initial x) s) (given_back x s (revised_rate x s)) (change_on fall x s) (at t s) (at b s)

-- a pool with the step in it, of at most 64 lines within the limits
pub record InPool (x : Step) (p : SidePool) : Type 0 where
  pub within : (s : ℕ) → s < 5 → change_on fall x s ≤ at p.falls s
  pub rising : (s : ℕ) → s < 5 → at p.rises s ≤ most_lines * quantity_most
  pub falling : (s : ℕ) → s < 5 → at p.falls s ≤ most_lines * quantity_most
  pub paying : (s : ℕ) → s < 5 → at p.plus s ≤ most_lines * (quantity_most * price_most)

-- whether a row of five is 0 throughout
unfoldable pub all_zero : List ℕ → Bool
all_zero v = eqb (most_to 5 (at v)) 0

-- a step without a paid rise or fall
pub record Idle (x : Step) : Type 0 where
  pub rises : (s : ℕ) → s < 5 → change_on rise x s ≡ 0
  pub falls : (s : ℕ) → s < 5 → change_on fall x s ≡ 0

-- a step whose initial payments take nothing back
pub record Kept (x : Step) : Type 0 where
  pub none : (s : ℕ) → s < 5 → mi (initial x s) ≡ 0

-- 1 where an initial payment of the step takes something back
unfoldable pub takes_back : Step → ℕ
takes_back x = bit (not (all_zero (five (minus_of (initial x)))))
