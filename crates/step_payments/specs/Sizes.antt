-- The facts of a step that the code needs, and the bounds that follow: rates, rises, falls, and what matches give back.
use Rattle.std.specs.Prelude.{ℕ, zero, suc, ◌*◌, ◌-◌, ◌≤◌, min, max, Bool, true, false, cond}
use Rattle.std.proofs.Common.{mul-le-mul_left, add-mul, arith}
use Rattle.rules.specs.Fold.{sum_to, at, before}
use Rattle.rules.specs.Layout.{quantity_most, price_most, withdrawal}
use Rattle.rules.specs.Matching.{earlier, rise, fall, matched}
use Rattle.rules.specs.Payments.{on_step, beyond_by, milder, rate, revised_rate, given_back}
use Rattle.rules.specs.declared.Step.{Step}
use Rattle.laws.specs.Folds.{sum_none, sum_suc}
use Rattle.step_quantities.specs.Bounds.{on_step_upper}
use Rattle.step_matching.specs.Balance.{falls_matched}
use Rattle.step_matching.specs.OpenValue.{taken_at}

-- a step within the limits of quantities and prices
pub record Sized (x : Step) : Type 0 where
  pub upper : x.upper ≤ quantity_most
  pub prices : (s : ℕ) → at x.price s ≤ price_most
  pub markets : (s : ℕ) → at x.market s ≤ price_most

-- rates of prices of at most b
beyond_by_lem : (t : Bool) (p m b : ℕ) → p ≤ b → m ≤ b → cond t (m - p) (p - m) ≤ b
beyond_by_lem true p m b h k = omega arith
beyond_by_lem false p m b h k = omega arith

pub beyond_most : (sd p m b : ℕ) → p ≤ b → m ≤ b → beyond_by sd p m ≤ b
unfolding beyond_by
beyond_most sd p m b h k = beyond_by_lem (withdrawal sd) p m b h k

pub rate_most : (x : Step) (s : ℕ) → Sized x → rate x s ≤ price_most
unfolding rate
rate_most x s z = beyond_most x.side (at x.price s) (at x.market s) price_most (z.prices s) (z.markets s)

-- the revised rate is at most the rate
milder_by : (t : Bool) (p q m : ℕ) → cond t (m - cond t (max p q) (min p q)) (cond t (max p q) (min p q) - m) ≤ cond t (m - q) (q - m)
milder_by true p q m = omega arith
milder_by false p q m = omega arith

pub revised_rate-most : (x : Step) (s r : ℕ) → revised_rate x s r ≤ rate x s
unfolding revised_rate rate beyond_by milder
revised_rate-most x s r = milder_by (withdrawal x.side) (at x.price r) (at x.price s) (at x.market s)

-- rises and falls of a step are at most its upper end
pub rise_most : (x : Step) (s : ℕ) → rise (on_step x) s ≤ x.upper
unfolding rise
rise_most x s = omega (arith, on_step_upper x s)

fall_by : (x : Step) (s : ℕ) → earlier (on_step x) s ≤ x.upper
unfolding earlier before
fall_by x zero = omega arith
fall_by x (suc s) = on_step_upper x s

pub fall_most : (x : Step) (s : ℕ) → fall (on_step x) s ≤ x.upper
unfolding fall
fall_most x s = omega (arith, fall_by x s)

-- m(r, s) times a rate of r
abbrev pub matched_at : Step → ℕ → (ℕ → ℕ) → ℕ → ℕ
matched_at x s f r = taken_at (on_step x) f s r

-- what n matches give back at rates of at most b
part_most_lem : (x : Step) (s n b : ℕ) (f : ℕ → ℕ) → ((r : ℕ) → f r ≤ b) → sum_to n (matched_at x s f) ≤ sum_to n (matched (on_step x) s) * b
part_most_lem x s zero b f h = rw (sum_none (matched_at x s f)) (omega arith)
part_most_lem x s (suc n) b f h =
    let m = matched (on_step x) s in
    omega (
      arith,
      sum_suc n (matched_at x s f),
      sum_suc n m,
      part_most_lem x s n b f h,
      mul-le-mul_left (m n) (h n),
      add-mul (sum_to n m) (m n) b,
      mathlib.Core.Path.ap (λ (k : ℕ). k * b) (sum_suc n m),
    )

-- all of them give back at most the fall at the greatest rate
pub given_back_most : (x : Step) (s b : ℕ) (f : ℕ → ℕ) → ((r : ℕ) → f r ≤ b) → given_back x s f ≤ fall (on_step x) s * b
unfolding given_back
given_back_most x s b f h = rw (← falls_matched (on_step x) s) (part_most_lem x s s b f h)
