-- The pool of a line, of a side, and that it is document 01's T, B and "some revised differs" (document 01, "Payments").
use Rattle.std.specs.Prelude.{ℕ, ◌<◌, ◌≡◌, refl, Bool, not, cond, eqb, ltb, pos}
use Rattle.std.proofs.Common.{◌∙◌}
use Rattle.std.proofs.Math.Path.{ap}
use mathlib.Core.List.{List}
use Rattle.std.proofs.Math.Bool.{true, false}
use Rattle.rules.specs.Fold.{sum_to, sum_z, some_to, five, at, eqb_z}
use Rattle.rules.specs.Matching.{rise, fall}
use Rattle.rules.specs.Payments.{bit, revised, initial, Day, pool_total, pool_change, pool_base, pool_differs, pool_of}
use Rattle.rules.specs.declared.Step.{Step}
use Rattle.laws.specs.Folds.{sum_same, sum_none, at_five}
use Rattle.laws.specs.Ints.{pl, mi, Split, split_own, split_is, split_none}
use Rattle.step_pool.specs.declared.pool_amounts.SidePool.{SidePool}
use Rattle.step_payments.specs.Parts.{change_on}
use Rattle.step_payments.specs.Amounts as amounts
use Rattle.step_pool.specs.Amounts.{step_pool, pool_at, differs_on}
use Rattle.step_inputs.specs.Paid.{step_at, line_sum}
use Rattle.day_pools.specs.Sums.{place_of, row_to, plus_rows, minus_rows, rises_rows, falls_rows, differs_rows, pool_to, sum_split, some_sum}

-- whether line k is of the side
abbrev pub of_side : Day → ℕ → ℕ → Bool
of_side y sd k = eqb (y.side k) sd

-- step j of line k, line k, and the lines of a side
unfoldable pub step_pool_at : Day → ℕ → ℕ → SidePool
step_pool_at y k j = step_pool (y.step k j)

unfoldable pub line_pool : Day → ℕ → SidePool
line_pool y k = pool_to (y.count k) (step_pool_at y k)

unfoldable pub side_part : Day → ℕ → ℕ → SidePool
side_part y sd k = cond (of_side y sd k) (line_pool y k) (pool_to 0 (step_pool_at y k))

unfoldable pub side_pool : Day → ℕ → SidePool
side_pool y sd = pool_to y.lines (side_part y sd)

-- a figure of the steps added up over a side's lines
unfoldable pub side_at : (Step → ℕ → ℕ) → Day → ℕ → ℕ → ℕ → ℕ
side_at q y sd s k = cond (of_side y sd k) (line_sum q y s k) 0

unfoldable pub side_sum : (Step → ℕ → ℕ) → Day → ℕ → ℕ → ℕ
side_sum q y sd s = sum_to y.lines (side_at q y sd s)

-- a row of the pools: `of` takes it out, and for a step it holds the figure q
pub record Row (of : SidePool → List ℕ) (q : Step → ℕ → ℕ) : Type 0 where
  pub step : (x : Step) → of (step_pool x) ≡ five (q x)
  pub sum : (n : ℕ) (f : ℕ → SidePool) → of (pool_to n f) ≡ five (row_to n (λ i. of (f i)))

unfoldable pub revised_paid : Step → ℕ → ℕ
revised_paid x s = pl (revised x s)

unfoldable pub revised_taken : Step → ℕ → ℕ
revised_taken x s = mi (revised x s)

pub plus_row : Row (λ p. p.plus) revised_paid
unfolding step_pool pool_to plus_rows amounts.plus_of revised_paid
plus_row = record { step = λ x. refl; sum = λ n f. refl }

pub minus_row : Row (λ p. p.minus) revised_taken
unfolding step_pool pool_to minus_rows amounts.minus_of revised_taken
minus_row = record { step = λ x. refl; sum = λ n f. refl }

pub rises_row : Row (λ p. p.rises) (change_on rise)
unfolding step_pool pool_to rises_rows
rises_row = record { step = λ x. refl; sum = λ n f. refl }

pub falls_row : Row (λ p. p.falls) (change_on fall)
unfolding step_pool pool_to falls_rows
falls_row = record { step = λ x. refl; sum = λ n f. refl }

pub differs_row : Row (λ p. p.differs) differs_on
unfolding step_pool pool_to differs_rows
differs_row = record { step = λ x. refl; sum = λ n f. refl }

module _ (of : SidePool → List ℕ) (q : Step → ℕ → ℕ) (row : Row of q) (y : Day) (s : ℕ) (l : s < 5) where
  step_place : (k j : ℕ) → at (of (step_pool_at y k j)) s ≡ step_at q y s k j
  unfolding step_pool_at step_at
  step_place k j = ap (λ (r : List ℕ). at r s) (row.step (y.step k j)) ∙ at_five (q (y.step k j)) 0 s l

  -- the sum of n steps of line k
  pub steps_place : (k n : ℕ) → at (of (pool_to n (step_pool_at y k))) s ≡ sum_to n (step_at q y s k)
  unfolding row_to place_of
  steps_place k n =
      ap (λ (r : List ℕ). at r s) (row.sum n (step_pool_at y k))
      ∙ at_five (row_to n (λ i. of (step_pool_at y k i))) 0 s l
      ∙ sum_same n _ (step_at q y s k) (λ j h. step_place k j)

  part_by : (sd k : ℕ) (t : Bool) → at (of (cond t (line_pool y k) (pool_to 0 (step_pool_at y k)))) s ≡ cond t (line_sum q y s k) 0
  unfolding line_pool line_sum
  part_by sd k true = steps_place k (y.count k)
  part_by sd k false = steps_place k 0 ∙ sum_none (step_at q y s k)

  pub part_place : (sd k : ℕ) → at (of (side_part y sd k)) s ≡ side_at q y sd s k
  unfolding side_part side_at
  part_place sd k = part_by sd k (of_side y sd k)

  -- the sum of the first n lines
  pub lines_place : (sd n : ℕ) → at (of (pool_to n (side_part y sd))) s ≡ sum_to n (side_at q y sd s)
  unfolding row_to place_of
  lines_place sd n =
      ap (λ (r : List ℕ). at r s) (row.sum n (side_part y sd))
      ∙ at_five (row_to n (λ i. of (side_part y sd i))) 0 s l
      ∙ sum_same n _ (side_at q y sd s) (λ k h. part_place sd k)

  pub side_place : (sd : ℕ) → at (of (side_pool y sd)) s ≡ side_sum q y sd s
  unfolding side_pool side_sum
  side_place sd = lines_place sd y.lines

-- T
line_by : (y : Day) (s k : ℕ) (t : Bool)
    → Split (cond t (sum_z (y.count k) (λ j. revised (y.step k j) s)) (pos 0)) (cond t (line_sum revised_paid y s k) 0) (cond t (line_sum revised_taken y s k) 0)
unfolding line_sum step_at revised_paid revised_taken
line_by y s k true = sum_split (y.count k) _ _ _ (λ j h. split_own (revised (y.step k j) s))
line_by y s k false = split_none

total_split : (y : Day) (sd s : ℕ) → Split (pool_total y sd s) (side_sum revised_paid y sd s) (side_sum revised_taken y sd s)
unfolding pool_total side_sum side_at
total_split y sd s = sum_split y.lines _ _ _ (λ k h. line_by y s k (of_side y sd k))

-- B
change_is : (change : List ℕ → ℕ → ℕ) (y : Day) (sd s : ℕ) → side_sum (change_on change) y sd s ≡ pool_change change y sd s
unfolding side_sum side_at line_sum step_at change_on pool_change
change_is change y sd s = refl

-- "some revised on that side in s differs from its initial"
bit_is : (t : Bool) → ltb 0 (bit t) ≡ t
bit_is true = refl
bit_is false = refl

differs_by : (y : Day) (s k : ℕ) (t : Bool) → ltb 0 (cond t (line_sum differs_on y s k) 0) ≡ cond t (some_to (y.count k) (λ j. not (eqb_z (revised (y.step k j) s) (initial (y.step k j) s)))) false
unfolding line_sum step_at differs_on
differs_by y s k true = some_sum (y.count k) _ _ (λ j h. bit_is (not (eqb_z (revised (y.step k j) s) (initial (y.step k j) s))))
differs_by y s k false = refl

differs_is : (y : Day) (sd s : ℕ) → ltb 0 (side_sum differs_on y sd s) ≡ pool_differs y sd s
unfolding side_sum side_at pool_differs
differs_is y sd s = some_sum y.lines _ _ (λ k h. differs_by y s k (of_side y sd k))

pub pool_is : (y : Day) (sd s : ℕ) → s < 5 → pool_at (side_pool y sd) s ≡ pool_of y sd s
unfolding pool_at pool_of pool_base
pool_is y sd s l =
    let t = split_is (total_split y sd s) in
    let p = side_place (λ p. p.plus) revised_paid plus_row y s l sd in
    let m = side_place (λ p. p.minus) revised_taken minus_row y s l sd in
    let u = side_place (λ p. p.rises) (change_on rise) rises_row y s l sd in
    let f = side_place (λ p. p.falls) (change_on fall) falls_row y s l sd in
    let x = side_place (λ p. p.differs) differs_on differs_row y s l sd in
    rw (p, m, u, f, x, ← t, change_is rise y sd s, change_is fall y sd s, differs_is y sd s)
