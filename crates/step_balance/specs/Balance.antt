-- The three statements of demand 3 on one step's matches, written out: c is C by schedule, m the ten matches m(1,2) m(1,3) m(2,3) m(1,4) ..
-- m(4,5).
use Rattle.std.specs.Prelude.{ℕ, ◌+◌, ◌-◌, ◌≤◌, ◌≡◌, List}
use Rattle.rules.specs.Fold.{at}

-- "for every s, the sum of m(r, s) over all r below s is D(s)"
pub record FallsMatched (c m : List ℕ) : Type 0 where
  pub second : at m 0 ≡ at c 0 - at c 1
  pub third : at m 1 + at m 2 ≡ at c 1 - at c 2
  pub fourth : at m 3 + at m 4 + at m 5 ≡ at c 2 - at c 3
  pub fifth : at m 6 + at m 7 + at m 8 + at m 9 ≡ at c 3 - at c 4

-- "for every r, the sum of m(r, s) over all s above r is at most U(r)"
pub record RisesBound (c m : List ℕ) : Type 0 where
  pub first : at m 0 + at m 1 + at m 3 + at m 6 ≤ at c 0
  pub second : at m 2 + at m 4 + at m 7 ≤ at c 1 - at c 0
  pub third : at m 5 + at m 8 ≤ at c 2 - at c 1
  pub fourth : at m 9 ≤ at c 3 - at c 2

-- "for every s, the sum of U(1) to U(s), less all matches made in schedules up to s, is C(s)", said as a sum
pub record Balanced (c m : List ℕ) : Type 0 where
  pub second : at c 0 + (at c 1 - at c 0) ≡ at c 1 + at m 0
  pub third : at c 0 + (at c 1 - at c 0) + (at c 2 - at c 1) ≡ at c 2 + (at m 0 + at m 1 + at m 2)
  pub fourth : at c 0 + (at c 1 - at c 0) + (at c 2 - at c 1) + (at c 3 - at c 2) ≡ at c 3 + (at m 0 + at m 1 + at m 2 + at m 3 + at m 4 + at m 5)
  pub fifth : at c 0 + (at c 1 - at c 0) + (at c 2 - at c 1) + (at c 3 - at c 2) + (at c 4 - at c 3) ≡ at c 4 + (at m 0 + at m 1 + at m 2 + at m 3 + at m 4 + at m 5 + at m 6 + at m 7 + at m 8 + at m 9)
