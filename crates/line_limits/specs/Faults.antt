-- Refusals 11 to 13 as the code works them out, with M and the totals.
use Rattle.std.specs.Prelude.{ℕ, List, not, ◌&&◌, eqb, ltb}
use Rattle.rules.specs.Fold.{refuse, ◌or_else◌, first, at}
use Rattle.rules.specs.Layout.{side, hedge, withdrawal}
use Rattle.rules.specs.Steps.{greatest_break}
use Rattle.rules.specs.Refusals.{total_fault, actual_fault}

-- refusal 11, with M
unfoldable pub hedge_fault : List ℕ → ℕ → ℕ
hedge_fault w m = refuse 11 (ltb m (hedge w)) or_else refuse 11 (withdrawal (side w) && not (eqb (hedge w) 0))

-- refusal 12 in schedule s, with the most that a total may be and the two rows of totals
unfoldable pub totals_fault : ℕ → List ℕ → List ℕ → ℕ → ℕ
totals_fault m p o s = refuse 12 (ltb m (at p s)) or_else refuse 12 (ltb m (at o s))

-- refusals 11 to 13, one after another, with a table of operating quantities
unfoldable pub limits_fault : List (List ℕ) → List ℕ → ℕ
limits_fault t w = hedge_fault w (greatest_break w) or_else first (total_fault t w) 5 or_else first (actual_fault w) 5
