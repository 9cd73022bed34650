-- A step's price under the cap, and whether it is paid.
use Rattle.std.specs.Prelude.{ℕ, min, List, cond, replicate, eqb, leb}
use Rattle.rules.specs.Fold.{at}
use Rattle.rules.specs.Steps.{holds_in}
use Rattle.rules.specs.Payments.{bit}

-- a price with a cap mark and the cap
unfoldable pub capped_at : ℕ → ℕ → ℕ → ℕ
capped_at mark cap p = cond (eqb mark 1) (min p cap) p

unfoldable pub capped_in : List ℕ → ℕ → List ℕ → ℕ → ℕ
capped_in mark cap p s = capped_at (at mark s) cap (at p s)

-- 1 where an accreditation holds in schedule s
unfoldable pub accredited_in : ℕ → ℕ → ℕ
accredited_in accreditation s = bit (holds_in accreditation s)

-- 1 in each schedule in which a step that ends at u is paid
unfoldable pub paid_row : List ℕ → ℕ → ℕ → List ℕ
paid_row accredited hedge u = cond (leb u hedge) (replicate 5 0) accredited
