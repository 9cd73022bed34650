-- Rows of five as the code has them: revised rates, quantities of paid steps, products.
use Rattle.std.specs.Prelude.{ℕ, ◌*◌, cond, List, eqb}
use Rattle.rules.specs.Fold.{at}
use Rattle.rules.specs.Payments.{beyond_by, milder}

-- the rate at which a match with the rise of r is revised, from the step's prices and the price and market price of its fall
unfoldable pub revised_at : ℕ → List ℕ → ℕ → ℕ → ℕ → ℕ
revised_at sd p own m r = beyond_by sd (milder sd (at p r) own) m

-- a quantity where the step is paid, else 0
unfoldable pub only_paid : List ℕ → List ℕ → ℕ → ℕ
only_paid paid q s = cond (eqb (at paid s) 1) (at q s) 0

unfoldable pub product_in : List ℕ → List ℕ → ℕ → ℕ
product_in a b s = at a s * at b s
