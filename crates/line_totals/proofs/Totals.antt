-- Sums of rows.
use Prim.Native.Nat.{ℕ}
use Rattle.std.proofs.Common.{◌≡◌, arith, List, [], ◌∷◌, length, sum}
use Rattle.rules.specs.Fold.{sum_to}
use Rattle.line_totals.specs.Sums.{row_sum}

pub sum_is : (r : List ℕ) → length r ≡ 5 → sum r ≡ row_sum r
unfolding row_sum sum_to
sum_is [] h = absurd (omega arith)
sum_is (a ∷ []) h = absurd (omega arith)
sum_is (a ∷ b ∷ []) h = absurd (omega arith)
sum_is (a ∷ b ∷ c ∷ []) h = absurd (omega arith)
sum_is (a ∷ b ∷ c ∷ d ∷ []) h = absurd (omega arith)
sum_is (a ∷ b ∷ c ∷ d ∷ e ∷ []) h = omega arith
sum_is (a ∷ b ∷ c ∷ d ∷ e ∷ f ∷ r) h = absurd (omega arith)
