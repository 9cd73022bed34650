-- Sums of rows of five.
use Rattle.std.specs.Prelude.{ℕ, ◌<◌, min, ◌≡◌, refl, List, []}
use Rattle.std.proofs.Common.{ap}
use Rattle.rules.specs.Fold.{sum_to, at, five}
use Rattle.rules.specs.Layout.{operating_entry, operating_table, actual_entry}
use Rattle.rules.specs.Quantities.{table_total, table_actual}
use Rattle.laws.specs.Folds.{at_five}

-- the sum of a row of five
unfoldable pub row_sum : List ℕ → ℕ
row_sum r = sum_to 5 (at r)

-- the sum of the lesser of two rows, place by place
unfoldable pub lesser_at : List ℕ → List ℕ → ℕ → ℕ
lesser_at a b i = min (at a i) (at b i)

unfoldable pub lesser_sum : List ℕ → List ℕ → ℕ
lesser_sum a b = sum_to 5 (lesser_at a b)

-- with a line's own table, the totals are sums of its words
pub operating_is : (w : List ℕ) (s : ℕ) → s < 5 → table_total (operating_table w) s ≡ sum_to 5 (operating_entry w s)
unfolding table_total sum_to
operating_is w s h = ap (λ (r : List ℕ). sum_to 5 (at r)) (at_five (λ (k : ℕ). five (operating_entry w k)) [] s h)

pub actual_is : (w : List ℕ) → table_actual (operating_table w) w ≡ sum_to 5 (λ (i : ℕ). min (operating_entry w 4 i) (actual_entry w i))
unfolding table_actual sum_to
actual_is w = refl
