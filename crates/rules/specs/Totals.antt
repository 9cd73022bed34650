-- Document 01, "Totals and book" (FD 9.2, 9.3): payments of a line, totals t and adjusted totals a.
use Rattle.std.specs.Prelude.{ℕ, zero, suc, ◌-◌, List, cond, ◌||◌, eqb, ℤ, pos, ◌+ℤ◌, ◌-ℤ◌}
use Rattle.std.specs.Int.Signed.{le_z, non_neg}
use Rattle.rules.specs.Fold.{sum_z, five, at_z}
use Rattle.rules.specs.Payments.{Day, step_final, max_z}

-- "five signed 64-bit payments, each the sum of its steps' finals in that schedule": of line k in s
unfoldable pub line_payment : Day → ℕ → ℕ → ℤ
line_payment y s k = sum_z (y.count k) (step_final y s k)

-- "Total t(s) sums all finals"
unfoldable pub total : Day → ℕ → ℤ
total y s = sum_z y.lines (line_payment y s)

abbrev pub min_z : ℤ → ℤ → ℤ
min_z a b = cond (le_z a b) a b

-- "the least of t(s), t(s)+t(s+1), .. up to 5": m schedules follow s
unfoldable pub least_sum : List ℤ → ℕ → ℕ → ℤ
least_sum t s zero = at_z t s
least_sum t s (suc m) = min_z (at_z t s) (at_z t s +ℤ least_sum t (suc s) m)

-- "Adjusted a(s): if s = 1 or t(s) >= 0, max(0, the least of ..); else min(0, t(s) + the sum of t - a over earlier
-- schedules)", from the five totals and that sum e
unfoldable pub adjusted_after : List ℤ → ℤ → ℕ → ℤ
adjusted_after t e s =
    cond (eqb s 0 || non_neg (at_z t s))
    (max_z (pos 0) (least_sum t s (4 - s)))
    (min_z (pos 0) (at_z t s +ℤ e))

-- "the sum of t - a over earlier schedules"
unfoldable pub carried : List ℤ → ℕ → ℤ
carried t zero = pos 0
carried t (suc s) = carried t s +ℤ (at_z t s -ℤ adjusted_after t (carried t s) s)

unfoldable pub adjusted : List ℤ → ℕ → ℤ
adjusted t s = adjusted_after t (carried t s) s

-- a(s) of a day
unfoldable pub totals : Day → List ℤ
totals y = five (total y)

unfoldable pub adjusted_total : Day → ℕ → ℤ
adjusted_total y s = adjusted (totals y) s
