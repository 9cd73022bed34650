-- Where a line's steps can be paid something, by its totals.
use Rattle.std.specs.Prelude.{ℕ, ◌≤◌, ◌<◌, max, ◌≡◌, Bool, true, false, cond, leb}
use Rattle.rules.specs.Fold.{most_to, at}
use Rattle.rules.specs.Quantities.{least_from}
use Rattle.cutter_cursors.specs.Sweep.{far}
use Rattle.step_inputs.specs.declared.inputs.LineTotals.{LineTotals}
use Rattle.step_pool.specs.Amounts.{all_zero}
use Rattle.day_pools.specs.declared.window.Window.{Window}

unfoldable pub window_of : LineTotals → Window
window_of t =
    record {
      from = max t.hedge (least_from t.pricing 0 4);
      to = cond (all_zero t.accredited) 0 (most_to 5 (at t.operating));
    }

-- r says whether a pass over the steps goes on: there is a next step, to whose end the gap is g, and it begins, at e, below `to`
pub record Going (g e to : ℕ) (r : Bool) : Type 0 where
  pub on : r ≡ true → (g < far) × (e < to)
  pub off : r ≡ false → g < far → to ≤ e

-- no operating total is above a pricing total
unfoldable pub is_covered : LineTotals → Bool
is_covered t = leb (most_to 5 (at t.operating)) (least_from t.pricing 0 4)
