-- A schedule's row.
use Prim.Native.Nat.{ℕ, ◌+◌}
use mathlib.Core.Path.{◌≡◌, ap}
use mathlib.Core.List.{List, ◌++◌}
use lib.ListN.{length}
use Rattle.rules.specs.Report.{decimal, line_feed}
use Rattle.rules.specs.declared.View.{View}
use Rattle.text.specs.Rows.{words}
use Rattle.text_view.specs.ViewText.{quantities_in, payments_text, schedule_row}

-- the row of schedule s from its seven quantities
pub seven : (v : View) (s : ℕ) {q : List ℕ} → q ≡ quantities_in v s → length q ≡ 7
unfolding quantities_in
seven v s e = ap length e

pub row_is : (v : View) (s : ℕ) {q : List ℕ} → q ≡ quantities_in v s
    → decimal (s + 1) ++ words q ++ payments_text v s ++ line_feed ≡ schedule_row v s
unfolding schedule_row
row_is v s e = rw e
