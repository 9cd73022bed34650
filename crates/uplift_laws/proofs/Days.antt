-- The laws of the shares (`Fair`) of a day.
use Rattle.std.specs.Prelude.{◌≡◌}
use Rattle.std.proofs.Common.{◌∙◌}
use Rattle.rules.specs.Fold.{sum_z, at_z}
use Rattle.rules.specs.Payments.{Day}
use Rattle.rules.specs.Totals.{totals, adjusted_total}
use Rattle.rules.specs.Uplift.{uplift}
use Rattle.laws.specs.Ints.{mi}
use Rattle.day_totals.specs.Money.{first_total, line_payments, adjusted_payments}
use Rattle.uplift_laws.specs.Fair.{Fair}
use Rattle.uplift_laws.proofs.Fair.{fair}

-- of a day: its shares add up to all payments
first_at : (y : Day) → mi (at_z (totals y) 0) ≡ 0
unfolding totals
first_at y = first_total y

pub uplift_fair : (y : Day) → Fair (totals y) (uplift y)
unfolding uplift
uplift_fair y = fair (totals y) (first_at y)

pub uplift_payments : (y : Day) → sum_z 5 (uplift y) ≡ sum_z y.lines (line_payments y)
unfolding adjusted_total
uplift_payments y = (uplift_fair y).all ∙ adjusted_payments y
