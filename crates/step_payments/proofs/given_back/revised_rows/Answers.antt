-- `step_payments::given_back::revised_rows` meets its contract: schedule by schedule.
use Rattle.std.proofs.Common.{rules}
use Rattle.step_payments.proofs.amounts.Joining.{row_five}
use Rattle.step_payments.specs.Amounts.{revised_given, revised_in}
use Rattle.step_payments.proofs.given_back.revised_rows.Goals as goal

pub returns : goal.returns
unfolding revised_in revised_given
returns c =
    let g = c.args in
    row_five (revised_in g.side g.price g.market g.t g.initial) c.from_fn.result (search rules) (search rules) (search rules) (search rules)
    (search rules) (search rules)
