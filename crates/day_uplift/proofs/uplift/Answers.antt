-- `day_uplift::uplift` meets its contract: the day refused, or the shares of its totals.
use mathlib.Core.Path.{◌≡◌, sym, ◌∙◌, ap}
use Rattle.std.proofs.Common.{rules, Err}
use Rattle.laws.specs.Accepted.{accepted_day}
use Rattle.refusals.specs.Laws.{refused}
use Rattle.day_uplift.specs.Answers.{answer_of}
use Rattle.day_uplift.proofs.Laws.{day_adjusts, day_refused, day_shared}
use Rattle.day_uplift.proofs.uplift.Goals as goal

pub returns-in_err-check_day : goal.returns-in_err-check_day
returns-in_err-check_day c =
    let same : c.from_residual.result ≡ Err c.in_err-check_day.field-0.0 = search rules in
    ap answer_of same ∙ day_refused c.args.day.now _ c.in_err-check_day.ensures (refused _)

pub settled_totals-totals-requires : goal.settled_totals-totals-requires
settled_totals-totals-requires c = accepted_day c.args.day.now (sym c.in_ok-check_day.ensures)

pub shares_of-requires : goal.shares_of-requires
shares_of-requires c =
    day_adjusts c.args.day.now (accepted_day c.args.day.now (sym c.in_ok-check_day.ensures)) _ _ c.settled_totals-totals.ensures.0
    c.settled_totals-totals.ensures.1

pub returns : goal.returns
returns c =
    day_shared c.args.day.now (sym c.in_ok-check_day.ensures) _ _ c.settled_totals-totals.ensures.0 c.shares_of.ensures
