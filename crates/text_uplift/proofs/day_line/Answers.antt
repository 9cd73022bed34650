-- `text_uplift::day_line` meets its contract: the day's shares, or the day refused.
use Rattle.std.proofs.Common.{rules, refl, ap, ◌∙◌}
use Rattle.rules.specs.Report.{refused_line}
use Rattle.refusals.specs.Laws.{refused}
use Rattle.text.specs.Put.{written_as, written_wider}
use Rattle.text_uplift.specs.Lines.{line_most, put_refused, put_shared}
use Rattle.text_uplift.proofs.day_line.Goals as goal

pub returns-in-Ok : goal.returns-in-Ok
returns-in-Ok c =
    let text = put_shared c.args.day.now _ c.if-out-lt-LINE_MOST.false _ c.in-Ok.ensures refl in
    written_wider line_most _ (written_as text c.put_shares.ensures) c.if-out-lt-LINE_MOST.false

pub returns-in-Err : goal.returns-in-Err
returns-in-Err c =
    let text = put_refused c.args.day.now _ c.if-out-lt-LINE_MOST.false _ c.in-Err.ensures (refused c.in-Err.refusal) in
    written_wider 29 _ (written_as (ap refused_line c.from.ensures ∙ text) c.put_refused.ensures) (search rules)
