-- `certificate_calls::line_sums::line_sums` meets its contract: the steps are those of a line of an accepted day.
use mathlib.Core.Path.{◌≡◌}
use borrow.Author.Rules.{rules}
use Rattle.rules.specs.Refusals.{line_part}
use Rattle.certificate_calls.specs.Lines.{part_line, counted}
use Rattle.certificate_calls.proofs.line_sums.line_sums.Goals as goal

pub unwrap-requires : goal.unwrap-requires
unwrap-requires c =
    let line = part_line c.args.day.now c.args.line _ _ c.view-first.ensures c.if-first-ne0.false c.line_part.ensures in
    let long = line.long in search (rules, long)

pub steps-c-requires : goal.steps-c-requires
steps-c-requires c =
    let part : c.unwrap.result.now ≡ line_part c.args.day.now c.args.line = search rules in
    part_line c.args.day.now c.args.line _ _ c.view-first.ensures c.if-first-ne0.false part

pub all_steps-requires : goal.all_steps-requires
all_steps-requires c =
    let part : c.unwrap.result.now ≡ line_part c.args.day.now c.args.line = search rules in
    (counted c.args.day.now c.args.line _ _ _ c.view-first.ensures c.if-first-ne0.false part c.steps-c.ensures, c.view-first.ensures)
