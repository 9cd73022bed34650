-- `day_book::put_line` meets its contract: the words of the line, its steps and its payments.
use mathlib.Core.Path.{◌≡◌, ◌∙◌, ap}
use lib.ListN.{length}
use native.Mathlib.Omega.{arith}
use borrow.Author.Rules.{rules}
use Rattle.rules.specs.Layout.{participant, point, side}
use Rattle.rules.specs.Days.{settled_day}
use Rattle.step_inputs.specs.Paid.{settled_sized}
use Rattle.day_book.proofs.Laws.{payments_read, line_put}
use Rattle.step_inputs.proofs.Lines.{line_lies}
use Rattle.day_book.proofs.put_line.Goals as goal

pub line_of-line-requires : goal.line_of-line-requires
line_of-line-requires c =
    line_lies c.args.day.now c.requires.0 c.args.k c.requires.2

pub returns : goal.returns
returns c =
    let day = c.args.day.now in
    let k = c.args.k in
    let there = c.line_of-line.ensures in
    line_put (settled_day day) k _ _ _ _ _ _ _ _ _
    (c.participant.ensures ∙ ap participant there)
    (c.point.ensures ∙ ap point there)
    (c.side.ensures ∙ ap side there)
    (c.requires.1.count k c.requires.2)
    (payments_read (settled_day day) (settled_sized day c.requires.0) _ _ c.requires.1 k c.requires.2)
    c.put_entry.ensures
