-- `text_day::day_report` meets its contract: the report of the book is the day's.
use native.Mathlib.Omega.{arith}
use borrow.Author.Rules.{rules}
use Rattle.std.proofs.Common.{◌∙◌}
use Rattle.text.specs.Put.{written_as}
use Rattle.text_day.specs.Range.{day_report_is}
use Rattle.text_day.proofs.day_report.Goals as goal

pub returns : goal.returns
returns c =
    let day-report-is' = day_report_is c.args.day.now _ _ _ _
    (λ i. search rules) (omega arith)
    (c.number_of.ensures ∙ c.settle-settled.ensures.value) c.settle-settled.ensures.book_after in
    written_as day-report-is' c.report.ensures
