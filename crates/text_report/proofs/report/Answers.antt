-- `text_report::report` meets its contract: by its cases.
use borrow.Author.Rules.{rules}
use Rattle.text.specs.Put.{written_as, written_wider, written_nothing}
use Rattle.text_report.specs.BookText.{report_most, report_short, report_refused, report_many, report_none, report_book}
use Rattle.text_report.proofs.report.Goals as goal

pub returns-then-out-lt-REPORT_MOST : goal.returns-then-out-lt-REPORT_MOST
returns-then-out-lt-REPORT_MOST c = written_nothing _ _ (report_short _ _ _ c.if-out-lt-REPORT_MOST.true)

pub returns-then-number-ne0 : goal.returns-then-number-ne0
returns-then-number-ne0 c =
    written_wider 29 _
    (written_as (report_refused _ _ _ c.if-out-lt-REPORT_MOST.false c.if-number-ne0.true)
    c.put_refused.ensures) (search rules)

pub returns-then-book-entry_at : goal.returns-then-book-entry_at
returns-then-book-entry_at c = written_nothing _ _ (report_none _ _ _ c.if-out-lt-REPORT_MOST.false c.if-number-ne0.false (search rules))

pub returns-then-n-gt64 : goal.returns-then-n-gt64
returns-then-n-gt64 c =
    written_nothing _ _ (report_many _ _ _ c.if-out-lt-REPORT_MOST.false c.if-number-ne0.false (search rules))

pub returns-then-book-entry_at-2 : goal.returns-then-book-entry_at-2
returns-then-book-entry_at-2 c =
    written_nothing _ _ (report_none _ _ _ c.if-out-lt-REPORT_MOST.false c.if-number-ne0.false (search rules))

pub returns : goal.returns
returns c =
    let written-as' = written_as
    (report_book _ _ _ c.if-out-lt-REPORT_MOST.false c.if-number-ne0.false (search rules) (search rules))
    c.put_book.ensures in
    written_wider report_most _ written-as' c.if-out-lt-REPORT_MOST.false
