-- `text_report::put_entry` meets its contract: what is read is the entry, and the line is put.
use borrow.Author.Rules.{rules}
use Rattle.text.specs.Put.{written_as}
use Rattle.text_report.specs.BookText.{entry_is}
use Rattle.text_report.proofs.put_entry.Goals as goal

pub returns : goal.returns
returns c =
    let entry-is' = entry_is c.args.book.now c.args.k
    c.participant.ensures c.point.ensures c.side.ensures
    c.step_count.ensures c.payments.ensures in
    written_as entry-is' c.put_line.ensures
