-- `text_report::put_book` meets its contract: the texts of its three calls, one after another.
use borrow.Author.Rules.{rules}
use Prim.Native.Nat.{◌+◌, ◌*◌}
use Rattle.text.specs.Put.{then, written_as, written_wider}
use Rattle.text_report.specs.BookText.{report_most, book_is_lem}
use Rattle.text_report.proofs.put_book.Goals as goal

pub returns : goal.returns
returns c =
    let n = c.args.n in
    written_wider (25 + 177 * n + 235) report_most
    (written_as (book_is_lem c.args.book.now c.requires.1 c.totals.ensures c.adjusted_totals.ensures)
    (then (then c.put_heading-a.ensures c.put_entries-b.ensures) c.put_totals.ensures))
    (search rules)
