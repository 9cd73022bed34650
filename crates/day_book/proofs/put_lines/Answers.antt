-- `day_book::put_lines` meets its contract: after k turns the first k lines are put.
use Prim.Native.Nat.{◌*◌, ◌-◌, ◌≤◌}
use mathlib.Core.Path.{◌≡◌}
use lib.ListN.{length}
use native.Mathlib.Omega.{arith}
use borrow.Author.Rules.{rules}
use Rattle.rules.specs.Book.{line_entry}
use Rattle.rules.specs.Days.{settled_day}
use Rattle.rules.specs.Fold.{joined}
use Rattle.book_layout.specs.Framing.{entry_at}
use Rattle.text.specs.Put.{Written, row_none}
use Rattle.day_book.proofs.Laws.{book_next, lines_whole}
use Rattle.day_book.proofs.put_lines.Goals as goal

pub line_count-k-end-requires : goal.line_count-k-end-requires
line_count-k-end-requires c = omega (arith, c.requires.0.header.length_least)

pub loop-k-init : goal.loop-k-init
loop-k-init c = (search rules, row_none (line_entry (settled_day c.args.day.now)) _ 56 96)

pub entry_at-requires : goal.entry_at-requires
entry_at-requires c =
    omega (arith, c.line_count-k-end.ensures, c.requires.0.header.count_most)

pub put_line-requires : goal.put_line-requires
put_line-requires c = (
  c.requires.0,
  c.requires.1,
  omega (arith, c.line_count-k-end.ensures),
  omega (arith, c.line_count-k-end.ensures, c.entry_at.ensures, c.loop-k.invariant.0, c.requires.2),
)

pub loop-k-preserved : goal.loop-k-preserved
loop-k-preserved c =
    let book-next' = book_next (settled_day c.args.day.now) c.loop-k.k _ _ _ _ c.loop-k.invariant.1
    c.entry_at.ensures c.put_line.ensures in
    (search rules, book-next')

pub returns : goal.returns
returns c =
    lines_whole (settled_day c.args.day.now) c.loop-k.k _ _ _ _ c.line_count-k-end.ensures
    c.loop-k.auto.k-end c.loop-k-test.false c.loop-k.invariant.1
