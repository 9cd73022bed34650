-- `day_book::put_book` meets its contract: what the lines are paid, the lines, then the words and pairs before them.
use native.Mathlib.Omega.{arith}
use borrow.Author.Rules.{rules}
use Rattle.rules.specs.Days.{settled_day}
use Rattle.day_paid.specs.Paid.{paid_day}
use Rattle.day_book.proofs.Laws.{book_whole}
use Rattle.day_book.proofs.put_book.Goals as goal

pub put_lines-requires : goal.put_lines-requires
put_lines-requires c =
    let paid-day' = paid_day (settled_day c.args.day.now) _ _ _ _ c.requires.0.header.count_most
    c.day_paid-totals.ensures.paid_after c.day_paid-totals.ensures.counts_after (search rules) (search rules) in
    (c.requires.0, paid-day', c.requires.1)

pub count_word-requires : goal.count_word-requires
count_word-requires c =
    omega (arith, c.requires.0.header.length_least)

pub put_front-requires : goal.put_front-requires
put_front-requires c =
    (omega (arith, c.requires.0.header.count_most, c.count_word.ensures), omega (arith, c.requires.1))

pub returns : goal.returns
returns c =
    let book-whole' = book_whole (settled_day c.args.day.now) _ _ _ _ _ _ _ c.requires.1
    c.count_word.ensures c.day_paid-totals.ensures.t_value.0
    c.day_paid-totals.ensures.t_value.1 c.put_lines.ensures
    c.put_front.ensures in book-whole'
