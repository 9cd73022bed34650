-- `settling::settle` meets its contract: the day refused, the book too short, or the book put.
use mathlib.Core.Path.{refl, sym}
use native.Mathlib.Omega.{arith}
use Rattle.std.proofs.Common.{rules}
use Rattle.laws.specs.Accepted.{accepted_day}
use Rattle.refusals.specs.Laws.{is_refused}
use Rattle.settling.proofs.Laws.{day_refused, book_short, book_put}
use Rattle.settling.proofs.settle.Goals as goal

pub returns-in_err-check_day-clause-value : goal.returns-in_err-check_day-clause-value
returns-in_err-check_day-clause-value c =
    (day_refused c.args.day.now c.args.book.now _ (search rules) (is_refused _ c.from_residual.ensures.0)).0

pub returns-in_err-check_day-clause-book_after : goal.returns-in_err-check_day-clause-book_after
returns-in_err-check_day-clause-book_after c =
    (day_refused c.args.day.now c.args.book.now _ c.in_err-check_day.ensures (λ e. is_refused _ c.from_residual.ensures.0 (search rules))).1

pub line_count-requires : goal.line_count-requires
line_count-requires c = omega (arith, (accepted_day c.args.day.now (sym c.in_ok-check_day.ensures)).header.length_least)

pub entry_at-requires : goal.entry_at-requires
entry_at-requires c = omega (arith, c.line_count.ensures, (accepted_day c.args.day.now (sym c.in_ok-check_day.ensures)).header.count_most)

pub returns-then-book-entry_at : goal.returns-then-book-entry_at
returns-then-book-entry_at c =
    let short = book_short c.args.day.now _ _ c.in_ok-check_day.ensures refl
    (omega (arith, c.if-book-entry_at.true, c.line_count.ensures, c.entry_at.ensures)) in
    record { value = short.0; book_after = short.1 }

pub put_book-requires : goal.put_book-requires
put_book-requires c = (
  accepted_day c.args.day.now (sym c.in_ok-check_day.ensures),
  omega (arith, c.if-book-entry_at.false, c.line_count.ensures, c.entry_at.ensures),
)

pub returns : goal.returns
returns c =
    let put = book_put c.args.day.now _ _ _ _ c.in_ok-check_day.ensures refl
    (omega (arith, c.if-book-entry_at.false, c.line_count.ensures, c.entry_at.ensures)) refl c.put_book.ensures in
    record { value = put.0; book_after = put.1 }
