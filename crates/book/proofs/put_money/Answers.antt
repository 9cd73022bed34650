-- `book::put_money` meets its contract: the bytes of an amount.
use borrow.Author.Rules.{rules}
use Rattle.rules.specs.Book.{signed_bytes}
use Rattle.rules.specs.Fold.{before}
use Rattle.book.proofs.Laws.{written_le}
use Rattle.text.proofs.digits.Signs.{own}
use Rattle.book.proofs.put_money.Goals as goal

pub returns : goal.returns
returns c =
    own signed_bytes _ c.ranges.v (written_le 8 _ _ c.put_signed.ensures)
