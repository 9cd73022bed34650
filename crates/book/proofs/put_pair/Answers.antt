-- `book::put_pair` meets its contract.
use borrow.Author.Rules.{rules}
use Rattle.rules.specs.Book.{signed_bytes}
use Rattle.rules.specs.Fold.{before}
use Rattle.text.specs.Put.{then}
use Rattle.text.proofs.digits.Signs.{own}
use Rattle.book.proofs.put_pair.Goals as goal

pub returns : goal.returns
returns c =
    let own' = own signed_bytes _ c.ranges.t c.put_money-p.ensures in
    then own' (own signed_bytes _ c.ranges.a c.put_money.ensures)
