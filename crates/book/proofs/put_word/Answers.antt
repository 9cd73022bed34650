-- `book::put_word` meets its contract: the bytes of a word.
use borrow.Author.Rules.{rules}
use Rattle.rules.specs.Fold.{before}
use Rattle.book.proofs.Laws.{written_le}
use Rattle.book.proofs.put_word.Goals as goal

pub returns : goal.returns
returns c = written_le 4 _ _ c.put_word.ensures
