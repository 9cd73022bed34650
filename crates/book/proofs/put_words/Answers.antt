-- `book::put_words` meets its contract: one word after another.
use borrow.Author.Rules.{rules}
use Rattle.rules.specs.Fold.{before}
use Rattle.text.specs.Put.{then}
use Rattle.book.proofs.put_words.Goals as goal

pub returns : goal.returns
returns c =
    let then' = then c.put_word-e.ensures c.put_word-f.ensures in
    then (then then' c.put_word-g.ensures) c.put_word.ensures
