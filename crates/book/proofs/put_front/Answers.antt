-- `book::put_front` meets its contract: the words, then the pairs.
use borrow.Author.Rules.{rules}
use Rattle.rules.specs.Fold.{before}
use Rattle.text.specs.Put.{then}
use Rattle.book.specs.Entries.{front_of}
use Rattle.book.proofs.put_front.Goals as goal

pub returns : goal.returns
unfolding front_of
returns c =
    then c.put_words-p.ensures c.put_pairs.ensures
