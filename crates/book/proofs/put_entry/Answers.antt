-- `book::put_entry` meets its contract: the words, then the payments.
use borrow.Author.Rules.{rules}
use Rattle.rules.specs.Fold.{before}
use Rattle.text.specs.Put.{then}
use Rattle.book.specs.Entries.{entry_of}
use Rattle.book.proofs.put_entry.Goals as goal

pub returns : goal.returns
unfolding entry_of
returns c =
    then c.put_words-p.ensures c.put_five.ensures
