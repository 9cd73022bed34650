-- `book_reader::entry_word` meets its contract: the word at the entry's place.
use Prim.Native.Nat.{ℕ, ◌+◌, ◌*◌}
use mathlib.Core.Path.{◌∙◌, ap}
use borrow.Author.Rules.{rules}
use Rattle.rules.specs.Layout.{word}
use Rattle.book_reader.proofs.entry_word.Goals as goal

pub returns : goal.returns
returns c =
    c.word_at.ensures
    ∙ ap (λ (i : ℕ). word c.args.book.now (i + 4 * c.args.j)) c.entry_at.ensures
