-- `book_reader::payments` meets its contract: five numbers from the entry's payments on.
use Prim.Native.Nat.{ℕ, ◌+◌}
use mathlib.Core.Path.{◌∙◌, ap}
use borrow.Author.Rules.{rules}
use Rattle.rules.specs.Fold.{five}
use Rattle.book_layout.specs.Reading.{moneys_at}
use Rattle.book_reader.proofs.payments.Goals as goal

pub returns : goal.returns
returns c =
    c.five_at.ensures ∙ ap (λ (i : ℕ). five (moneys_at c.args.book.now (i + 16) 8)) c.entry_at.ensures
