-- `book_reader::participant` meets its contract: the entry's first word.
use Prim.Native.Nat.{◌+◌, ◌*◌}
use native.Mathlib.Omega.{arith}
use mathlib.Core.Path.{◌≡◌, ◌∙◌, ap}
use borrow.Author.Rules.{rules}
use Rattle.rules.specs.Layout.{word}
use Rattle.book_layout.specs.Framing.{entry_at}
use Rattle.book_reader.proofs.participant.Goals as goal

pub returns : goal.returns
returns c =
    let k = c.args.k in
    let place : entry_at k + 4 * 0 ≡ entry_at k = omega arith in
    c.entry_word.ensures ∙ ap (word c.args.book.now) place
