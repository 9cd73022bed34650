-- `text_view::put_matches` meets its contract: the texts that its calls put, one after another.
use borrow.Author.Rules.{rules}
use Rattle.text.specs.Put.{then, written_wider}
use Rattle.text_view.specs.ViewText.{matches_row}
use Rattle.text_view.proofs.put_matches.Goals as goal

pub returns : goal.returns
unfolding matches_row
returns c =
    written_wider _ 218
    (then (then c.put_bytes-a.ensures c.put_words-b.ensures)
    c.put_byte.ensures) (search rules)
