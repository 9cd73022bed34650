-- `text_view::put_excess` meets its contract: the texts that its calls put, one after another.
use borrow.Author.Rules.{rules}
use Rattle.text.specs.Put.{then}
use Rattle.text_view.specs.ViewText.{excess_row}
use Rattle.text_view.proofs.put_excess.Goals as goal

pub returns : goal.returns
unfolding excess_row
returns c =
    let a = then c.put_bytes-a.ensures c.put_five-b.ensures in
    let b = then (then a c.put_bytes-c.ensures) c.put_five-d.ensures in
    let d = then (then b c.put_bytes-e.ensures) c.put_words-f.ensures in
    then d c.put_byte.ensures
