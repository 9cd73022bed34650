-- `text_view::put_step_head` meets its contract: the texts that its calls put, one after another.
use borrow.Author.Rules.{rules}
use Rattle.text.specs.Put.{then}
use Rattle.text_view.specs.ViewText.{step_head}
use Rattle.text_view.proofs.put_step_head.Goals as goal

pub returns : goal.returns
unfolding step_head
returns c =
    let then' = then c.put_bytes-a.ensures c.put_decimal-b.ensures in
    then (then then' c.put_words-c.ensures) c.put_byte.ensures
