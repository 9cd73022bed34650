-- `text_view::put_payments` meets its contract: the texts that its calls put, one after another.
use borrow.Author.Rules.{rules}
use Rattle.text.specs.Put.{then}
use Rattle.text_view.specs.ViewText.{payments_text}
use Rattle.text_view.proofs.put_payments.Goals as goal

pub returns : goal.returns
unfolding payments_text
returns c =
    let then' = then c.put_number_in-a.ensures c.put_number_in-b.ensures in
    then (then then' c.put_number_in-c.ensures) c.put_number_in.ensures
