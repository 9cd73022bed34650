-- `text_view::put_five` meets its contract.
use borrow.Author.Rules.{rules}
use Rattle.text.specs.Put.{written_wider}
use Rattle.text_view.proofs.put_five.Goals as goal

pub returns : goal.returns
returns c = written_wider _ 105 c.put_words.ensures (search rules)
