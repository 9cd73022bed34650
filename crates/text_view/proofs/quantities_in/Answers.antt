-- `text_view::quantities_in` meets its contract.
use borrow.Author.Rules.{rules}
use Rattle.text_view.specs.ViewText.{quantities_in}
use Rattle.text_view.proofs.quantities_in.Goals as goal

pub returns : goal.returns
unfolding quantities_in
returns c = search rules
