-- `text_view::put_view` meets its contract: the texts that its calls put, one after another.
use borrow.Author.Rules.{rules}
use Rattle.text.specs.Put.{then}
use Rattle.text_view.specs.ViewText.{view_text}
use Rattle.text_view.proofs.put_view.Goals as goal

pub returns : goal.returns
unfolding view_text
returns c =
    then (then c.put_step_head-a.ensures c.put_rows-b.ensures)
    c.put_matches.ensures
