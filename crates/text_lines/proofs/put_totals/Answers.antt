-- `text_lines::put_totals` meets its contract: the texts that its calls put, one after another.
use borrow.Author.Rules.{rules}
use Rattle.text.specs.Put.{then}
use Rattle.text_lines.specs.Lines.{totals_text}
use Rattle.text_lines.proofs.put_totals.Goals as goal

pub returns : goal.returns
unfolding totals_text
returns c =
    then (then (then c.put_bytes-a.ensures c.put_five-b.ensures) c.put_bytes-c.ensures) c.put_five.ensures
