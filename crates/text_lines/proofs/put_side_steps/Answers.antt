-- `text_lines::put_side_steps` meets its contract: the texts that its calls put, one after another.
use borrow.Author.Rules.{rules}
use Rattle.text.specs.Put.{then}
use Rattle.text_lines.specs.Lines.{side_steps}
use Rattle.text_lines.proofs.put_side_steps.Goals as goal

pub returns : goal.returns
unfolding side_steps
returns c =
    then (then (then c.put_byte-a.ensures c.put_side-b.ensures) c.put_byte-c.ensures) (rw c.from.ensures at c.put_decimal.ensures)
