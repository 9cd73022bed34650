-- `text_lines::put_ids` meets its contract: the texts that its calls put, one after another.
use borrow.Author.Rules.{rules}
use Rattle.text.specs.Put.{then}
use Rattle.text_lines.specs.Lines.{line_ids}
use Rattle.text_lines.proofs.put_ids.Goals as goal

pub returns : goal.returns
unfolding line_ids
returns c =
    then (then (rw c.from.ensures at c.put_decimal-a.ensures) c.put_byte-b.ensures) (rw c.from-2.ensures at c.put_decimal.ensures)
