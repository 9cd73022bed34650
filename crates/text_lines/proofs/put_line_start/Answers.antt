-- `text_lines::put_line_start` meets its contract: the texts that its calls put, one after another.
use borrow.Author.Rules.{rules}
use Rattle.text.specs.Put.{then}
use Rattle.text_lines.specs.Lines.{line_start}
use Rattle.text_lines.proofs.put_line_start.Goals as goal

pub returns : goal.returns
unfolding line_start
returns c =
    then (then c.put_ids-a.ensures c.put_side_steps-b.ensures) c.put_numbers.ensures
