-- `text_lines::put_heading` meets its contract, by its call.
use borrow.Author.Rules.{rules}
use Rattle.text_lines.specs.Lines.{heading}
use Rattle.text_lines.proofs.put_heading.Goals as goal

pub returns : goal.returns
unfolding heading
returns c = c.put_numbered.ensures
