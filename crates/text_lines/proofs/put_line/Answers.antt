-- `text_lines::put_line` meets its contract: the line without its end, and then the line feed.
use borrow.Author.Rules.{rules}
use Rattle.text.specs.Put.{then, written_as}
use Rattle.text_lines.specs.Lines.{line_is}
use Rattle.text_lines.proofs.put_line.Goals as goal

pub returns : goal.returns
returns c =
    written_as (line_is _ _ _ _ _)
    (then c.put_line_start-end.ensures c.put_byte.ensures)
