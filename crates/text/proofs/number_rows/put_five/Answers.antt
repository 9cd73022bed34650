-- `text::number_rows::put_five` meets its contract: the texts that its calls put, one after another.
use Rattle.text.specs.Put.{then, written_as}
use Rattle.text.specs.Rows.{five_is}
use Rattle.text.proofs.number_rows.put_five.Goals as goal

pub returns : goal.returns
returns c =
    written_as (five_is _) (then c.put_numbers-p.ensures c.put_byte.ensures)
