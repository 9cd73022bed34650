-- `text::number_rows::put_spaced_signed` meets its contract: the texts that its calls put, one after another.
use Rattle.rules.specs.Report.{signed_decimal}
use Rattle.text.specs.Put.{then}
use Rattle.text.proofs.digits.Signs.{own}
use Rattle.text.proofs.number_rows.put_spaced_signed.Goals as goal

pub returns : goal.returns
returns c =
    then c.put_byte-p.ensures (own signed_decimal _ c.ranges.v c.put_signed.ensures)
