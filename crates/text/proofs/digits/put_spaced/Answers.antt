-- `text::digits::put_spaced` meets its contract: the texts that its calls put, one after another.
use Rattle.text.specs.Put.{then}
use Rattle.text.proofs.digits.put_spaced.Goals as goal

pub returns : goal.returns
returns c =
    then c.put_byte-p.ensures c.put_decimal.ensures
