-- `text_uplift::put_shares` meets its contract: the texts that its calls put, one after another.
use Rattle.text.specs.Put.{then}
use Rattle.text_uplift.specs.Lines.{shares_line}
use Rattle.text_uplift.proofs.put_shares.Goals as goal

pub returns : goal.returns
unfolding shares_line
returns c =
    then c.put_bytes-p.ensures c.put_five.ensures
