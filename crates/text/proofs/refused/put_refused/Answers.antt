-- `text::refused::put_refused` meets its contract, by its call.
use Rattle.rules.specs.Report.{refused_line}
use Rattle.text.proofs.refused.put_refused.Goals as goal

pub returns : goal.returns
unfolding refused_line
returns c = c.put_numbered.ensures
