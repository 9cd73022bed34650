-- `view::lower_end` meets its contract.
use borrow.Author.Rules.{rules}
use Rattle.view.specs.Figures.{lower_there}
use Rattle.view.proofs.lower_end.Goals as goal

pub returns-else-j-eq0 : goal.returns-else-j-eq0
returns-else-j-eq0 c = lower_there c.args.ends.now _ c.if-j-eq0.false
