-- `day_pools::window::covered` meets its contract.
use borrow.Author.Rules.{rules}
use Rattle.day_pools.specs.Window.{is_covered}
use Rattle.day_pools.proofs.window.covered.Goals as goal

pub returns : goal.returns
unfolding is_covered
returns c = rw (c.most.ensures, c.least.ensures)
