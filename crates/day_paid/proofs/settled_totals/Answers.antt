-- `day_paid::settled_totals` meets its contract, by `day_paid` into places of its own.
use borrow.Author.Rules.{rules}
use Rattle.day_paid.proofs.settled_totals.Goals as goal

pub returns : goal.returns
returns c = c.day_paid.ensures.t_value
