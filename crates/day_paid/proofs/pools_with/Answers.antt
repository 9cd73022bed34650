-- `day_paid::pools_with` meets its contract: by the side.
use borrow.Author.Tests.{eq-eqb, ne_eqb}
use Rattle.day_paid.specs.Lines.{pools_with}
use Rattle.day_paid.proofs.pools_with.Goals as goal

pub pool_add-requires : goal.pool_add-requires
pool_add-requires c = c.requires.injection c.if-side-eq0.true

pub returns-then-side-eq0 : goal.returns-then-side-eq0
unfolding pools_with
returns-then-side-eq0 c =
    rw (eq-eqb c.args.side 0 c.if-side-eq0.true, c.pool_add.ensures)

pub returns-else-side-eq0 : goal.returns-else-side-eq0
unfolding pools_with
returns-else-side-eq0 c =
    rw (ne_eqb c.args.side 0 c.if-side-eq0.false, c.pool_add-else-side-eq0.ensures)
