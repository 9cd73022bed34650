-- `day_paid::pool_of` meets its contract: by the side.
use Rattle.day_paid.proofs.Laws.{pool_first, pool_second}
use Rattle.day_paid.proofs.pool_of.Goals as goal

pub returns-then-side-eq0 : goal.returns-then-side-eq0
returns-then-side-eq0 c = pool_first _ _ _ c.if-side-eq0.true

pub returns-else-side-eq0 : goal.returns-else-side-eq0
returns-else-side-eq0 c = pool_second _ _ _ c.if-side-eq0.false
