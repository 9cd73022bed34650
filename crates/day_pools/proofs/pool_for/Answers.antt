-- `day_pools::pool_for` meets its contract.
use borrow.Author.Rules.{rules}
use Rattle.day_pools.proofs.Laws.{pool_off, pool_on, market_claw}
use Rattle.day_pools.proofs.pool_for.Goals as goal

pub returns-then-m-eq0 : goal.returns-then-m-eq0
returns-then-m-eq0 c =
    pool_off _ _ _ _ (market_claw c.args.day.now _ c.requires.1) c.if-m-eq0.true

pub returns : goal.returns
returns c = pool_on _ _ _ c.side_pool.ensures
