-- `step_pool::skipped_steps::most` meets its contract.
use Rattle.step_pool.proofs.pool_amounts.Kept.{most_is}
use Rattle.step_pool.proofs.skipped_steps.most.Goals as goal

pub returns : goal.returns
returns c =
    most_is c.args.q _ _ _ _ c.max.ensures c.max-2.ensures
    c.max-3.ensures c.max-4.ensures
