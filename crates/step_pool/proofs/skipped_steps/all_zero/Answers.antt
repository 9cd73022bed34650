-- `step_pool::skipped_steps::all_zero` meets its contract: the greatest of the five is 0.
use Rattle.step_pool.proofs.pool_amounts.Kept.{none_is}
use Rattle.step_pool.proofs.skipped_steps.all_zero.Goals as goal

pub returns : goal.returns
returns c =
    none_is c.args.v _ _ _ _ c.max.ensures c.max-2.ensures
    c.max-3.ensures c.max-4.ensures
