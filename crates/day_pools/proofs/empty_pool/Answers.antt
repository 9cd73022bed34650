-- `day_pools::empty_pool` meets its contract.
use mathlib.Core.Path.{refl}
use Rattle.step_pool.specs.Amounts.{no_pool}
use Rattle.day_pools.proofs.empty_pool.Goals as goal

pub returns : goal.returns
unfolding no_pool
returns c = refl
