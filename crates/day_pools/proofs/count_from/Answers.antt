-- `day_pools::count_from` meets its contract.
use native.Mathlib.Omega.{arith}
use Rattle.cutter.specs.Ends.{count_most}
use Rattle.day_pools.proofs.Passes.{counted}
use Rattle.day_pools.proofs.count_from.Goals as goal

pub overflow_cast-result : goal.overflow_cast-result
overflow_cast-result c = omega (arith, counted c.skip_to.ensures, count_most _ c.requires.0.accepted)

pub returns : goal.returns
returns c = counted c.skip_to.ensures
