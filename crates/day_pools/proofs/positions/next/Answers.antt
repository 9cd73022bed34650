-- `day_pools::positions::next` meets its contract.
use native.Mathlib.Omega.{arith}
use mathlib.Core.Path.{refl}
use Rattle.cutter.proofs.positions.Laws.{limit}
use Rattle.day_pools.proofs.positions.next.Goals as goal

pub overflow_add-end : goal.overflow_add-end
overflow_add-end c = record { fits = omega (arith, limit c.requires.0 c.requires.1) }

pub overflow_add-end-2 : goal.overflow_add-end-2
overflow_add-end-2 c = record { fits = omega (arith, limit c.requires.0 c.requires.1) }

pub passed-requires : goal.passed-requires
passed-requires c = (c.requires.0, c.requires.1, refl)

pub returns : goal.returns
returns c = (c.passed.ensures.0, c.passed.ensures.2, c.passed.ensures.1)
