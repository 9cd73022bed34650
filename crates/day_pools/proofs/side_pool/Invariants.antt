-- `day_pools::side_pool` meets its contract.
use Prim.Native.Nat.{◌-◌, ◌≤◌}
use mathlib.Core.Path.{◌≡◌, ◌∙◌}
use native.Mathlib.Omega.{arith}
use borrow.Author.Rules.{rules}
use Rattle.rules.specs.Days.{settled_day}
use Rattle.step_inputs.specs.Paid.{settled_sized}
use Rattle.day_pools.specs.Sums.{pool_to}
use Rattle.day_pools.specs.Sides.{side_part}
use Rattle.day_pools.specs.Lines.{no_pool_lem}
use Rattle.day_pools.proofs.Laws.{side_addable, side_next, side_whole}
use Rattle.day_pools.proofs.side_pool.Given as goal

abbrev pub invariant-loop-k : goal.invariant-loop-k
invariant-loop-k l = l.pool ≡ pool_to l.k (side_part (settled_day l.day) l.sd)
