-- `day_pools::side_pool` meets its contract.
use Prim.Native.Nat.{◌-◌, ◌≤◌}
use mathlib.Core.Path.{◌≡◌, ◌∙◌}
use native.Mathlib.Omega.{arith}
use borrow.Author.Rules.{rules}
use Rattle.rules.specs.Days.{settled_day}
use Rattle.step_inputs.specs.Paid.{settled_sized}
use Rattle.day_pools.specs.Sums.{pool_to}
use Rattle.day_pools.specs.Sides.{side_part}
use Rattle.day_pools.specs.Lines.{no_pool_lem}
use Rattle.day_pools.proofs.Laws.{side_addable, side_next, side_whole}
use Rattle.day_pools.proofs.side_pool.Goals as goal

pub line_count-k-end-requires : goal.line_count-k-end-requires
line_count-k-end-requires c = omega (arith, c.requires.0.header.length_least)

pub loop-k-init : goal.loop-k-init
loop-k-init c = c.empty_pool-pool.ensures ∙ no_pool_lem (side_part (settled_day c.args.day.now) c.args.sd)

pub side_part-requires : goal.side_part-requires
side_part-requires c =
    (c.requires.0, omega (arith, c.line_count-k-end.ensures), c.requires.1)

pub pool_add-pool-requires : goal.pool_add-pool-requires
pool_add-pool-requires c =
    let day = c.args.day.now in
    side_addable (settled_day day) c.args.sd (settled_sized day c.requires.0) c.loop-k.k
    (omega (arith, c.line_count-k-end.ensures)) _ _ c.loop-k.invariant c.side_part.ensures

pub loop-k-preserved : goal.loop-k-preserved
loop-k-preserved c =
    side_next (settled_day c.args.day.now) c.args.sd c.loop-k.k _ _ _
    c.loop-k.invariant c.side_part.ensures c.pool_add-pool.ensures

pub returns : goal.returns
returns c =
    side_whole (settled_day c.args.day.now) c.args.sd _ c.loop-k.k _
    c.line_count-k-end.ensures c.loop-k.auto.k-end c.loop-k-test.false c.loop-k.invariant
