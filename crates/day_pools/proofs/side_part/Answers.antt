-- `day_pools::side_part` meets its contract.
use native.Mathlib.Omega.{arith}
use borrow.Author.Rules.{rules}
use Rattle.step_inputs.proofs.Lines.{line_lies, lent_length}
use Rattle.day_pools.proofs.Laws.{part_other, part_own}
use Rattle.day_pools.proofs.side_part.Goals as goal

pub line_of-requires : goal.line_of-requires
line_of-requires c =
    line_lies c.args.day.now c.requires.0 c.args.k c.requires.1

pub side-requires : goal.side-requires
side-requires c =
    omega (arith, lent_length c.args.day.now c.requires.0 c.args.k c.requires.1 _ c.line_of.ensures)

pub returns-then-side-sd : goal.returns-then-side-sd
returns-then-side-sd c =
    part_other c.args.day.now _ _ _ _ _ c.line_of.ensures
    c.side.ensures c.if-side-sd.true c.empty_pool.ensures

pub returns : goal.returns
returns c =
    part_own c.args.day.now _ _ _ _ _ c.line_of.ensures
    c.side.ensures c.if-side-sd.false c.line_pool.ensures.pool
