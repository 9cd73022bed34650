-- `day_paid::kept_money` meets its contract: by whether a step of the line takes something back.
use native.Mathlib.Omega.{arith}
use borrow.Author.Rules.{rules}
use Rattle.step_inputs.proofs.Lines.{line_lies}
use Rattle.day_paid.specs.Lines.{line_pool_lem}
use Rattle.day_paid.proofs.Laws.{line_money_lem}
use Rattle.day_paid.proofs.Kept.{untaken_money}
use Rattle.rules.specs.Days.{settled_day}
use Rattle.day_paid.proofs.kept_money.Goals as goal

pub returns-then-kept-eq0 : goal.returns-then-kept-eq0
returns-then-kept-eq0 c =
    untaken_money c.args.day.now c.args.k _ c.requires.5 c.if-kept-eq0.true

pub line_of-requires : goal.line_of-requires
line_of-requires c =
    line_lies c.args.day.now c.requires.0 c.args.k c.requires.1

pub line_taken-requires : goal.line_taken-requires
line_taken-requires c = (
  c.requires.0,
  c.requires.1,
  c.requires.2,
  c.requires.3,
  line_pool_lem c.args.day.now c.requires.0 _ c.requires.4 c.args.k c.requires.1 _
      c.line_of.ensures _ c.side.ensures _ c.pool_of-pool.ensures,
  c.requires.5.plus,
  c.requires.5.kept,
)

pub returns-else-kept-eq0 : goal.returns-else-kept-eq0
returns-else-kept-eq0 c =
    line_money_lem (settled_day c.args.day.now) c.args.k _ c.line_taken.ensures
