-- `step_finals::finals::initial_with` meets its contract: by whether C is 0 throughout.
use mathlib.Core.Path.{sym, ◌∙◌, ap, subst}
use Rattle.step_pool.specs.Amounts.{money_sum, MoneyAddable}
use Rattle.step_pool.proofs.pool_amounts.Idle.{idle_zero, initial_idle, initial_parts}
use Rattle.step_finals.proofs.finals.initial_with.Goals as goal

pub returns-then-most-eq0 : goal.returns-then-most-eq0
returns-then-most-eq0 c =
    let x = c.args.x in
    initial_idle x (idle_zero x _ _ c.constrained_on-c.ensures c.most.ensures c.if-most-eq0.true)
    _ c.requires.1

pub changes_on-requires : goal.changes_on-requires
changes_on-requires c = (c.constrained_on-c.ensures, c.rates.ensures)

pub money_add-requires : goal.money_add-requires
money_add-requires c =
    subst (MoneyAddable c.args.m)
    (sym (initial_parts c.args.x _ c.changes_on.ensures)) c.requires.0

pub returns : goal.returns
returns c = c.money_add.ensures ∙ ap (money_sum c.args.m) (initial_parts c.args.x _ c.changes_on.ensures)
