-- `step_pool::adding::pool_with` meets its contract: by whether C is 0 throughout, and whether the step takes something back.
use mathlib.Core.Path.{sym, ◌∙◌, ap}
use Rattle.step_pool.specs.Amounts.{pool_sum}
use Rattle.step_payments.proofs.amounts.Joining.{revised_fits, revised_row}
use Rattle.step_pool.proofs.pool_amounts.Kept.{kept_row, kept_pool}
use Rattle.step_pool.proofs.pool_amounts.Idle.{idle_zero, pool_idle, keeps, takes_none, takes_some}
use Rattle.step_pool.proofs.pool_amounts.Settling.{of_minus, full_pool}
use Rattle.step_pool.proofs.adding.pool_with.Goals as goal

pub returns-then-most-eq0 : goal.returns-then-most-eq0
returns-then-most-eq0 c =
    let x = c.args.x in
    let idle = idle_zero x _ _ c.constrained_on-c.ensures c.most.ensures c.if-most-eq0.true in
    (pool_idle x idle _ c.requires.2, sym (takes_none x (keeps x idle)))

pub changes_on-v-requires : goal.changes_on-v-requires
changes_on-v-requires c = (c.constrained_on-c.ensures, c.rates.ensures)

pub pool_add-requires : goal.pool_add-requires
pool_add-requires c =
    let x = c.args.x in
    let kept = kept_row x _ (of_minus x _ c.changes_on-v.ensures) (c.if-all_zero.ensures) in
    rw (c.pool.ensures ∙ kept_pool x kept c.changes_on-v.ensures) c.requires.1

pub returns-then-all_zero : goal.returns-then-all_zero
returns-then-all_zero c =
    let x = c.args.x in
    let kept = kept_row x _ (of_minus x _ c.changes_on-v.ensures) (c.if-all_zero.ensures) in
    (c.pool_add.ensures ∙ ap (pool_sum c.args.p) (c.pool.ensures ∙ kept_pool x kept c.changes_on-v.ensures), sym (takes_none x kept))

pub revised_rows-minus-requires : goal.revised_rows-minus-requires
revised_rows-minus-requires c = revised_fits c.args.x c.constrained_on-c.ensures c.match_table.ensures c.requires.0

pub pool_add-requires-2 : goal.pool_add-requires-2
pool_add-requires-2 c =
    let x = c.args.x in
    let e = c.changes_on-v.ensures in
    let minus = revised_row x c.constrained_on-c.ensures c.match_table.ensures (of_minus x _ e) c.revised_rows-minus.ensures in
    rw (c.pool-2.ensures ∙ full_pool x e minus c.differing.ensures) c.requires.1

pub returns : goal.returns
returns c =
    let x = c.args.x in
    let e = c.changes_on-v.ensures in
    let minus = revised_row x c.constrained_on-c.ensures c.match_table.ensures (of_minus x _ e) c.revised_rows-minus.ensures in
    let some = takes_some x _ (of_minus x _ e) (c.if-all_zero.ensures) in
    (c.pool_add-2.ensures ∙ ap (pool_sum c.args.p) (c.pool-2.ensures ∙ full_pool x e minus c.differing.ensures), some)
