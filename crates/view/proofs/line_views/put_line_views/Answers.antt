-- `view::line_views::put_line_views` meets its contract: after j turns the views of the first j steps are put.
use Prim.Native.Nat.{◌≤◌, ◌<◌}
use mathlib.Core.Path.{◌≡◌, refl, sym, ap}
use native.Mathlib.Omega.{arith}
use Rattle.rules.specs.Steps.{lower_end}
use Rattle.step_inputs.proofs.Lines.{lent_line}
use Rattle.day_pools.proofs.Laws.{count_is, count_few, step_there, next_lower}
use Rattle.view.specs.Figures.{view_whole}
use Rattle.view.specs.LineViews.{StepViews, line_answer, views_none, views_next, answer_whole}
use Rattle.view.proofs.figures.Laws.{pool_there}
use Rattle.view.proofs.line_views.put_line_views.Goals as goal

pub steps-cut-requires : goal.steps-cut-requires
steps-cut-requires c =
    let ready = c.args.line.now.ready in
    lent_line _ ready.accepted _ ready.there _ ready.line

pub loop-j-init : goal.loop-j-init
unfolding lower_end
loop-j-init c = (refl, views_none c.args.line.now.day.now c.args.line.now.k _)

pub step_view-requires : goal.step_view-requires
step_view-requires c =
    let line = c.args.line.now in
    let ready = line.ready in (
      step_there _ ready.accepted _ ready.there _ ready.line _ c.steps-cut.ensures c.loop-j.j c.loop-j-test.true
          _ _ _ _ line.market_is refl ready.totals c.loop-j.invariant.0,
      pool_there _ _ _ _ _ _ ready.line ready.totals c.pool_for-pool.ensures,
    )

pub bounds-views-j : goal.bounds-views-j
bounds-views-j c =
    let ready = c.args.line.now.ready in
    omega (arith, count_few _ ready.accepted _ ready.there _ ready.line _ c.steps-cut.ensures, c.loop-j-test.true)

pub bounds-cut-j : goal.bounds-cut-j
bounds-cut-j c =
    let ready = c.args.line.now.ready in
    omega (arith, count_few _ ready.accepted _ ready.there _ ready.line _ c.steps-cut.ensures, c.loop-j-test.true)

pub loop-j-preserved : goal.loop-j-preserved
loop-j-preserved c =
    let line = c.args.line.now in
    let ready = line.ready in
    let j = c.loop-j.j in
    let count = count_is _ ready.accepted _ ready.there _ ready.line _ c.steps-cut.ensures in
    let below = c.loop-j-test.true in (
      next_lower _ ready.accepted _ ready.there _ ready.line _ c.steps-cut.ensures j below _ refl,
      views_next line.day.now line.k j _ _ _ c.loop-j.invariant.1
          (view_whole line.day.now line.k j 0 (sym c.requires) refl ready.there _ c.step_view.ensures (omega (arith, count, below))),
    )

pub returns-clause-value : goal.returns-clause-value
unfolding line_answer
returns-clause-value c =
    let line = c.args.line.now in
    let ready = line.ready in
    let count = count_is _ ready.accepted _ ready.there _ ready.line _ c.steps-cut.ensures in
    ap (λ (x : StepViews). x.count)
    (answer_whole line.day.now line.k c.requires ready.there _ c.loop-j.j _ _ count c.loop-j.auto.j-end
    (omega (arith, c.loop-j-test.false)) c.loop-j.invariant.1)

pub returns-clause-views_after : goal.returns-clause-views_after
unfolding line_answer
returns-clause-views_after c =
    let line = c.args.line.now in
    let ready = line.ready in
    let count = count_is _ ready.accepted _ ready.there _ ready.line _ c.steps-cut.ensures in
    ap (λ (x : StepViews). x.views)
    (answer_whole line.day.now line.k c.requires ready.there _ c.loop-j.j _ _ count c.loop-j.auto.j-end
    (omega (arith, c.loop-j-test.false)) c.loop-j.invariant.1)
