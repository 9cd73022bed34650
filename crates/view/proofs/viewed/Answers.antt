-- `view::viewed` meets its contract.
use Prim.Native.Nat.{ℕ, ◌≤◌, ◌<◌}
use mathlib.Core.Path.{◌≡◌, refl, sym, ◌∙◌, ap, subst}
use mathlib.Core.List.{List}
use native.Mathlib.Omega.{arith}
use Rattle.std.proofs.Common.{rules}
use Rattle.rules.specs.Layout.{line_count, line_at}
use Rattle.rules.specs.Steps.{step_count}
use Rattle.rules.specs.Days.{settled_day}
use Rattle.laws.specs.Accepted.{accepted_day}
use Rattle.refusals.specs.Laws.{is_refused}
use Rattle.step_inputs.proofs.Lines.{lent_line}
use Rattle.day_pools.specs.Lines.{PoolFor}
use Rattle.day_pools.proofs.Laws.{count_is, count_few, step_there}
use Rattle.view.specs.Figures.{fault_day, fault_line, fault_step, fault_none}
use Rattle.view.proofs.figures.Laws.{lower_is, pool_there}
use Rattle.view.proofs.viewed.Goals as goal

pub returns-in_err-check_day-clause-number : goal.returns-in_err-check_day-clause-number
returns-in_err-check_day-clause-number c =
    fault_day c.args.day.now c.args.k c.args.step _ (search rules) (is_refused _ c.from_residual.ensures.0)

pub line_count-requires : goal.line_count-requires
line_count-requires c = omega (arith, (accepted_day c.args.day.now (sym c.in_ok-check_day.ensures)).header.length_least)

pub returns-then-line_count-k-clause-number : goal.returns-then-line_count-k-clause-number
returns-then-line_count-k-clause-number c =
    fault_line c.args.day.now c.args.k c.args.step 0 c.in_ok-check_day.ensures refl _ c.line_count.ensures c.if-line_count-k.true

pub market_of-requires : goal.market_of-requires
market_of-requires c = omega (arith, (accepted_day c.args.day.now (sym c.in_ok-check_day.ensures)).header.length_least)

pub new-line-requires : goal.new-line-requires
new-line-requires c = (
  accepted_day c.args.day.now (sym c.in_ok-check_day.ensures),
  omega (arith, c.line_count.ensures, c.if-line_count-k.false),
  c.market_of.ensures,
)

pub steps-cut-requires : goal.steps-cut-requires
steps-cut-requires c =
    let ready = c.new-line.result.ready in
    lent_line _ ready.accepted _ ready.there _ ready.line

pub returns-then-cut-step-clause-number : goal.returns-then-cut-step-clause-number
returns-then-cut-step-clause-number c =
    let line = c.new-line.result in
    let ready = line.ready in
    let within : c.args.k < line_count c.args.day.now = omega (arith, c.line_count.ensures, c.if-line_count-k.false) in
    let count = count_is _ ready.accepted _ ready.there _ ready.line _ c.steps-cut.ensures
    ∙ ap (λ (d : List ℕ). step_count (line_at d line.k)) c.new-line.ensures.0
    ∙ ap (λ (k : ℕ). step_count (line_at c.args.day.now k)) c.new-line.ensures.1 in
    fault_step c.args.day.now c.args.k c.args.step 0 c.in_ok-check_day.ensures refl within _ count c.if-cut-step.true

pub lower_end-requires : goal.lower_end-requires
lower_end-requires c =
    let ready = c.new-line.result.ready in
    omega (arith, count_few _ ready.accepted _ ready.there _ ready.line _ c.steps-cut.ensures, c.if-cut-step.false)

pub step_view-requires : goal.step_view-requires
step_view-requires c =
    let line = c.new-line.result in
    let ready = line.ready in
    let lower = lower_is _ _ _ c.args.step _ _ ready.line c.steps-cut.ensures c.lower_end.ensures in
    let pool = subst (λ (d : List ℕ). PoolFor (settled_day d) line.totals.side c.pool_for-pool.result) (sym c.new-line.ensures.0)
    c.pool_for-pool.ensures in (
      step_there _ ready.accepted _ ready.there _ ready.line _ c.steps-cut.ensures c.args.step c.if-cut-step.false
          _ _ _ _ line.market_is refl ready.totals lower,
      pool_there _ _ _ _ _ _ ready.line ready.totals pool,
    )

pub returns-clause-number : goal.returns-clause-number
returns-clause-number c =
    let line = c.new-line.result in
    let ready = line.ready in
    let within : c.args.k < line_count c.args.day.now = omega (arith, c.line_count.ensures, c.if-line_count-k.false) in
    let count = count_is _ ready.accepted _ ready.there _ ready.line _ c.steps-cut.ensures
    ∙ ap (λ (d : List ℕ). step_count (line_at d line.k)) c.new-line.ensures.0
    ∙ ap (λ (k : ℕ). step_count (line_at c.args.day.now k)) c.new-line.ensures.1 in
    fault_none c.args.day.now c.args.k c.args.step 0 c.in_ok-check_day.ensures refl within (omega (arith, count, c.if-cut-step.false))
