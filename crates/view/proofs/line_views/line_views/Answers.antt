-- `view::line_views::line_views` meets its contract.
use mathlib.Core.Path.{◌≡◌, refl, sym, ◌∙◌, ap}
use mathlib.Core.List.{List}
use lib.Seq.{sets}
use native.Mathlib.Omega.{arith}
use Rattle.std.proofs.Common.{rules}
use Rattle.rules.specs.declared.View.{View}
use Rattle.laws.specs.Accepted.{accepted_day}
use Rattle.refusals.specs.Laws.{is_refused}
use Rattle.view.specs.Figures.{fault_day, fault_line}
use Rattle.view.specs.LineViews.{views_refused, first_good}
use Rattle.view.proofs.line_views.line_views.Goals as goal

pub returns-in_err-check_day-clause-number : goal.returns-in_err-check_day-clause-number
returns-in_err-check_day-clause-number c =
    fault_day c.args.day.now c.args.k 0 _ (search rules) (is_refused _ c.from_residual.ensures.0)

pub returns-in_err-check_day-clause-views_after : goal.returns-in_err-check_day-clause-views_after
returns-in_err-check_day-clause-views_after c =
    let fault = fault_day c.args.day.now c.args.k 0 _ (search rules) (is_refused _ c.from_residual.ensures.0) in
    let none = views_refused c.args.day.now c.args.k (λ e. is_refused _ c.from_residual.ensures.0 (fault ∙ e)) in
    ap (λ (s : List View). sets c.args.views.now 0 s) (sym none)

pub line_count-requires : goal.line_count-requires
line_count-requires c = omega (arith, (accepted_day c.args.day.now (sym c.in_ok-check_day.ensures)).header.length_least)

pub returns-then-line_count-k-clause-number : goal.returns-then-line_count-k-clause-number
returns-then-line_count-k-clause-number c =
    fault_line c.args.day.now c.args.k 0 0 c.in_ok-check_day.ensures refl _ c.line_count.ensures c.if-line_count-k.true

pub returns-then-line_count-k-clause-views_after : goal.returns-then-line_count-k-clause-views_after
returns-then-line_count-k-clause-views_after c =
    let fault = fault_line c.args.day.now c.args.k 0 0 c.in_ok-check_day.ensures refl _ c.line_count.ensures c.if-line_count-k.true in
    let none = views_refused c.args.day.now c.args.k (λ e. omega (arith, fault, e)) in
    ap (λ (s : List View). sets c.args.views.now 0 s) (sym none)

pub put_views-requires : goal.put_views-requires
put_views-requires c = (sym c.in_ok-check_day.ensures, omega (arith, c.line_count.ensures, c.if-line_count-k.false))

pub returns-clause-number : goal.returns-clause-number
returns-clause-number c =
    first_good c.args.day.now c.args.k (sym c.in_ok-check_day.ensures) (omega (arith, c.line_count.ensures, c.if-line_count-k.false))
