-- `view::view` meets its contract.
use mathlib.Core.Path.{◌≡◌, refl, sym, ◌∙◌}
use mathlib.Core.Bool.{true}
use lib.Dec.{eqb}
use borrow.Author.Tests.{eq-eqb}
use Rattle.rules.specs.Refusals.{view_fault}
use Rattle.rules.specs.Viewing.{view_answer}
use Rattle.refusals.specs.Laws.{refused}
use Rattle.view.specs.Figures.{view_refused_lem}
use Rattle.view.proofs.view.Goals as goal

pub returns-in-Ok : goal.returns-in-Ok
unfolding view_answer
returns-in-Ok c =
    let none : eqb (view_fault c.args.day.now c.args.line c.args.step) 0 ≡ true = eq-eqb _ 0 (sym c.in-Ok.ensures.number) in
    c.in-Ok.ensures.ok ∙ rw none

pub returns-in-Err : goal.returns-in-Err
returns-in-Err c =
    view_refused_lem c.args.day.now c.args.line c.args.step _ refl _ _ c.refused.ensures (c.from.ensures ∙ c.in-Err.ensures.number)
    (λ e. refused _ (sym c.from.ensures ∙ e))
