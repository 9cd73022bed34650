-- `step_inputs::inputs::totals_of` meets its contract.
use mathlib.Core.Path.{◌∙◌}
use borrow.Author.Rules.{rules}
use Rattle.laws.specs.Accepted.{accepted_bids}
use Rattle.step_inputs.proofs.inputs.Laws.{pricing_narrow, operating_narrow, actual_is, actual_narrow, totals_are}
use Rattle.step_inputs.proofs.inputs.totals_of.Goals as goal

pub narrow_row-requires : goal.narrow_row-requires
narrow_row-requires c =
    pricing_narrow _ c.args.line.now c.requires _ c.pricing_totals.ensures

pub narrow_row-requires-2 : goal.narrow_row-requires-2
narrow_row-requires-2 c =
    operating_narrow _ c.args.line.now c.requires _ c.operating_totals.ensures

pub narrow-requires : goal.narrow-requires
narrow-requires c =
    let line = c.args.line.now in
    let actual-is' = actual_is _ line c.requires _ _ c.actuals.ensures c.effective_actual.ensures in
    actual_narrow _ line c.requires _ actual-is'

pub greatest_break-requires : goal.greatest_break-requires
greatest_break-requires c =
    (accepted_bids _ _ c.requires)

pub returns : goal.returns
returns c =
    let line = c.args.line.now in
    let actual-is' = actual_is _ line c.requires _ _ c.actuals.ensures
    c.effective_actual.ensures in
    totals_are _ line c.requires _ _ _ _ _ _ _ _ _ _
    c.side.ensures
    c.accreditation.ensures
    c.accredited_row.ensures c.hedge.ensures
    c.pricing_totals.ensures
    c.narrow_row.ensures
    c.operating_totals.ensures
    c.narrow_row-2.ensures
    (c.narrow.ensures ∙ actual-is') c.greatest_break.ensures
