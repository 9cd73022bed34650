-- `step_inputs::inputs::step_here` meets its contract.
use Rattle.step_inputs.proofs.inputs.Laws.{step_there, past_hedge, unhedged}
use Rattle.step_inputs.proofs.inputs.step_here.Goals as goal

pub step_rows-rows-requires : goal.step_rows-rows-requires
step_rows-rows-requires c = (c.requires.here, c.requires.prices)

pub step_with-requires : goal.step_with-requires
step_with-requires c = unhedged c.args.t _ (past_hedge c.requires)

pub returns : goal.returns
returns c =
    step_there c.args.day.now c.args.k _ _ _ _ _ _ _ _ c.requires _ _
    c.step_rows-rows.ensures c.step_with.ensures
