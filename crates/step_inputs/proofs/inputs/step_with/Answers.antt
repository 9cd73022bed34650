-- `step_inputs::inputs::step_with` meets its contract.
use Rattle.step_inputs.proofs.inputs.Laws.{step_from_is}
use Rattle.step_inputs.proofs.inputs.step_with.Goals as goal

pub returns : goal.returns
returns c = step_from_is _ _ _ _ _ _ _ _ c.capped_row.ensures c.requires
