-- `step_inputs::inputs::market_of` meets its contract.
use borrow.Author.Rules.{rules}
use Rattle.step_inputs.proofs.inputs.Laws.{market_is}
use Rattle.step_inputs.proofs.inputs.market_of.Goals as goal

pub returns : goal.returns
returns c =
    market_is _ _ _ _ _ c.market_prices.ensures c.cap_marks.ensures
    c.price_cap.ensures c.clawback.ensures
