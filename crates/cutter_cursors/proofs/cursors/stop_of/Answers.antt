-- `cutter_cursors::cursors::stop_of` meets its contract.
use Rattle.cutter_cursors.proofs.cursors.Moves.{stop_more, stop_last}
use Rattle.cutter_cursors.proofs.cursors.stop_of.Goals as goal

pub returns-then-at-bid_count : goal.returns-then-at-bid_count
returns-then-at-bid_count c = stop_more _ _ _ c.bid_count.ensures c.if-at-bid_count.true c.bid_break.ensures

pub returns-else-at-bid_count : goal.returns-else-at-bid_count
returns-else-at-bid_count c = stop_last _ _ _ c.bid_count.ensures c.if-at-bid_count.false
