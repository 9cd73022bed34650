-- `cutter_prices::slot_of` meets its contract.
use native.Mathlib.Omega.{arith}
use Rattle.cutter_prices.proofs.Written.{slot_some, slot_taken, source_most, count_fits, count_there}
use Rattle.cutter_prices.proofs.slot_of.Goals as goal

pub bid_count-requires : goal.bid_count-requires
bid_count-requires c = c.requires.1

pub before_price-requires : goal.before_price-requires
before_price-requires c = (c.requires.1, omega arith)

pub returns-then-bid_count-ne0 : goal.returns-then-bid_count-ne0
returns-then-bid_count-ne0 c = slot_some _ _ c.bid_count.ensures c.if-bid_count-ne0.true c.before_price.ensures

pub source_of-r-requires : goal.source_of-r-requires
source_of-r-requires c =
    (c.requires.0, c.requires.1)

pub bid_count-requires-else-bid_count-ne0 : goal.bid_count-requires-else-bid_count-ne0
bid_count-requires-else-bid_count-ne0 c =
    source_most c.requires.0 _ c.requires.1 c.source_of-r.ensures

pub overflow_sub-bid_count : goal.overflow_sub-bid_count
overflow_sub-bid_count c =
    omega (arith, count_there c.requires.0 _ c.requires.1 c.source_of-r.ensures c.bid_count-else-bid_count-ne0.ensures)

pub before_price-requires-else-bid_count-ne0 : goal.before_price-requires-else-bid_count-ne0
before_price-requires-else-bid_count-ne0 c =
    let below = source_most c.requires.0 _ c.requires.1 c.source_of-r.ensures in
    (below, omega (arith, count_fits c.requires.0 _ below c.bid_count-else-bid_count-ne0.ensures))

pub returns-else-bid_count-ne0 : goal.returns-else-bid_count-ne0
returns-else-bid_count-ne0 c =
    slot_taken _ _ c.bid_count.ensures c.if-bid_count-ne0.false
    c.source_of-r.ensures c.bid_count-else-bid_count-ne0.ensures c.before_price-else-bid_count-ne0.ensures
