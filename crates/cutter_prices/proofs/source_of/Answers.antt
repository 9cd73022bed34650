-- `cutter_prices::source_of` meets its contract.
use native.Mathlib.Omega.{arith}
use mathlib.Core.Path.{refl}
use Rattle.cutter_prices.proofs.Written.{search_goes, search_next, search_ends}
use Rattle.cutter_prices.proofs.source_of.Goals as goal

pub loop-r-init : goal.loop-r-init
loop-r-init c = (omega arith, refl)

pub bid_count-requires : goal.bid_count-requires
bid_count-requires c = omega (arith, c.requires.1, c.loop-r.invariant.0)

pub overflow_sub-r : goal.overflow_sub-r
overflow_sub-r c =
    search_goes c.requires.0 _ _ c.bid_count.ensures c.loop-r-test.true

pub loop-r-smaller : goal.loop-r-smaller
loop-r-smaller c =
    omega (arith, search_goes c.requires.0 _ _ c.bid_count.ensures c.loop-r-test.true)

pub loop-r-preserved : goal.loop-r-preserved
loop-r-preserved c =
    let more = search_goes c.requires.0 _ _ c.bid_count.ensures c.loop-r-test.true in
    (omega (arith, c.loop-r.invariant.0), search_next _ _ _ _ more c.bid_count.ensures c.loop-r-test.true c.loop-r.invariant.1)

pub returns : goal.returns
returns c = search_ends _ _ _ _ c.bid_count.ensures c.loop-r-test.false c.loop-r.invariant.1
