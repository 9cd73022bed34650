-- `cutter_cursors::cursors::break_gap` meets its contract.
use Rattle.std.proofs.Common.{arith}
use Rattle.cutter_cursors.specs.Places.{place_least, place_read}
use Rattle.cutter_cursors.proofs.cursors.Moves.{break_most, break_gap_is}
use Rattle.cutter_cursors.proofs.cursors.break_gap.Goals as goal

pub overflow_sub-at : goal.overflow_sub-at
overflow_sub-at c = omega (arith, place_least c.requires.0)

pub bid_break-requires : goal.bid_break-requires
bid_break-requires c = let p = place_read c.requires.0 in (p.1, p.2)

pub gap-requires : goal.gap-requires
gap-requires c = (break_most c.requires.0 c.bid_break.ensures, c.requires.1)

pub returns : goal.returns
returns c = break_gap_is c.requires.0 c.bid_break.ensures c.gap.ensures
