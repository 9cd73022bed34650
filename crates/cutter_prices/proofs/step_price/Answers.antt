-- `cutter_prices::step_price` meets its contract.
use native.Mathlib.Omega.{arith}
use mathlib.Core.Path.{◌∙◌}
use Rattle.cutter_cursors.specs.Places.{place_least, place_read}
use Rattle.cutter_cursors.specs.Search.{bit_is}
use Rattle.cutter_prices.proofs.Written.{slot_read, step_price_is}
use Rattle.cutter_prices.proofs.step_price.Goals as goal

pub overflow_mul-at : goal.overflow_mul-at
overflow_mul-at c = omega (arith, slot_read c.requires.0 c.requires.1)

pub overflow_add-slot : goal.overflow_add-slot
overflow_add-slot c = omega (arith, slot_read c.requires.0 c.requires.1)

pub word_at-requires : goal.word_at-requires
word_at-requires c = omega (arith, slot_read c.requires.0 c.requires.1, c.requires.0.line.long)

pub overflow_sub-at : goal.overflow_sub-at
overflow_sub-at c = omega (arith, place_least c.requires.0)

pub bid_break-requires : goal.bid_break-requires
bid_break-requires c = let p = place_read c.requires.0 in (p.1, p.2)

pub returns : goal.returns
returns c =
    step_price_is c.requires.0 c.requires.1 c.word_at.ensures c.bid_break.ensures
    (c.from.ensures ∙ bit_is _)
