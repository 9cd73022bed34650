-- Refusals 9 and 10 of one bid.
use Rattle.std.specs.Prelude.{ℕ, ◌-◌, List}
use Rattle.rules.specs.Fold.{◌or_else◌, first}
use Rattle.rules.specs.Layout.{bid_slots, bid_count}
use Rattle.rules.specs.Refusals.{price_fault, unused_fault}

-- the two one after the other
unfoldable pub slots_fault : List ℕ → ℕ → ℕ
slots_fault w s = first (price_fault w s) (bid_count w s) or_else first (unused_fault w s) (bid_slots - bid_count w s)
