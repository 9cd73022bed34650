-- `cutter_prices::price_slots` meets its contract.
use Rattle.std.proofs.Common.{rules, ap, List, ℕ}
use Rattle.cutter_cursors.specs.Places.{five_of}
use Rattle.cutter_prices.specs.Step.{slot_of, slots_of}
use Rattle.cutter_prices.proofs.price_slots.Goals as goal

pub returns : goal.returns
unfolding slots_of
returns c =
    ap (λ (l : List ℕ). record { byte = l })
    (five_of 0 (slot_of c.args.line.now) _ c.from_fn.ensures.items.long (λ s l. search (rules, c.from_fn.ensures.items.at s 0 l)))
