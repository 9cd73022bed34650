-- "its price is that of the first bid step whose break is at least its upper end. If there is none, the price is the bid's last price and
-- the flag is 1. Otherwise the flag is 0"; a pulled bid has none: by whether there is such a step, and by where the cursor stands.
use Rattle.std.specs.Prelude.{ℕ, ◌-◌, ◌≤◌, ◌<◌, ◌≡◌, List, ltb}
use Rattle.std.proofs.Common.{arith, sym, ◌∙◌, ap, lt-ltb, le-ltb}
use Rattle.std.proofs.Math.Decide.{dec_lt}
use Rattle.rules.specs.Layout.{bid_count, bid_break, bid_price}
use Rattle.rules.specs.Steps.{bid_step, source, last_price, price, flag}
use Rattle.rules.specs.Payments.{bit}
use Rattle.laws.specs.Accepted.{AcceptedBid}
use Rattle.laws.specs.Sources.{source_own}
use Rattle.cutter_cursors.specs.Search.{bid_first}
use Rattle.cutter_cursors.specs.Sweep.{place_of}
use Rattle.cutter_cursors.specs.Places.{place_found, place_none, break_pulled}

pub price_found : (w : List ℕ) (s u : ℕ) → bid_step w s u < bid_count w s → price w s u ≡ bid_price w s (bid_step w s u)
unfolding price
price_found w s u h = rw (lt-ltb (bid_step w s u) (bid_count w s) h)

pub price_none : (w : List ℕ) (s u : ℕ) → bid_count w s ≤ bid_step w s u → price w s u ≡ last_price w (source w s)
unfolding price
price_none w s u h = rw (le-ltb (bid_step w s u) (bid_count w s) h)

pub flag_found : (w : List ℕ) (s u : ℕ) → bid_step w s u < bid_count w s → flag w s u ≡ 0
unfolding flag
flag_found w s u h = rw (lt-ltb (bid_step w s u) (bid_count w s) h)

pub flag_none : (w : List ℕ) (s u : ℕ) → bid_count w s ≤ bid_step w s u → flag w s u ≡ 1
unfolding flag
flag_none w s u h = rw (le-ltb (bid_step w s u) (bid_count w s) h)

pub flag_most : (w : List ℕ) (s u : ℕ) → flag w s u ≤ 1
flag_most w s u =
    elim (dec_lt (bid_step w s u) (bid_count w s)) [
      | yes l ↦ rw (flag_found w s u l) (omega arith)
      | no g ↦ rw (flag_none w s u (omega arith)) (omega arith)
    ]

-- the price at the cursor's place is the step's, in a bid with steps
pub price_place : (w : List ℕ) (s u : ℕ) → 0 < bid_count w s → bid_price w s (place_of w s u - 1) ≡ price w s u
unfolding last_price
price_place w s u c =
    elim (dec_lt (bid_step w s u) (bid_count w s)) [
      | yes l ↦ ap (bid_price w s) (place_found w s u l) ∙ sym (price_found w s u l)
      | no g ↦
          ap (bid_price w s) (place_none w s u (omega arith))
          ∙ ap (λ (r : ℕ). bid_price w r (bid_count w r - 1)) (sym (source_own w s c))
          ∙ sym (price_none w s u (omega arith))
    ]

-- the flag is 1 where the break there is below u, as where no break of the bid is at least u
none_below : {w : List ℕ} {s : ℕ} → AcceptedBid w s → (u : ℕ) → 0 < u → bid_count w s ≤ bid_step w s u → bid_break w s (place_of w s u - 1) < u
none_below {w} {s} b u m g =
    elim (dec_lt 0 (bid_count w s)) [
      | yes c ↦
          let e = ap (bid_break w s) (place_none w s u g) in
          let r = (bid_first w s u).passed (bid_count w s - 1) (omega arith) in
          omega arith
      | no c ↦ let z = break_pulled b u (omega arith) in omega arith
    ]

pub flag_place : {w : List ℕ} {s : ℕ} → AcceptedBid w s → (u : ℕ) → 0 < u → bit (ltb (bid_break w s (place_of w s u - 1)) u) ≡ flag w s u
flag_place {w} {s} b u m =
    elim (dec_lt (bid_step w s u) (bid_count w s)) [
      | yes l ↦
          let e = ap (bid_break w s) (place_found w s u l) in
          let r = (bid_first w s u).reached l in
          rw (le-ltb (bid_break w s (place_of w s u - 1)) u (omega arith)) (sym (flag_found w s u l))
      | no g ↦
          let r = none_below b u m (omega arith) in
          rw (lt-ltb (bid_break w s (place_of w s u - 1)) u r) (sym (flag_none w s u (omega arith)))
    ]
