-- Laws of where a schedule's prices stand.
use Rattle.std.specs.Prelude.{ℕ, ◌+◌, ◌*◌, ◌-◌, ◌≤◌, ◌<◌, ◌≡◌, List}
use native.Mathlib.Omega.{arith}
use Rattle.std.proofs.Math.Decide.{dec_lt}
use Rattle.std.proofs.Math.Path.{refl, sym, ap}
use Rattle.std.proofs.Common.{◌∙◌, eq-eqb, ne_eqb}
use Rattle.rules.specs.Layout.{word, bid_count, bid_price}
use Rattle.rules.specs.Steps.{source, last_price, price}
use Rattle.laws.specs.Accepted.{AcceptedLine}
use Rattle.laws.specs.Sources.{nearest}
use Rattle.cutter_cursors.specs.Sweep.{place_of}
use Rattle.cutter_cursors.specs.Places.{place_below, place_pulled}
use Rattle.cutter_prices.specs.Step.{before_price, slot_of}
use Rattle.cutter_prices.specs.Rule.{price_none, price_place}

-- a bid's own prices, and a pulled one's
pub slot_own : (w : List ℕ) (s : ℕ) → (bid_count w s ≡ 0 → ⊥) → slot_of w s ≡ before_price s 0
unfolding slot_of
slot_own w s h = rw (ne_eqb (bid_count w s) 0 h)

pub slot_pulled : (w : List ℕ) (s : ℕ) → bid_count w s ≡ 0 → slot_of w s ≡ before_price (source w s) (bid_count w (source w s) - 1)
unfolding slot_of
slot_pulled w s h = rw (eq-eqb (bid_count w s) 0 h)

module _ (w : List ℕ) (h : AcceptedLine w) (s : ℕ) (l : s < 5) (u : ℕ) where
  place_is : 0 < place_of w s u
  unfolding place_of
  place_is = omega arith

  -- within the bids' words
  pub slot_most : slot_of w s + 4 * place_of w s u ≤ 476
  slot_most =
      elim (dec_lt 0 (bid_count w s)) [
        | yes c ↦
            let q = slot_own w s (λ e. omega arith) in
            let p = place_below w s u c in
            let m = (h.bids s l).count_most in
            omega arith
        | no c ↦
            let n = (nearest w h s l).within in
            let m = (h.bids (source w s) (omega arith)).count_most in
            let q = slot_pulled w s (omega arith) in
            let p = place_pulled w s u (omega arith) in
            omega arith
      ]

  -- and what stands there is the step's price
  pub price_slot : word w (slot_of w s + 4 * place_of w s u) ≡ price w s u
  price_slot =
      let a = place_is in
      elim (dec_lt 0 (bid_count w s)) [
        | yes c ↦
            let q = slot_own w s (λ e. omega arith) in
            ap (word w) (omega arith) ∙ price_place w s u c
        | no c ↦
            let n = (nearest w h s l).some in
            let q = slot_pulled w s (omega arith) in
            let p = place_pulled w s u (omega arith) in
            let b : last_price w (source w s) ≡ bid_price w (source w s) (bid_count w (source w s) - 1) = unfold last_price in refl in
            ap (word w) (omega arith) ∙ sym b ∙ sym (price_none w s u (omega arith))
      ]
