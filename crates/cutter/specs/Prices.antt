-- Laws of a step's price and flag in one schedule, from what acceptance says of the bid.
use Rattle.std.specs.Prelude.{ℕ, zero, suc, ◌-◌, ◌≤◌, ◌<◌, ◌≡◌, refl, Bool, true, false, cond, List, length, get_or, eqb, ltb}
use Rattle.std.proofs.Common.{arith, ◌∙◌, ap, le-ltb, ltb-false}
use Rattle.std.proofs.Math.Decide.{dec_lt}
use Rattle.std.proofs.lemmas.List.{length-map}
use Rattle.std.proofs.Math.ListN.{get_or-eq_default}
use Rattle.rules.specs.Layout.{side, bid_count, bid_break, bid_price}
use Rattle.rules.specs.Refusals.{out_of_order}
use Rattle.rules.specs.Steps.{ends, step_count, upper_end, bid_step, source, last_price, price, flag}
use Rattle.rules.specs.Cutting.{prices, flags}
use Rattle.laws.specs.Accepted.{AcceptedLine}
use Rattle.laws.specs.Sources.{Nearest, nearest, nearest_same}
use Rattle.cutter.specs.Arrays.{map_at}
use Rattle.cutter.specs.Lists.{place_of_lem, rises_mono}
use Rattle.cutter.specs.Ends.{of_break, of_end, ends_rise}
use Rattle.cutter_cursors.specs.Search.{bid_first, first_mono}
use Rattle.cutter_cursors.specs.Sweep.{place_of}
use Rattle.cutter_prices.specs.Rule.{price_found, price_none, flag_found, flag_none, flag_most, price_place}

-- "its price is that of the first bid step whose break is at least its upper end. If there is none, the price is the bid's last price
-- and the flag is 1. Otherwise the flag is 0": price p and flag f of the step that ends at u. A bid that was pulled has no step, and its last
-- price is that of "the nearest earlier schedule with a count above 0" (document 02, F-6), r, which is s itself where the bid was not pulled
pub data PriceRule (w : List ℕ) (s u p f : ℕ) : Type 0 where
  of_step : (j : ℕ) → j < bid_count w s → ((i : ℕ) → i < j → bid_break w s i < u) → u ≤ bid_break w s j → p ≡ bid_price w s j → f ≡ 0 → PriceRule w s u p f
  of_last : (r : ℕ) → Nearest w s r → ((i : ℕ) → i < bid_count w s → bid_break w s i < u) → p ≡ bid_price w r (bid_count w r - 1) → f ≡ 1 → PriceRule w s u p f

pub price_rule : (w : List ℕ) → AcceptedLine w → (s u : ℕ) → s < 5 → PriceRule w s u (price w s u) (flag w s u)
unfolding last_price
price_rule w h s u m =
    let r = bid_first w s u in
    elim (dec_lt (bid_step w s u) (bid_count w s)) [
      | yes l ↦ of_step (bid_step w s u) l r.passed (r.reached l) (price_found w s u l) (flag_found w s u l)
      | no g ↦
          let e : bid_count w s ≤ bid_step w s u = omega arith in
          of_last (source w s) (nearest w h s m) (λ i l. r.passed i (omega arith)) (price_none w s u e) (flag_none w s u e)
    ]

-- so in a schedule whose bid was pulled every step is flagged and has the last price of the nearest earlier bid with steps
pub pulled_rule : {w : List ℕ} {s r u p f : ℕ} → PriceRule w s u p f → bid_count w s ≡ 0 → Nearest w s r → (p ≡ bid_price w r (bid_count w r - 1)) × (f ≡ 1)
pulled_rule (of_step j l a b p f) e n = absurd (omega arith)
pulled_rule {w} (of_last q m a p f) e n = (p ∙ ap (λ (k : ℕ). bid_price w k (bid_count w k - 1)) (nearest_same m n), f)

-- and a bid with steps has a price for the line's first step, whose end no break is below
pub first_flag : (w : List ℕ) → AcceptedLine w → (s : ℕ) → s < 5 → flag w s (upper_end w 0) ≡ 1 → bid_count w s ≡ 0
unfolding upper_end step_count
first_flag w h s l e =
    let u = get_or (ends w) 0 0 in
    elim (dec_lt 0 (bid_count w s)) [
      | yes c ↦
          let p = place_of_lem (of_end w (bid_break w s 0) (of_break s 0 l c refl)) in
          let q = p.same in
          let m = rises_mono (ends_rise w h) 0 p.place (omega arith) p.below in
          elim (dec_lt (bid_step w s u) (bid_count w s)) [
            | yes g ↦ let z = flag_found w s u g in absurd (omega arith)
            | no g ↦ let r = (bid_first w s u).passed 0 (omega arith) in absurd (omega arith)
          ]
      | no c ↦ omega arith
    ]

-- a flag that is set is set for every greater end
pub flag_stays : (w : List ℕ) (s u v : ℕ) → u ≤ v → flag w s u ≡ 1 → flag w s v ≡ 1
flag_stays w s u v h e =
    let m = first_mono (bid_first w s u) (bid_first w s v) h in
    elim (dec_lt (bid_step w s u) (bid_count w s)) [
      | yes l ↦ let z = flag_found w s u l in absurd (omega arith)
      | no g ↦ flag_none w s v (omega arith)
    ]

-- prices in order, "falling (withdrawal: rising)" being out of it, whichever the side
out_of_order_lem : (t : Bool) → ℕ → ℕ → Bool
out_of_order_lem t p q = cond t (ltb p q) (ltb q p)

out_of_order_same : (t : Bool) (p : ℕ) → out_of_order_lem t p p ≡ false
unfolding out_of_order_lem
out_of_order_same true p = le-ltb p p (omega arith)
out_of_order_same false p = le-ltb p p (omega arith)

out_of_order_trans : (t : Bool) (p q r : ℕ) → out_of_order_lem t p q ≡ false → out_of_order_lem t q r ≡ false → out_of_order_lem t p r ≡ false
unfolding out_of_order_lem
out_of_order_trans true p q r a b =
    let x = ltb-false p q a in
    let y = ltb-false q r b in
    le-ltb p r (omega arith)
out_of_order_trans false p q r a b =
    let x = ltb-false q p a in
    let y = ltb-false r q b in
    le-ltb r p (omega arith)

pub order_same : (sd p : ℕ) → out_of_order sd p p ≡ false
unfolding out_of_order out_of_order_lem
order_same sd p = out_of_order_same (eqb sd 1) p

pub order_trans : (sd p q r : ℕ) → out_of_order sd p q ≡ false → out_of_order sd q r ≡ false → out_of_order sd p r ≡ false
unfolding out_of_order out_of_order_lem
order_trans sd p q r a b = out_of_order_trans (eqb sd 1) p q r a b

-- n prices of which each is in order after the one before
pub order_places : (sd n : ℕ) (pr : ℕ → ℕ) → ((j : ℕ) → suc j < n → out_of_order sd (pr j) (pr (suc j)) ≡ false) → (i j : ℕ) → i ≤ j → j < n → out_of_order sd (pr i) (pr j) ≡ false
order_places sd n pr h i zero l m = let e : i ≡ 0 = omega arith in rw e (order_same sd (pr 0))
order_places sd n pr h i (suc j) l m =
    let r = order_places sd n pr h i j in
    elim (dec_lt i (suc j)) [
      | yes k ↦ order_trans sd (pr i) (pr j) (pr (suc j)) (r (omega arith) (omega arith)) (h j m)
      | no g ↦ let e : i ≡ suc j = omega arith in rw e (order_same sd (pr (suc j)))
    ]

pub price_order : (w : List ℕ) → AcceptedLine w → (s u v : ℕ) → s < 5 → u ≤ v → out_of_order (side w) (price w s u) (price w s v) ≡ false
unfolding place_of
price_order w h s u v l m =
    let b = h.bids s l in
    let d = first_mono (bid_first w s u) (bid_first w s v) m in
    elim (dec_lt 0 (bid_count w s)) [
      | yes c ↦
          rw (← price_place w s u c, ← price_place w s v c)
          (order_places (side w) (bid_count w s) (bid_price w s) b.ordered (place_of w s u - 1) (place_of w s v - 1) (omega arith) (omega arith))
      | no c ↦ rw (price_none w s u (omega arith), price_none w s v (omega arith)) (order_same (side w) (last_price w (source w s)))
    ]

-- the steps' prices and flags, place by place
pub prices_length : (w : List ℕ) (s : ℕ) → length (prices w s) ≡ step_count w
unfolding prices step_count
prices_length w s = length-map (ends w) (price w s)

pub prices_at : (w : List ℕ) (s k : ℕ) → k < step_count w → get_or (prices w s) k 0 ≡ price w s (upper_end w k)
unfolding prices upper_end step_count
prices_at w s k b = map_at (price w s) (ends w) k b

pub flags_length : (w : List ℕ) (s : ℕ) → length (flags w s) ≡ step_count w
unfolding flags step_count
flags_length w s = length-map (ends w) (flag w s)

pub flags_at : (w : List ℕ) (s k : ℕ) → k < step_count w → get_or (flags w s) k 0 ≡ flag w s (upper_end w k)
unfolding flags upper_end step_count
flags_at w s k b = map_at (flag w s) (ends w) k b

pub flags_most : (w : List ℕ) (s k : ℕ) → get_or (flags w s) k 0 ≤ 1
flags_most w s k =
    let e = flags_length w s in
    elim (dec_lt k (step_count w)) [
      | yes l ↦ rw (flags_at w s k l) (flag_most w s (upper_end w k))
      | no g ↦ let z = get_or-eq_default (flags w s) 0 {n = k} (omega arith) in omega arith
    ]
