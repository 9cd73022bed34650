-- Laws of where a cursor stands, from what acceptance says of the bid.
use Rattle.std.specs.Prelude.{◌≡◌, ℕ, suc, ◌+◌, ◌-◌, ◌<◌, ◌≤◌, List, [], ◌∷◌, length, get_or, ◌==◌}
use native.Mathlib.Omega.{arith}
use Rattle.std.proofs.Math.Decide.{dec_lt}
use Rattle.std.proofs.Math.Path.{refl}
use Rattle.std.proofs.Common.{◌∙◌, ap, subst, eq-eqb, ne_eqb}
use Rattle.rules.specs.Fold.{before, five, at}
use Rattle.rules.specs.Layout.{quantity_most, hedge, bid_count, bid_break}
use Rattle.rules.specs.Steps.{bid_step, bid_most, greatest_break}
use Rattle.rules.specs.Payments.{bit}
use Rattle.laws.specs.Folds.{most_least, at_five, same_five}
use Rattle.laws.specs.Accepted.{AcceptedBid, AcceptedLine}
use Rattle.cutter_cursors.specs.Search.{First, bid_first, step_is, first_stays, first_moves}
use Rattle.cutter_cursors.specs.Sweep.{Line, Standing, SweepAt, place_of, sweep_of, first_places}
use Rattle.cutter_cursors.specs.declared.cursors.Sweep.{Sweep}

-- M is the least number that every break is at most, so it is within the limit, and the hedge with it
pub most_of : (w : List ℕ) (m : ℕ) → ((s j : ℕ) → s < 5 → j < bid_count w s → bid_break w s j ≤ m) → greatest_break w ≤ m
unfolding greatest_break bid_most
most_of w m h = most_least 5 m (bid_most w) (λ s a. most_least (bid_count w s) m (bid_break w s) (λ j b. h s j a b))

pub most_limit : (w : List ℕ) → AcceptedLine w → greatest_break w ≤ quantity_most
most_limit w h = most_of w quantity_most (λ s j a b. (h.bids s a).break_most j b)

pub hedge_limit : {w : List ℕ} → Line w → hedge w ≤ quantity_most
hedge_limit {w} h =
    let a = h.accepted.hedge_most in
    let b = most_limit w h.accepted in
    omega arith

-- the first bid step whose break is at least u, or the last
pub place_found : (w : List ℕ) (s u : ℕ) → bid_step w s u < bid_count w s → place_of w s u - 1 ≡ bid_step w s u
unfolding place_of
place_found w s u l = omega arith

pub place_none : (w : List ℕ) (s u : ℕ) → bid_count w s ≤ bid_step w s u → place_of w s u - 1 ≡ bid_count w s - 1
unfolding place_of
place_none w s u l = omega arith

-- a step of the bid, where it has any
pub place_below : (w : List ℕ) (s u : ℕ) → 0 < bid_count w s → place_of w s u - 1 < bid_count w s
unfolding place_of
place_below w s u c = omega arith

-- of a pulled bid the first slot, whose break is 0
pub place_pulled : (w : List ℕ) (s u : ℕ) → bid_count w s ≡ 0 → place_of w s u - 1 ≡ 0
unfolding place_of
place_pulled w s u e = omega arith

pub break_pulled : {w : List ℕ} {s : ℕ} → AcceptedBid w s → (u : ℕ) → bid_count w s ≡ 0 → bid_break w s (place_of w s u - 1) ≡ 0
break_pulled {w} {s} b u e =
    let p = place_pulled w s u e in
    ap (bid_break w s) (omega arith) ∙ b.unused_break 0 (omega arith)

module _ {w : List ℕ} {s at u : ℕ} (h : Standing w s at u) where
  pub of_bid : AcceptedBid w s
  of_bid = h.line.accepted.bids s h.schedule

  -- it is a slot of the bid, counted from 1
  pub place_least : 0 < at
  unfolding place_of
  place_least = let p = h.place in omega arith

  pub place_most : at ≤ 11
  unfolding place_of
  place_most = let p = h.place in let c = of_bid.count_most in omega arith

  -- whose words can be read
  pub place_read : (length w ≡ 660) × (s < 5) × (at - 1 < 11)
  place_read = let a = place_least in let b = place_most in (h.line.long, h.schedule, omega arith)

-- of five cursors each
pub standing : {w : List ℕ} {places : Sweep} {u : ℕ} → SweepAt w places u → {s : ℕ} → s < 5 → Standing w s (at places.at s) u
unfolding sweep_of
standing {w} {places} {u} h {s} l =
    record {
      line = h.line;
      schedule = l;
      above = h.above;
      place = ap (λ (z : Sweep). at z.at s) h.same ∙ at_five (λ r. place_of w r u) 0 s l;
    }

-- a list of five values, from each
pub five_of : {A : Type 0} (d : A) (f : ℕ → A) (l : List A) → length l ≡ 5 → ((s : ℕ) → s < 5 → get_or l s d ≡ f s) → l ≡ five f
five_of z f [] e h = absurd (omega arith)
five_of z f (a ∷ []) e h = absurd (omega arith)
five_of z f (a ∷ b ∷ []) e h = absurd (omega arith)
five_of z f (a ∷ b ∷ c ∷ []) e h = absurd (omega arith)
five_of z f (a ∷ b ∷ c ∷ d ∷ []) e h = absurd (omega arith)
five_of z f (a ∷ b ∷ c ∷ d ∷ g ∷ []) e h = same_five (h 0 (omega arith)) (h 1 (omega arith)) (h 2 (omega arith)) (h 3 (omega arith)) (h 4 (omega arith))
five_of z f (a ∷ b ∷ c ∷ d ∷ g ∷ x ∷ l) e h = absurd (omega arith)

-- five places that are those at a step which ends at u
pub sweep_is : (w : List ℕ) (u : ℕ) {l : List ℕ} → length l ≡ 5 → ((s : ℕ) → s < 5 → at l s ≡ place_of w s u) → ◌≡◌ {A = Sweep} (record { at = l }) (sweep_of w u)
unfolding sweep_of
sweep_is w u {l} e h = ap (λ (z : List ℕ). record { at = z }) (five_of 0 (λ s. place_of w s u) l e h)

-- breaks rise
pub rises_next : {w : List ℕ} {s : ℕ} → AcceptedBid w s → (k : ℕ) → suc k < bid_count w s → bid_break w s k < bid_break w s (suc k)
unfolding before
rises_next b k l = b.rises (suc k) l

-- up to its own break the step stays
pub step_stays : (w : List ℕ) (s v u : ℕ) → v ≤ u → (bid_step w s v < bid_count w s → u ≤ bid_break w s (bid_step w s v)) → bid_step w s u ≡ bid_step w s v
unfolding bid_step
step_stays w s v u a b = step_is (first_stays (bid_first w s v) u a b)

-- past it, it is the next
step_moves : {w : List ℕ} {s : ℕ} (b : AcceptedBid w s) (u : ℕ) → bid_step w s u < bid_count w s → bid_break w s (bid_step w s u) ≡ u → bid_step w s (suc u) ≡ suc (bid_step w s u)
unfolding bid_step
step_moves {w} {s} b u l q =
    let f = bid_first w s u in
    step_is (subst (λ (x : ℕ). First (bid_break w s) (suc x) (bid_count w s) (suc (bid_step w s u))) q (first_moves f l (f.reached l) (rises_next b)))

pub step_after : {w : List ℕ} {s : ℕ} (b : AcceptedBid w s) (u : ℕ) → bid_step w s u < bid_count w s
    → bid_step w s (suc u) ≡ bid_step w s u + bit (bid_break w s (bid_step w s u) == u)
step_after {w} {s} b u l =
    let r = (bid_first w s u).reached l in
    elim (dec_lt u (bid_break w s (bid_step w s u))) [
      | yes k ↦
          let z = step_stays w s u (suc u) (omega arith) (λ j. k) in
          rw (ne_eqb (bid_break w s (bid_step w s u)) u (λ q. omega arith)) (omega arith)
      | no k ↦
          let z = step_moves b u l (omega arith) in
          rw (eq-eqb (bid_break w s (bid_step w s u)) u (omega arith)) (omega arith)
    ]

-- before the first end a cursor stands at its bid's first slot
first_place : {w : List ℕ} {s : ℕ} → AcceptedBid w s → 1 ≡ place_of w s 1
unfolding place_of bid_step before
first_place {w} {s} b =
    let f : First (bid_break w s) 1 (bid_count w s) 0 = record { within = omega arith; passed = λ k m. absurd (omega arith); reached = λ m. b.rises 0 m } in
    let e = step_is f in
    omega arith

pub first_places_lem : {w : List ℕ} → Line w → first_places ≡ sweep_of w 1
unfolding first_places
first_places_lem {w} h = sweep_is w 1 refl (λ s l. at_five (λ r. 1) 0 s l ∙ first_place (h.accepted.bids s l))
