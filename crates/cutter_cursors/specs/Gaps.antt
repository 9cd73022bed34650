-- Laws of gaps: of the least of some numbers, of the break at a cursor, and that up to the least gap the cursors stay.
use Rattle.std.specs.Prelude.{◌≡◌, ℕ, zero, suc, ◌+◌, ◌-◌, ◌<◌, ◌≤◌, min, max, List}
use Rattle.std.proofs.Common.{arith, ◌∙◌, sym, ap, lt-ltb, le-ltb}
use Rattle.std.proofs.Math.Decide.{dec_lt}
use Rattle.rules.specs.Fold.{five}
use Rattle.rules.specs.Layout.{quantity_most, hedge, bid_count, bid_break}
use Rattle.rules.specs.Steps.{bid_step}
use Rattle.laws.specs.Folds.{at_five}
use Rattle.laws.specs.Accepted.{AcceptedBid}
use Rattle.cutter_cursors.specs.Search.{bid_first}
use Rattle.cutter_cursors.specs.Sweep.{SweepAt, place_of, sweep_of, far, gap_of, break_gap, least_to, next_gap}
use Rattle.cutter_cursors.specs.Places.{place_found, rises_next, step_stays, sweep_is}
use Rattle.cutter_cursors.specs.declared.cursors.Sweep.{Sweep}

-- a gap to a number above the end, and to another
pub gap_above : (x e : ℕ) → e < x → gap_of x e ≡ x - suc e
unfolding gap_of
gap_above x e l = rw (lt-ltb e x l)

gap_not : (x e : ℕ) → x ≤ e → e ≤ quantity_most → far ≤ gap_of x e
unfolding gap_of
gap_not x e l m = rw (le-ltb e x l) (omega arith)

pub gap_from : (x e k : ℕ) → e ≤ quantity_most → k ≤ far → (e < x → k ≤ x - suc e) → k ≤ gap_of x e
gap_from x e k m l f =
    elim (dec_lt e x) [
      | yes p ↦ let a = gap_above x e p in let b = f p in omega arith
      | no p ↦ let a = gap_not x e (omega arith) m in omega arith
    ]

-- the least of some numbers is at most each, and at least what all are
pub least_base : (h n : ℕ) (f : ℕ → ℕ) → least_to h n f ≤ h
unfolding least_to
least_base h zero f = omega arith
least_base h (suc n) f = let r = least_base h n f in omega arith

pub least_term : (h n : ℕ) (f : ℕ → ℕ) (i : ℕ) → i < n → least_to h n f ≤ f i
unfolding least_to
least_term h zero f i l = absurd (omega arith)
least_term h (suc n) f i l =
    let r = least_term h n f i in
    elim (dec_lt i n) [
      | yes k ↦ let a = r k in omega arith
      | no k ↦ let e : f i ≡ f n = ap f (omega arith) in omega arith
    ]

pub least_from_lem : (h n k : ℕ) (f : ℕ → ℕ) → k ≤ h → ((i : ℕ) → i < n → k ≤ f i) → k ≤ least_to h n f
unfolding least_to
least_from_lem h zero k f a b = a
least_from_lem h (suc n) k f a b =
    let r = least_from_lem h n k f a (λ i l. b i (omega arith)) in
    let c = b n (omega arith) in
    omega arith

-- breaks rise
rises_all : {w : List ℕ} {s : ℕ} → AcceptedBid w s → (i k : ℕ) → i ≤ k → k < bid_count w s → bid_break w s i ≤ bid_break w s k
rises_all b i zero l m = let e : i ≡ 0 = omega arith in rw e (omega arith)
rises_all {w} {s} b i (suc k) l m =
    let a = rises_next b k m in
    let r = rises_all b i k in
    elim (dec_lt i (suc k)) [
      | yes p ↦ let c = r (omega arith) (omega arith) in omega arith
      | no p ↦ let e : i ≡ suc k = omega arith in rw e (omega arith)
    ]

-- the break at the cursor
break_here : (w : List ℕ) (e s : ℕ) → bid_step w s (suc e) < bid_count w s → break_gap w e s ≡ bid_break w s (bid_step w s (suc e)) - suc e
unfolding break_gap
break_here w e s l =
    let r = (bid_first w s (suc e)).reached l in
    rw (place_found w s (suc e) l) (gap_above (bid_break w s (bid_step w s (suc e))) e (omega arith))

-- it is the least of its bid above e
pub break_gap_lem : {w : List ℕ} {s : ℕ} → AcceptedBid w s → (e j : ℕ) → j < bid_count w s → e < bid_break w s j → break_gap w e s ≤ bid_break w s j - suc e
break_gap_lem {w} {s} b e j m a =
    let f = bid_first w s (suc e) in
    let i = bid_step w s (suc e) in
    let d : i ≤ j = elim (dec_lt j i) [ yes k ↦ let p = f.passed j k in absurd (omega arith) | no k ↦ omega arith ] in
    let g = break_here w e s (omega arith) in
    let t = rises_all b i j d m in
    omega arith

-- at an end no further than the gap the cursor stands where it is
place_stays : (w : List ℕ) (e g s : ℕ) → g ≤ break_gap w e s → place_of w s (suc e) ≡ place_of w s (e + 1 + g)
unfolding place_of
place_stays w e g s l =
    let t : bid_step w s (suc e) < bid_count w s → e + 1 + g ≤ bid_break w s (bid_step w s (suc e)) =
    λ j.
    let r = (bid_first w s (suc e)).reached j in
    let q = break_here w e s j in
    omega arith
    in
    ap (λ (j : ℕ). max 1 (min (suc j) (bid_count w s))) (sym (step_stays w s (suc e) (e + 1 + g) (omega arith) t))

sweep_same : (w : List ℕ) (e : ℕ) → sweep_of w (suc e) ≡ sweep_of w (e + 1 + next_gap w e)
unfolding sweep_of next_gap
sweep_same w e =
    sweep_is w (e + 1 + next_gap w e) {l = five (λ s. place_of w s (suc e))} (omega arith)
    (λ s l. at_five (λ r. place_of w r (suc e)) 0 s l ∙ place_stays w e (next_gap w e) s (least_term (gap_of (hedge w) e) 5 (break_gap w e) s l))

-- so at the next end all five do
pub sweep_stays : {w : List ℕ} {places : Sweep} (e : ℕ) {g : ℕ} → SweepAt w places (suc e) → g ≡ next_gap w e → SweepAt w places (e + 1 + g)
sweep_stays {w} e h q = rw q (record { line = h.line; above = omega arith; same = h.same ∙ sweep_same w e })
