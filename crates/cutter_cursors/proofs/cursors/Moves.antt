-- What each move of the sweep gives, as its proof wants it: from the callees' results to the definition of the contract.
use Rattle.std.proofs.Common.{◌≡◌, ℕ, suc, ◌+◌, ◌-◌, ◌%◌, ◌<◌, ◌≤◌, min, Bool, true, false, eqb, List, sym, refl, ap, ◌∙◌, arith, le-ltb, lt-ltb, ne_eqb}
use native.Mathlib.Decide.{dec_lt}
use mir.Val.{bool_byte}
use Rattle.rules.specs.Fold.{five, at}
use Rattle.rules.specs.Layout.{quantity_most, hedge, bid_count, bid_break}
use Rattle.rules.specs.Steps.{bid_step}
use Rattle.rules.specs.Payments.{bit}
use Rattle.cutter_cursors.specs.Search.{bid_first, first_mono, bit_is}
use Rattle.cutter_cursors.specs.Sweep.{Standing, past, place_of, stop_of, gap_of, break_gap, least_to, next_gap}
use Rattle.cutter_cursors.specs.Places.{of_bid, place_below, break_pulled, step_after}

-- a test as a number
bit_ne : (a b : ℕ) → (a ≡ b → ⊥) → 0 ≡ bit (eqb a b)
bit_ne a b e = rw (ne_eqb a b e)

pub bit_most : (t : Bool) → bool_byte t ≤ 1
bit_most true = omega arith
bit_most false = omega arith

-- the break at which a cursor moves on
pub stop_more : (w : List ℕ) (s at : ℕ) {n b : ℕ} → n ≡ bid_count w s → at < n → b ≡ bid_break w s (at - 1) → b ≡ stop_of w s at
unfolding stop_of
stop_more w s at e l f = rw (lt-ltb at (bid_count w s) (omega arith)) f

pub stop_last : (w : List ℕ) (s at : ℕ) {n : ℕ} → n ≡ bid_count w s → n ≤ at → past ≡ stop_of w s at
unfolding stop_of
stop_last w s at e l = rw (le-ltb at (bid_count w s) (omega arith))

-- and where it stands then
pub moved_is : {w : List ℕ} {s at u k m : ℕ} → Standing w s at u → u < past → k ≡ stop_of w s at → m ≡ bool_byte (eqb k u) → at + m ≡ place_of w s (suc u)
unfolding place_of
moved_is {w} {s} {at} {u} {k} {m} h l f e =
    let p = h.place in
    let b = bit_most (eqb k u) in
    let d = e ∙ bit_is (eqb k u) in
    elim (dec_lt (suc (bid_step w s u)) (bid_count w s)) [
      | yes j ↦
          let q : bid_step w s u ≡ at - 1 = omega arith in
          let z = f ∙ sym (stop_more w s at refl (omega arith) (ap (bid_break w s) q)) in
          let a = step_after (of_bid h) u (omega arith) in
          let y = d ∙ ap (λ (x : ℕ). bit (eqb x u)) z in
          omega arith
      | no j ↦
          let z = stop_last w s at refl (omega arith) in
          let y = bit_ne k u (λ x. omega arith) in
          let a = first_mono (bid_first w s u) (bid_first w s (suc u)) (omega arith) in
          omega arith
    ]

-- gaps
pub gap_is : (x e b r : ℕ) → x ≤ quantity_most → e ≤ quantity_most → b ≡ e + 1 → r < 4294967296 → (r + b) % 4294967296 ≡ x → r ≡ gap_of x e
unfolding gap_of
gap_is x e b r p q f l g =
    elim (dec_lt e x) [
      | yes k ↦ rw (lt-ltb e x k) (omega arith)
      | no k ↦ rw (le-ltb e x (omega arith)) (omega arith)
    ]

pub break_most : {w : List ℕ} {s at u b : ℕ} → Standing w s at u → b ≡ bid_break w s (at - 1) → b ≤ quantity_most
break_most {w} {s} {at} {u} h e =
    let p = ap (λ (x : ℕ). bid_break w s (x - 1)) h.place in
    elim (dec_lt 0 (bid_count w s)) [
      | yes c ↦ let m = (of_bid h).break_most (place_of w s u - 1) (place_below w s u c) in omega arith
      | no c ↦ let z = break_pulled (of_bid h) u (omega arith) in omega arith
    ]

pub break_gap_is : {w : List ℕ} {s at e b r : ℕ} → Standing w s at (suc e) → b ≡ bid_break w s (at - 1) → r ≡ gap_of b e → r ≡ break_gap w e s
unfolding break_gap
break_gap_is {w} {s} {at} {e} h f g = g ∙ ap (λ (x : ℕ). gap_of x e) (f ∙ ap (λ (x : ℕ). bid_break w s (x - 1)) h.place)

min_orders : (a b c d e h : ℕ) → min (min (min a b) (min c d)) (min e h) ≡ min (min (min (min (min h a) b) c) d) e
min_orders a b c d e h =
    let p : (x y z : ℕ) → min x (min y z) ≡ min (min x y) z = λ x y z. omega arith in
    let q : (y : ℕ) → min y (min e h) ≡ min (min h y) e = λ y. omega arith in
    rw (p (min a b) c d, q (min (min (min a b) c) d), p h (min (min a b) c) d, p h (min a b) c, p h a b)

pub next_is : (w : List ℕ) (x : ℕ) {l : List ℕ} {h g p q r m n : ℕ} → l ≡ five (break_gap w x) → p ≡ min (at l 0) (at l 1) → q ≡ min (at l 2) (at l 3)
    → r ≡ min p q → h ≡ hedge w → g ≡ gap_of h x → m ≡ min (at l 4) g → n ≡ min r m → n ≡ next_gap w x
unfolding next_gap least_to
next_is w x l p q r h g m n = rw (n, m, r, p, q, g, h, l) (min_orders _ _ _ _ _ _)
