-- Laws of a line's upper ends, from what its acceptance says of the bids and the hedge.
use Rattle.std.specs.Prelude.{ℕ, zero, suc, ◌*◌, ◌-◌, ◌≤◌, ◌<◌, ◌≡◌, refl, cond, List, [], ◌∷◌, ◌++◌, length, get_or, eqb}
use native.Mathlib.Omega.{arith}
use Rattle.std.proofs.Common.{suc-mul, sym, subst, ⊎_elim, length-append, ne_eqb}
use Rattle.rules.specs.Fold.{joined, list_to}
use Rattle.rules.specs.Layout.{hedge, bid_count, bid_break}
use Rattle.rules.specs.Steps.{ends, hedge_point, bid_breaks, step_count, upper_end, greatest_break, bid_most}
use Rattle.laws.specs.Folds.{joined_none, joined_suc, list_length, most_term}
use Rattle.laws.specs.Accepted.{AcceptedLine}
pub use Rattle.cutter_cursors.specs.Places.{most_of, most_limit}
use Rattle.cutter.specs.Lists.{◌∈◌, here, in_cons, in_none, in_left, in_right, in_append, in_at, place_of_lem}
use Rattle.cutter.specs.Lists.{in_list, list_in, in_joined, joined_in, in_rising, rising_in}
use Rattle.cutter.specs.Lists.{Rises, rises_rising, rising_length, rises_mono}

-- "every distinct break of the five bids and .. the hedge if that isn't 0": what makes u an upper end
pub data EndOf (w : List ℕ) (u : ℕ) : Type 0 where
  of_break : (s j : ℕ) → s < 5 → j < bid_count w s → u ≡ bid_break w s j → EndOf w u
  of_hedge : 0 < hedge w → u ≡ hedge w → EndOf w u

-- the hedge as a list of one or none
abbrev pub unless_zero : ℕ → List ℕ
unless_zero h = cond (eqb h 0) [] (h ∷ [])

unless_some : (h : ℕ) → 0 < h → unless_zero h ≡ h ∷ []
unless_some h p = rw (ne_eqb h 0 (λ e. omega arith))

unless_in : (h : ℕ) {u : ℕ} → u ∈ unless_zero h → (0 < h) × (u ≡ h)
unless_in zero m = absurd (in_none m)
unless_in (suc h) m =
    ⊎_elim (λ e. (omega arith, e)) (λ n. absurd (in_none n)) (in_cons (rw (unless_some (suc h) (omega arith)) at m))

in_unless : (h : ℕ) → 0 < h → h ∈ unless_zero h
in_unless h p = rw (unless_some h p) (here refl)

unless_length : (h : ℕ) → length (unless_zero h) ≤ 1
unless_length zero = omega arith
unless_length (suc h) = rw (unless_some (suc h) (omega arith)) (omega arith)

-- an upper end is one of those, and each of those is an upper end
pub end_of : (w : List ℕ) (u : ℕ) → u ∈ ends w → EndOf w u
unfolding ends hedge_point bid_breaks
end_of w u m =
    ⊎_elim
    (λ a. let p = unless_in (hedge w) a in of_hedge p.0 p.1)
    (λ b.
    let p = joined_in 5 (bid_breaks w) b in
    let q = list_in (bid_count w p.place) (bid_break w p.place) p.stands in
    of_break p.place q.place p.below q.below q.same)
    (in_append (hedge_point w) (rising_in (hedge_point w ++ joined 5 (bid_breaks w)) m))

pub of_end : (w : List ℕ) (u : ℕ) → EndOf w u → u ∈ ends w
unfolding ends hedge_point bid_breaks
of_end w u (of_break s j a b e) =
    in_rising (hedge_point w ++ joined 5 (bid_breaks w))
    (in_right (hedge_point w)
    (in_joined 5 (bid_breaks w) s a
    (subst (λ (x : ℕ). x ∈ list_to (bid_count w s) (bid_break w s)) (sym e) (in_list (bid_count w s) (bid_break w s) j b))))
of_end w u (of_hedge p e) =
    in_rising (hedge_point w ++ joined 5 (bid_breaks w))
    (in_left (joined 5 (bid_breaks w)) (subst (λ (x : ℕ). x ∈ unless_zero (hedge w)) (sym e) (in_unless (hedge w) p)))

-- each is above 0, at most M, and at most the limit
pub end_above : (w : List ℕ) → AcceptedLine w → (u : ℕ) → EndOf w u → 0 < u
end_above w h u (of_break s j a b e) = let c = (h.bids s a).rises j b in omega arith
end_above w h u (of_hedge p e) = omega arith

break_most : (w : List ℕ) (s j : ℕ) → s < 5 → j < bid_count w s → bid_break w s j ≤ greatest_break w
unfolding greatest_break bid_most
break_most w s j a b =
    let p = most_term (bid_count w s) (bid_break w s) j b in
    let q = most_term 5 (bid_most w) s a in
    omega arith

pub end_most : (w : List ℕ) → AcceptedLine w → (u : ℕ) → EndOf w u → u ≤ greatest_break w
end_most w h u (of_break s j a b e) = let c = break_most w s j a b in omega arith
end_most w h u (of_hedge p e) = let c = h.hedge_most in omega arith

pub ends_rise : (w : List ℕ) → AcceptedLine w → Rises 0 (ends w)
unfolding ends
ends_rise w h =
    rises_rising 0 (hedge_point w ++ joined 5 (bid_breaks w))
    (λ z m. end_above w h z (end_of w z (in_rising (hedge_point w ++ joined 5 (bid_breaks w)) m)))

-- "at most 56"
joined_most : (n k : ℕ) (f : ℕ → List ℕ) → ((i : ℕ) → i < n → length (f i) ≤ k) → length (joined n f) ≤ n * k
joined_most zero k f h = rw (joined_none f) (omega arith)
joined_most (suc n) k f h =
    let r = joined_most n k f (λ i l. h i (omega arith)) in
    let e = h n (omega arith) in
    rw (joined_suc n f, length-append, suc-mul n k) (omega arith)

pub count_most : (w : List ℕ) → AcceptedLine w → step_count w ≤ 56
unfolding step_count ends hedge_point
count_most w h =
    let a = rising_length (hedge_point w ++ joined 5 (bid_breaks w)) in
    let b = length-append (hedge_point w) (joined 5 (bid_breaks w)) in
    let c = unless_length (hedge w) in
    let d = joined_most 5 11 (bid_breaks w) (λ s l. unfold bid_breaks in rw (list_length (bid_count w s) (bid_break w s)) (h.bids s l).count_most) in
    omega arith

-- there is a step
pub count_some : (w : List ℕ) → AcceptedLine w → 0 < step_count w
unfolding step_count
count_some w h =
    let p = place_of_lem (of_end w (bid_break w 0 0) (of_break 0 0 (omega arith) ((h.bids 0 (omega arith)).count_first refl) refl)) in
    let a = p.below in
    omega arith

-- every end is at most the last
pub end_last : (w : List ℕ) → AcceptedLine w → (u : ℕ) → EndOf w u → u ≤ upper_end w (step_count w - 1)
unfolding step_count upper_end
end_last w h u e =
    let p = place_of_lem (of_end w u e) in
    let b = p.below in
    let s = p.same in
    let m = rises_mono (ends_rise w h) p.place (length (ends w) - 1) (omega arith) (omega arith) in
    omega arith

-- "the last is M"
pub last_is : (w : List ℕ) → AcceptedLine w → upper_end w (step_count w - 1) ≡ greatest_break w
unfolding step_count upper_end
last_is w h =
    let c = count_some w h in
    let a = most_of w (upper_end w (step_count w - 1)) (λ s j p q. end_last w h (bid_break w s j) (of_break s j p q refl)) in
    let b = end_most w h (get_or (ends w) (length (ends w) - 1) 0) (end_of w (get_or (ends w) (length (ends w) - 1) 0) (in_at (ends w) (length (ends w) - 1) (omega arith))) in
    omega arith
