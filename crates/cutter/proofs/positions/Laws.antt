-- Where the sweep stands before the first step, after one more, and after the last.
use Prim.Native.Nat.{ℕ, ◌+◌, ◌≤◌, ◌<◌}
use native.Mathlib.Numerals.{add-one}
use native.Mathlib.Omega.{arith}
use mathlib.Core.Path.{◌≡◌, refl, sym, ◌∙◌}
use mathlib.Core.Bool.{Bool, true, false, ◌&&◌, false≢true}
use mathlib.Core.List.{List}
use lib.Dec.{ltb, leb}
use native.Mathlib.Decide.{dec_lt}
use borrow.Author.Tests.{ltb-true, ltb-false, leb-true, leb-false}
use Rattle.rules.specs.Layout.{quantity_most}
use Rattle.rules.specs.Steps.{step_count, upper_end, lower_end}
use Rattle.cutter_cursors.specs.Sweep.{Line, SweepAt, first_places, far, next_gap}
use Rattle.cutter_cursors.specs.Places.{first_places_lem}
use Rattle.cutter_cursors.specs.declared.cursors.Sweep.{Sweep}
use Rattle.cutter.specs.Ends.{count_most}
use Rattle.cutter.specs.Positions.{SweptTo}
use Rattle.cutter.proofs.steps.Next.{end_limit, lower_limit, next_is, next_none}

pub sweep_first : {w : List ℕ} {at : Sweep} → Line w → at ≡ first_places → SweepAt w at 1
sweep_first h e = record { line = h; above = omega arith; same = e ∙ first_places_lem h }

pub swept_first : (w : List ℕ) (at : Sweep) (g : ℕ) → g ≡ next_gap w 0 → SweepAt w at (0 + 1 + g) → SweptTo w 0 at 0 g
swept_first w at g a b = record { within = omega arith; last = unfold lower_end in refl; here = b; gap = a }

module _ {w : List ℕ} {n : ℕ} {at : Sweep} {e g : ℕ} (v : SweptTo w n at e g) where
  pub lower_most : e ≤ quantity_most
  lower_most = rw v.last (lower_limit w v.here.line.accepted n v.within)

  -- the next step, which ends at e + 1 + g
  module _ (t : g < far) where
    next : (n < step_count w) × (e + 1 + g ≡ upper_end w n)
    next = rw (v.gap, v.last) (next_is w v.here.line.accepted n v.within (rw (v.gap, v.last) at t))

    pub below_count : n < step_count w
    below_count = next.0

    pub end_is : e + 1 + g ≡ upper_end w n
    end_is = next.1

    pub room : n < 56
    room = omega (arith, below_count, count_most w v.here.line.accepted)

    pub limit : e + 1 + g ≤ quantity_most
    limit = omega (arith, end_limit w v.here.line.accepted n below_count, end_is)

    pub swept_on : {at' : Sweep} {g' x : ℕ} → x ≡ e + 1 + g → g' ≡ next_gap w x → SweepAt w at' (x + 1 + g') → SweptTo w (n + 1) at' x g'
    swept_on i s r =
        rw (add-one n)
        (record { within = below_count; last = i ∙ (unfold lower_end upper_end in end_is); here = r; gap = s })

    pub swept_next : {at' : Sweep} {g' : ℕ} → g' ≡ next_gap w (e + 1 + g) → SweepAt w at' (e + 1 + g + 1 + g') → SweptTo w (n + 1) at' (e + 1 + g) g'
    swept_next s r = swept_on refl s r

  -- after the last
  pub swept_end : far ≤ g → n ≡ step_count w
  swept_end t = next_none w v.here.line.accepted n v.within (rw (v.gap, v.last) at t)

-- whether there is a next step, and it ends at or below u
ends_by_is : (a b : Bool) (g x u : ℕ) → ltb g far ≡ a → leb x u ≡ b → true ≡ a && b → (g < far) × (x ≤ u)
ends_by_is true true g x u e f h = (ltb-true g far e, leb-true x u f)
ends_by_is true false g x u e f h = absurd (false≢true (sym h))
ends_by_is false b g x u e f h = absurd (false≢true (sym h))

ends_past_is : (a b : Bool) (g x u : ℕ) → ltb g far ≡ a → leb x u ≡ b → false ≡ a && b → g < far → u < x
ends_past_is true true g x u e f h t = absurd (false≢true h)
ends_past_is true false g x u e f h t = leb-false x u f
ends_past_is false b g x u e f h t = absurd (omega (arith, ltb-false g far e))

module _ (e g u : ℕ) where
  pub ends_by : true ≡ (ltb g far && leb (e + 1 + g) u) → (g < far) × (e + 1 + g ≤ u)
  ends_by h = ends_by_is (ltb g far) (leb (e + 1 + g) u) g (e + 1 + g) u refl refl h

  pub ends_past : false ≡ (ltb g far && leb (e + 1 + g) u) → g < far → u < e + 1 + g
  ends_past h = ends_past_is (ltb g far) (leb (e + 1 + g) u) g (e + 1 + g) u refl refl h

-- the steps from p on that end at or below u, with one more
pub below_next : (w : List ℕ) (n p u : ℕ) {x : ℕ} → ((i : ℕ) → p ≤ i → i < n → upper_end w i ≤ u) → x ≡ upper_end w n → x ≤ u → (i : ℕ) → p ≤ i → i < n + 1 → upper_end w i ≤ u
below_next w n p u f e m i a b =
    elim (dec_lt i n) [
      | yes l ↦ f i a l
      | no l ↦ let q : i ≡ n = omega arith in rw (q, ← e) m
    ]
