-- The least gap from an end is that to the next end, by what makes a number an end.
use Prim.Native.Nat.{ℕ, zero, suc, ◌+◌, ◌-◌, ◌≤◌, ◌<◌}
use native.Mathlib.Omega.{arith}
use native.Mathlib.Decide.{dec_lt}
use mathlib.Core.Path.{◌≡◌, refl}
use mathlib.Core.List.{List}
use lib.ListN.{get_or}
use Rattle.rules.specs.Layout.{quantity_most, hedge, bid_count, bid_break}
use Rattle.rules.specs.Steps.{ends, step_count, upper_end, lower_end}
use Rattle.laws.specs.Accepted.{AcceptedLine}
use Rattle.cutter_cursors.specs.Sweep.{place_of, far, gap_of, break_gap, next_gap}
use Rattle.cutter_cursors.specs.Places.{most_limit, place_below, break_pulled}
use Rattle.cutter_cursors.specs.Gaps.{gap_above, gap_from, least_base, least_term, least_from_lem, break_gap_lem}
use Rattle.cutter.specs.Lists.{in_at, place_of_lem, rises_at, rises_mono}
use Rattle.cutter.specs.Ends.{EndOf, of_break, of_hedge, end_of, of_end, end_most, ends_rise}

module _ (w : List ℕ) (h : AcceptedLine w) where
  -- the least gap is at most that to any end above e, and at least what those to all of them are
  gap_most : (e z : ℕ) → EndOf w z → e < z → next_gap w e ≤ z - suc e
  unfolding next_gap
  gap_most e z (of_break s j l m q) a =
      let b = break_gap_lem (h.bids s l) e j m (omega arith) in
      let t = least_term (gap_of (hedge w) e) 5 (break_gap w e) s l in
      omega arith
  gap_most e z (of_hedge p q) a =
      let b = gap_above (hedge w) e (omega arith) in
      let t = least_base (gap_of (hedge w) e) 5 (break_gap w e) in
      omega arith

  -- the break at a cursor, where it is above e, is an end
  place_end : (e s : ℕ) → s < 5 → e < bid_break w s (place_of w s (suc e) - 1) → EndOf w (bid_break w s (place_of w s (suc e) - 1))
  place_end e s l a =
      elim (dec_lt 0 (bid_count w s)) [
        | yes c ↦ of_break s (place_of w s (suc e) - 1) l (place_below w s (suc e) c) refl
        | no c ↦ let z = break_pulled (h.bids s l) (suc e) (omega arith) in absurd (omega arith)
      ]

  gap_least : (e k : ℕ) → e ≤ quantity_most → k ≤ far → ((z : ℕ) → EndOf w z → e < z → k ≤ z - suc e) → k ≤ next_gap w e
  unfolding next_gap break_gap
  gap_least e k m l f =
      least_from_lem (gap_of (hedge w) e) 5 k (break_gap w e)
      (gap_from (hedge w) e k m l (λ a. f (hedge w) (of_hedge (omega arith) refl) a))
      (λ s p.
      let b = bid_break w s (place_of w s (suc e) - 1) in
      gap_from b e k m l (λ a. f b (place_end e s p a) a))

  -- an end above the lower end of step n is at least its upper end
  next_end : (n z : ℕ) → n ≤ step_count w → EndOf w z → lower_end w n < z → (n < step_count w) × (upper_end w n ≤ z)
  unfolding step_count upper_end lower_end
  next_end zero z l e a =
      let p = place_of_lem (of_end w z e) in
      let b = p.below in
      let c = p.same in
      let m = rises_mono (ends_rise w h) 0 p.place (omega arith) b in
      (omega arith, omega arith)
  next_end (suc n) z l e a =
      let p = place_of_lem (of_end w z e) in
      let b = p.below in
      let c = p.same in
      elim (dec_lt n p.place) [
        | yes k ↦ let m = rises_mono (ends_rise w h) (suc n) p.place k b in (omega arith, omega arith)
        | no k ↦ let m = rises_mono (ends_rise w h) p.place n (omega arith) l in absurd (omega arith)
      ]

  end_at_lem : (n : ℕ) → n < step_count w → EndOf w (upper_end w n)
  unfolding step_count upper_end
  end_at_lem n l = end_of w (get_or (ends w) n 0) (in_at (ends w) n l)

  pub end_limit : (n : ℕ) → n < step_count w → upper_end w n ≤ quantity_most
  end_limit n l =
      let a = end_most w h (upper_end w n) (end_at_lem n l) in
      let b = most_limit w h in
      omega arith

  end_rises : (n : ℕ) → n < step_count w → lower_end w n < upper_end w n
  unfolding step_count lower_end upper_end
  end_rises n l = rises_at (ends_rise w h) n l

  pub lower_limit : (n : ℕ) → n ≤ step_count w → lower_end w n ≤ quantity_most
  unfolding lower_end
  lower_limit zero l = omega arith
  lower_limit (suc n) l = unfold upper_end in end_limit n l

  -- the gap after n steps is to the next end, or there is none
  pub next_is : (n : ℕ) → n ≤ step_count w → next_gap w (lower_end w n) < far → (n < step_count w) × (lower_end w n + 1 + next_gap w (lower_end w n) ≡ upper_end w n)
  next_is n l t =
      let m = lower_limit n l in
      elim (dec_lt n (step_count w)) [
        | yes k ↦
            let r = end_rises n k in
            let x = end_limit n k in
            let a = gap_most (lower_end w n) (upper_end w n) (end_at_lem n k) r in
            let b = gap_least (lower_end w n) (upper_end w n - suc (lower_end w n)) m (omega arith) (λ z e y. let q = (next_end n z l e y).1 in omega arith) in
            (k, omega arith)
        | no k ↦
            let b = gap_least (lower_end w n) far m (omega arith) (λ z e y. let q = (next_end n z l e y).0 in absurd (omega arith)) in
            absurd (omega arith)
      ]

  pub next_none : (n : ℕ) → n ≤ step_count w → far ≤ next_gap w (lower_end w n) → n ≡ step_count w
  next_none n l t =
      elim (dec_lt n (step_count w)) [
        | yes k ↦
            let x = end_limit n k in
            let a = gap_most (lower_end w n) (upper_end w n) (end_at_lem n k) (end_rises n k) in
            absurd (omega arith)
        | no k ↦ omega arith
      ]
