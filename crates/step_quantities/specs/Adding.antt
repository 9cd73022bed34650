-- The steps' quantities and what no step takes add up to the totals: allocation over rising ends, then the steps of a line.
use Rattle.std.specs.Prelude.{ℕ, zero, suc, ◌+◌, ◌-◌, ◌≤◌, ◌<◌, min, ◌≡◌, List}
use native.Mathlib.Omega.{arith}
use Rattle.std.proofs.Math.Decide.{dec_lt}
use Rattle.std.proofs.Math.Path.{refl}
use Rattle.std.proofs.Common.{◌∙◌, ap}
use Rattle.rules.specs.Fold.{sum_to, five, at}
use Rattle.rules.specs.Layout.{line_at}
use Rattle.rules.specs.Steps.{greatest_break, step_count, upper_end, lower_end}
use Rattle.rules.specs.Quantities.{allocated, untaken, pricing_total}
use Rattle.rules.specs.InForce.{operating_total, effective_actual}
use Rattle.rules.specs.Payments.{operating_on, pricing_on, actual_on, excess_of, on_step}
use Rattle.rules.specs.Days.{step_of}
use Rattle.laws.specs.Folds.{sum_none, sum_suc, sum_le, sum_same, at_five}
use Rattle.step_quantities.specs.Bounds.{on_step_most}

-- q on the step from e j to e (j + 1)
unfoldable pub allocated_between : ℕ → (ℕ → ℕ) → ℕ → ℕ
allocated_between q e j = allocated q (e j) (e (suc j))

-- of rising ends each is at most the last
pub rising_le : (n : ℕ) (e : ℕ → ℕ) → ((j : ℕ) → j < n → e j ≤ e (suc j)) → (i : ℕ) → i ≤ n → e i ≤ e n
rising_le zero e h i k = let q : i ≡ 0 = omega arith in rw q (omega arith)
rising_le (suc n) e h i k =
    let r = rising_le n e (λ j l. h j (omega arith)) i in
    let t = h n (omega arith) in
    elim (dec_lt n i) [
      | yes l ↦ let q : i ≡ suc n = omega arith in rw q (omega arith)
      | no g ↦ omega (arith, r (omega arith))
    ]

-- over rising ends the steps' parts of q add up to what of it lies between the first end and the last
pub telescope : (q n : ℕ) (e : ℕ → ℕ) → ((j : ℕ) → j < n → e j ≤ e (suc j)) → sum_to n (allocated_between q e) ≡ min q (e n) - e 0
unfolding allocated_between allocated
telescope q zero e h = rw (sum_none (allocated_between q e)) (omega arith)
telescope q (suc n) e h =
    let r = telescope q n e (λ j l. h j (omega arith)) in
    let b = rising_le n e (λ j l. h j (omega arith)) 0 (omega arith) in
    let t = h n (omega arith) in
    rw (sum_suc n (allocated_between q e), r) (omega arith)

-- the ends of a line rise, and the last is M
pub record RisingEnds (w : List ℕ) : Type 0 where
  pub rising : (j : ℕ) → j < step_count w → lower_end w j ≤ upper_end w j
  pub last : lower_end w (step_count w) ≡ greatest_break w

-- an upper end is at most M
pub upper_most : (w : List ℕ) (j : ℕ) → RisingEnds w → j < step_count w → upper_end w j ≤ greatest_break w
unfolding lower_end upper_end
upper_most w j e h = omega (arith, rising_le (step_count w) (lower_end w) e.rising (suc j) h, e.last)

-- what the steps of the line take of a quantity, and what no step takes, add up to it
pub steps_add_up : (w : List ℕ) (q : ℕ) → RisingEnds w → sum_to (step_count w) (allocated_between q (lower_end w)) + untaken q (greatest_break w) ≡ q
unfolding lower_end upper_end untaken
steps_add_up w q e = rw (telescope q (step_count w) (lower_end w) e.rising) (omega (arith, e.last))

-- the total f s of schedule s on step j of the line w
unfoldable pub allocated_to : (ℕ → ℕ) → List ℕ → ℕ → ℕ → ℕ
allocated_to f w s j = allocated (at (five f) s) (lower_end w j) (upper_end w j)

totals_add_up : (f : ℕ → ℕ) (w : List ℕ) (s : ℕ) → s < 5 → RisingEnds w → sum_to (step_count w) (allocated_to f w s) + untaken (f s) (greatest_break w) ≡ f s
unfolding allocated_to allocated_between lower_end upper_end
totals_add_up f w s h e =
    ap (λ (n : ℕ). n + untaken (f s) (greatest_break w))
    (sum_same (step_count w) (allocated_to f w s) (allocated_between (f s) (lower_end w)) (λ j l. rw (at_five f 0 s h)))
    ∙ steps_add_up w (f s) e

-- the steps of line k of the day d
unfoldable pub step_operating : List ℕ → ℕ → ℕ → ℕ → ℕ
step_operating d k s j = operating_on (step_of d k j) s

unfoldable pub step_pricing : List ℕ → ℕ → ℕ → ℕ → ℕ
step_pricing d k s j = pricing_on (step_of d k j) s

unfoldable pub step_actual : List ℕ → ℕ → ℕ → ℕ
step_actual d k j = actual_on (step_of d k j)

unfoldable pub step_constrained : List ℕ → ℕ → ℕ → ℕ → ℕ
step_constrained d k s j = at (on_step (step_of d k j)) s

-- what no step takes of the totals f
untaken_row : (f : ℕ → ℕ) (m s : ℕ) → s < 5 → at (five (λ r. untaken (at (five f) r) m)) s ≡ untaken (f s) m
untaken_row f m s h = at_five (λ r. untaken (at (five f) r) m) 0 s h ∙ rw (at_five f 0 s h)

module _ (d : List ℕ) (k : ℕ) (e : RisingEnds (line_at d k)) where
  abbrev w : List ℕ
  w = line_at d k

  -- the excess of any step of the line is the line's
  pub excess_operating : (i s : ℕ) → s < 5 → at (excess_of (step_of d k i)).operating s ≡ untaken (operating_total d k s) (greatest_break w)
  unfolding excess_of step_of
  excess_operating i s h = untaken_row (operating_total d k) (greatest_break w) s h

  pub excess_pricing : (i s : ℕ) → s < 5 → at (excess_of (step_of d k i)).pricing s ≡ untaken (pricing_total w s) (greatest_break w)
  unfolding excess_of step_of
  excess_pricing i s h = untaken_row (pricing_total w) (greatest_break w) s h

  pub excess_actual : (i : ℕ) → (excess_of (step_of d k i)).actual ≡ untaken (effective_actual d k) (greatest_break w)
  unfolding excess_of step_of
  excess_actual i = refl

  -- with it the steps' operating quantities add up to the operating total, in each schedule
  pub operating_adds_up : (s : ℕ) → s < 5 → sum_to (step_count w) (step_operating d k s) + untaken (operating_total d k s) (greatest_break w) ≡ operating_total d k s
  unfolding step_operating operating_on step_of allocated_to
  operating_adds_up s h = totals_add_up (operating_total d k) w s h e

  -- the steps' pricing quantities to the pricing total
  pub pricing_adds_up : (s : ℕ) → s < 5 → sum_to (step_count w) (step_pricing d k s) + untaken (pricing_total w s) (greatest_break w) ≡ pricing_total w s
  unfolding step_pricing pricing_on step_of allocated_to
  pricing_adds_up s h = totals_add_up (pricing_total w) w s h e

  -- and the steps' parts of the effective actual to it
  pub actual_adds_up : sum_to (step_count w) (step_actual d k) + untaken (effective_actual d k) (greatest_break w) ≡ effective_actual d k
  unfolding step_actual actual_on step_of allocated_between lower_end upper_end
  actual_adds_up = steps_add_up w (effective_actual d k) e

  -- the steps' C add up to at most the operating total less its excess
  pub constrained_adds_up : (s : ℕ) → s < 5 → sum_to (step_count w) (step_constrained d k s) + untaken (operating_total d k s) (greatest_break w) ≤ operating_total d k s
  unfolding step_constrained step_operating
  constrained_adds_up s h =
      omega (
        arith,
        sum_le (step_count w) (step_constrained d k s) (step_operating d k s) (λ j l. on_step_most (step_of d k j) s h),
        operating_adds_up s h,
      )

  -- and so to at most M
  pub constrained_within : (s : ℕ) → s < 5 → sum_to (step_count w) (step_constrained d k s) ≤ greatest_break w
  unfolding untaken
  constrained_within s h = omega (arith, constrained_adds_up s h)
