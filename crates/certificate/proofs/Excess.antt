-- What no step takes is never constrained on and never paid: a step's figures, and a day's payments, are those of the quantities within M.
use Rattle.std.specs.Prelude.{ℕ, ◌≤◌, ◌<◌, min, ◌≡◌, List, eqb, ℤ, pos}
use Rattle.std.proofs.Common.{arith, ap}
use Rattle.std.proofs.Math.Bool.{false, cond, not}
use Rattle.rules.specs.Fold.{sum_to, sum_z, some_to, eqb_z, five, at}
use Rattle.rules.specs.Layout.{line_count, line_at, side}
use Rattle.rules.specs.Steps.{step_count}
use Rattle.rules.specs.Quantities.{allocated, untaken}
use Rattle.rules.specs.Matching.{rise, fall}
use Rattle.rules.specs.Payments.{operating_on, pricing_on, actual_on, excess_of, no_excess, agino_on, msiq_on, constrained_on, on_step, rate, revised_rate, is_paid, initial}
use Rattle.rules.specs.Payments.{given_back, initial_or, revised, modified, pooled_payment, is_pooled, final_payment, over_side, pool_total, pool_change, pool_base, pool_differs, pool_of, step_final, Pool}
use Rattle.rules.specs.Days.{step_of, settled_day}
use Rattle.rules.specs.Totals.{line_payment}
use Rattle.rules.specs.Viewing.{figures_of, view_of}
use Rattle.rules.specs.declared.Step.{Step}
use Rattle.laws.specs.Accepted.{AcceptedDay, accepted_line_at}
use Rattle.laws.specs.Folds.{sum_same, some_same, at_five}
use Rattle.numbers.specs.Fives.{five_same}
use Rattle.day_totals.specs.Sums.{sum_z_same}
use Rattle.step_inputs.specs.Ends.{upper_most}
use Rattle.certificate.specs.Within.{within_bid, day_within, without_excess}

-- the least of Q and M, on a step that ends at most at M
within : (q l u m : ℕ) → u ≤ m → allocated (min q m) l u ≡ allocated q l u
unfolding allocated
within q l u m h = omega arith

-- the same of a row of five totals
row_same : (q : List ℕ) (l u m : ℕ) → u ≤ m → five (λ s. allocated (at (five (λ r. min (at q r) m)) s) l u) ≡ five (λ s. allocated (at q s) l u)
row_same q l u m h =
    five_same (λ s. allocated (at (five (λ r. min (at q r) m)) s) l u) (λ s. allocated (at q s) l u)
    (λ s i. rw (at_five (λ r. min (at q r) m) 0 s i) (within (at q s) l u m h))

-- of min(Q, M) every step together takes all
none_over : (q m : ℕ) → untaken (min q m) m ≡ 0
unfolding untaken
none_over q m = omega arith

-- one step
module _ (x : Step) (h : x.upper ≤ x.most) where
  operating_same : five (operating_on (within_bid x)) ≡ five (operating_on x)
  unfolding operating_on
  operating_same = row_same x.operating x.lower x.upper x.most h

  pricing_same : five (pricing_on (within_bid x)) ≡ five (pricing_on x)
  unfolding pricing_on
  pricing_same = row_same x.pricing x.lower x.upper x.most h

  actual_same : actual_on (within_bid x) ≡ actual_on x
  unfolding actual_on
  actual_same = within x.actual x.lower x.upper x.most h

  agino_same : (s : ℕ) → agino_on (within_bid x) s ≡ agino_on x s
  unfolding agino_on
  agino_same s = rw (operating_same, actual_same)

  msiq_same : (s : ℕ) → msiq_on (within_bid x) s ≡ msiq_on x s
  unfolding msiq_on
  msiq_same s = rw pricing_same

  agino_five : five (agino_on (within_bid x)) ≡ five (agino_on x)
  agino_five = five_same (agino_on (within_bid x)) (agino_on x) (λ s l. agino_same s)

  msiq_five : five (msiq_on (within_bid x)) ≡ five (msiq_on x)
  msiq_five = five_same (msiq_on (within_bid x)) (msiq_on x) (λ s l. msiq_same s)

  -- C
  pub on_same : on_step (within_bid x) ≡ on_step x
  unfolding on_step constrained_on
  on_same = rw (operating_same, agino_five, msiq_five)

  -- the payments, which read the quantities by C alone
  pub initial_same : (s : ℕ) → initial (within_bid x) s ≡ initial x s
  unfolding initial is_paid rate
  initial_same s = rw on_same

  initial_or_same : (s : ℕ) (f : ℕ → ℕ) → initial_or (within_bid x) s f ≡ initial_or x s f
  unfolding initial_or given_back
  initial_or_same s f = rw (initial_same s, on_same)

  pub revised_same : (s : ℕ) → revised (within_bid x) s ≡ revised x s
  unfolding revised revised_rate
  revised_same s = initial_or_same s (revised_rate x s)

  pub modified_same : (s : ℕ) → modified (within_bid x) s ≡ modified x s
  unfolding modified rate
  modified_same s = initial_or_same s (rate x)

  pub change_same : (change : List ℕ → ℕ → ℕ) (s : ℕ) → cond (is_paid (within_bid x) s) (change (on_step (within_bid x)) s) 0 ≡ cond (is_paid x s) (change (on_step x) s) 0
  unfolding is_paid
  change_same change s = rw on_same

  pub final_same : (claw s : ℕ) (p : Pool) → final_payment (within_bid x) claw s p ≡ final_payment x claw s p
  unfolding final_payment is_pooled pooled_payment
  final_same claw s p = rw (initial_same s, revised_same s, modified_same s, on_same)

  excess_none : excess_of (within_bid x) ≡ no_excess
  unfolding excess_of no_excess
  excess_none = simp none_over

  -- all figures of the view but the excess
  pub figures_same : (finals : List ℤ) → without_excess (figures_of x finals) ≡ figures_of (within_bid x) finals
  figures_same finals =
      rw (
        operating_same,
        pricing_same,
        actual_same,
        agino_five,
        msiq_five,
        on_same,
        five_same (initial (within_bid x)) (initial x) (λ s l. initial_same s),
        five_same (revised (within_bid x)) (revised x) (λ s l. revised_same s),
        five_same (modified (within_bid x)) (modified x) (λ s l. modified_same s),
        excess_none,
      )

-- a day's steps
module _ (d : List ℕ) (a : AcceptedDay d) where
  step_within : (k j : ℕ) → k < line_count d → j < step_count (line_at d k) → (step_of d k j).upper ≤ (step_of d k j).most
  unfolding step_of
  step_within k j l g = upper_most (line_at d k) (accepted_line_at d a k l) j g

  -- over a side, a figure that is the same on each step
  over_same : {A : Type 0} (fold : ℕ → (ℕ → A) → A) (none : A) → ((n : ℕ) (f g : ℕ → A) → ((i : ℕ) → i < n → f i ≡ g i) → fold n f ≡ fold n g)
      → (sd : ℕ) (f : Step → A) → ((x : Step) → x.upper ≤ x.most → f (within_bid x) ≡ f x)
      → over_side fold none (day_within d) sd f ≡ over_side fold none (settled_day d) sd f
  over_same {A} fold none same sd f h =
      same (line_count d) _ _
      (λ k l. ap (λ (v : A). cond (eqb (side (line_at d k)) sd) v none)
      (same (step_count (line_at d k)) (λ j. f (within_bid (step_of d k j))) (λ j. f (step_of d k j)) (λ j g. h (step_of d k j) (step_within k j l g))))

  pool_same : (sd s : ℕ) → pool_of (day_within d) sd s ≡ pool_of (settled_day d) sd s
  unfolding pool_of pool_total pool_change pool_base pool_differs
  pool_same sd s =
      rw (
        over_same sum_z (pos 0) sum_z_same sd (λ x. revised x s) (λ x h. revised_same x h s),
        over_same sum_to 0 sum_same sd (λ x. cond (is_paid x s) (rise (on_step x) s) 0) (λ x h. change_same x h rise s),
        over_same sum_to 0 sum_same sd (λ x. cond (is_paid x s) (fall (on_step x) s) 0) (λ x h. change_same x h fall s),
        over_same some_to false some_same sd (λ x. not (eqb_z (revised x s) (initial x s))) (λ x h. rw (revised_same x h s, initial_same x h s)),
      )

  step_final_same : (k j s : ℕ) → k < line_count d → j < step_count (line_at d k) → step_final (day_within d) s k j ≡ step_final (settled_day d) s k j
  unfolding step_final
  step_final_same k j s l g = rw (pool_same (side (line_at d k)) s) (final_same (step_of d k j) (step_within k j l g) _ s _)

  -- EVERY STEP FIGURE, and what a line is paid
  pub view_within : (k j : ℕ) → k < line_count d → j < step_count (line_at d k) → without_excess (view_of d k j) ≡ figures_of (within_bid (step_of d k j)) (five (λ s. step_final (day_within d) s k j))
  unfolding view_of
  view_within k j l g =
      rw (five_same (λ s. step_final (day_within d) s k j) (λ s. step_final (settled_day d) s k j) (λ s i. step_final_same k j s l g))
      (figures_same (step_of d k j) (step_within k j l g) (five (λ s. step_final (settled_day d) s k j)))

  pub payment_within : (k s : ℕ) → k < line_count d → line_payment (day_within d) s k ≡ line_payment (settled_day d) s k
  unfolding line_payment
  payment_within k s l = sum_z_same (step_count (line_at d k)) (step_final (day_within d) s k) (step_final (settled_day d) s k) (λ j g. step_final_same k j s l g)
