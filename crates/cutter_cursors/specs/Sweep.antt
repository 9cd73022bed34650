-- Where the sweep stands at a step, as functions of the line and the step's upper end, and what each of its moves gives.
use Rattle.std.specs.Prelude.{◌≡◌, ℕ, zero, suc, ◌+◌, ◌-◌, ◌<◌, min, max, cond, List, length, replicate, nat_lt}
use Rattle.rules.specs.Fold.{five}
use Rattle.rules.specs.Layout.{hedge, bid_count, bid_break}
use Rattle.rules.specs.Steps.{bid_step}
use Rattle.laws.specs.Accepted.{AcceptedLine}
use Rattle.cutter_cursors.specs.declared.cursors.Sweep.{Sweep}

-- an accepted line's bytes
pub record Line (w : List ℕ) : Type 0 where
  pub long : length w ≡ 660
  pub accepted : AcceptedLine w

-- above every break and hedge
abbrev pub past : ℕ
past = 4294967295

-- the step of the bid of schedule s, counted from 1, that gives the price of a step which ends at u: the first whose break is at least u,
-- or the bid's last; of a pulled bid the first slot, whose break is 0
unfoldable pub place_of : List ℕ → ℕ → ℕ → ℕ
place_of w s u = max 1 (min (suc (bid_step w s u)) (bid_count w s))

-- all of them
unfoldable pub sweep_of : List ℕ → ℕ → Sweep
sweep_of w u = record { at = five (λ s. place_of w s u) }

-- before the first end
unfoldable pub first_places : Sweep
first_places = record { at = replicate 5 1 }

-- on an accepted line, `at` is the place of the cursor of schedule s at a step which ends at u
pub record Standing (w : List ℕ) (s at u : ℕ) : Type 0 where
  pub line : Line w
  pub schedule : s < 5
  pub above : 0 < u
  pub place : at ≡ place_of w s u

-- and `places` those of all five
pub record SweepAt (w : List ℕ) (places : Sweep) (u : ℕ) : Type 0 where
  pub line : Line w
  pub above : 0 < u
  pub same : places ≡ sweep_of w u

-- the break at which a cursor moves on, none at the bid's last step and in a pulled bid
unfoldable pub stop_of : List ℕ → ℕ → ℕ → ℕ
stop_of w s at = cond (nat_lt at (bid_count w s)) (bid_break w s (at - 1)) past

-- a gap that no number above an end has
abbrev pub far : ℕ
far = 2147483648

-- how far x is above e, counted from 0; `far` or more where it is not above
unfoldable pub gap_of : ℕ → ℕ → ℕ
gap_of x e = cond (nat_lt e x) (x - suc e) (x + 4294967296 - suc e)

-- the gap from the end e to the break at the cursor of schedule s
unfoldable pub break_gap : List ℕ → ℕ → ℕ → ℕ
break_gap w e s = gap_of (bid_break w s (place_of w s (suc e) - 1)) e

-- the least of h and of f 0 to f (n - 1)
unfoldable pub least_to : ℕ → ℕ → (ℕ → ℕ) → ℕ
least_to h zero f = h
least_to h (suc n) f = min (least_to h n f) (f n)

-- the least gap from the end e, over the hedge and the five cursors
unfoldable pub next_gap : List ℕ → ℕ → ℕ
next_gap w e = least_to (gap_of (hedge w) e) 5 (break_gap w e)
