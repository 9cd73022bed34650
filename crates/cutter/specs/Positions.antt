-- Where the sweep stands before a step: what each loop over a line's steps maintains.
use Rattle.std.specs.Prelude.{ℕ, ◌+◌, ◌≤◌, ◌<◌, ◌≡◌, List}
use Rattle.rules.specs.Steps.{step_count, upper_end, lower_end}
use Rattle.cutter_cursors.specs.Sweep.{SweepAt, far, next_gap}
use Rattle.cutter_cursors.specs.declared.cursors.Sweep.{Sweep}
use Rattle.cutter.specs.declared.positions.Position.{Position}

-- before step n: e is its lower end, g the gap from there to its upper end, and the cursors stand where they do at that
pub record SweptTo (w : List ℕ) (n : ℕ) (at : Sweep) (e g : ℕ) : Type 0 where
  pub within : n ≤ step_count w
  pub last : e ≡ lower_end w n
  pub here : SweepAt w at (e + 1 + g)
  pub gap : g ≡ next_gap w e

abbrev pub SweptAt : List ℕ → Position → Type 0
SweptAt w p = SweptTo w p.step p.places p.lower p.gap

-- r is where the sweep stands after the steps from p on that end at or below u
pub record Skipped (w : List ℕ) (p : Position) (u : ℕ) (r : Position) : Type 0 where
  pub swept : SweptAt w r
  pub on : p.step ≤ r.step
  pub below : (i : ℕ) → p.step ≤ i → i < r.step → upper_end w i ≤ u
  pub above : r.gap < far → u < r.lower + 1 + r.gap
