-- A line of an accepted day as the code holds it.
use Rattle.std.specs.Prelude.{ℕ, ◌+◌, ◌<◌, ◌≡◌, List}
use Rattle.rules.specs.Layout.{line_count, line_at, hedge}
use Rattle.rules.specs.InForce.{table_in_force}
use Rattle.laws.specs.Accepted.{AcceptedDay}
use Rattle.cutter_cursors.specs.Sweep.{far}
use Rattle.cutter_cursors.specs.declared.cursors.Sweep.{Sweep}
use Rattle.cutter.specs.Positions.{SweptTo}
use Rattle.step_inputs.specs.declared.inputs.LineTotals.{LineTotals}
use Rattle.step_inputs.specs.Inputs.{totals_of}

-- line k of an accepted day: its bytes and its totals
pub record LineReady (d : List ℕ) (k : ℕ) (w : List ℕ) (t : LineTotals) : Type 0 where
  pub accepted : AcceptedDay d
  pub there : k < line_count d
  pub line : w ≡ line_at d k
  pub totals : t ≡ totals_of (table_in_force d k) w

-- the sweep over the line w stands before step j, which, if there is one, ends past the hedge
pub record PastHedge (w : List ℕ) (j : ℕ) (at : Sweep) (e g : ℕ) : Type 0 where
  pub swept : SweptTo w j at e g
  pub past : g < far → hedge w < e + 1 + g
