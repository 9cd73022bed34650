-- What the passes over a line's steps hold: where the sweep enters the window, and what the first pass keeps for the second.
use Rattle.std.specs.Prelude.{ℕ, ◌+◌, ◌-◌, ◌<◌, ◌≡◌, List}
use Rattle.rules.specs.Layout.{line_at}
use Rattle.rules.specs.Steps.{step_count}
use Rattle.rules.specs.Days.{step_of, settled_day}
use Rattle.cutter.specs.declared.positions.Position.{Position}
use Rattle.step_inputs.specs.Ready.{PastHedge}
use Rattle.step_pool.specs.Amounts.{Idle, takes_back}
use Rattle.day_pools.specs.declared.LinePool.{LinePool}
use Rattle.day_pools.specs.Marks.{word_to}
use Rattle.day_pools.specs.Sides.{line_pool}

-- p is where the sweep over line k enters the window: no step before it has a paid rise or fall
pub record Entered (d : List ℕ) (k : ℕ) (p : Position) : Type 0 where
  pub here : PastHedge (line_at d k) p.step p.places p.lower p.gap
  pub idle : (i : ℕ) → i < p.step → Idle (step_of d k i)

-- whether step i from step j of line k on takes something back
unfoldable pub takes_from : List ℕ → ℕ → ℕ → ℕ → ℕ
takes_from d k j i = takes_back (step_of d k (j + i))

-- what the first pass keeps of line k for the second: where the sweep entered the window, and the word of the steps from there on that take
-- something back
pub record Keeps (d : List ℕ) (k : ℕ) (p : Position) (taking : ℕ) : Type 0 where
  pub entered : Entered d k p
  pub word : taking ≡ word_to (step_count (line_at d k) - p.step) (takes_from d k p.step)

-- the first pass's answer for line k
pub record LinePooled (d : List ℕ) (k : ℕ) (r : LinePool) : Type 0 where
  pub count : r.count ≡ step_count (line_at d k)
  pub pool : r.pool ≡ line_pool (settled_day d) k
  pub kept : Keeps d k r.from r.taking
