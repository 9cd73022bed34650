-- `cutter_prices::source_of` meets its contract.
use Prim.Native.Nat.{◌≤◌}
use mathlib.Core.Path.{◌≡◌}
use Rattle.rules.specs.Steps.{source}
use Rattle.cutter_prices.proofs.source_of.Given as goal

abbrev pub invariant-loop-r : goal.invariant-loop-r
invariant-loop-r l = (l.r ≤ l.s) × (source l.line l.r ≡ source l.line l.s)

abbrev pub decreases-loop-r : goal.decreases-loop-r
decreases-loop-r l = l.r
