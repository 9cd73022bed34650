-- `day_paid::keep_lines` meets its contract: after k turns the first k lines are in the pools, and what is kept of them at their places.
use Prim.Native.Nat.{◌-◌, ◌≤◌, ◌<◌}
use mathlib.Core.Path.{◌≡◌, refl, ap}
use lib.ListN.{length}
use lib.Seq.{sets}
use native.Mathlib.Omega.{arith}
use borrow.Author.Rules.{rules}
use Rattle.rules.specs.Fold.{list_to}
use Rattle.rules.specs.Days.{settled_day}
use Rattle.step_inputs.proofs.Lines.{line_lies}
use Rattle.day_paid.specs.Paid.{counts_none, counts_next}
use Rattle.day_paid.specs.Lines.{pools_to, KeptTo}
use Rattle.day_paid.proofs.Kept.{pools_none, pools_addable, pools_next, kept_next, all_kept}
use Rattle.day_paid.proofs.keep_lines.Given as goal

abbrev pub invariant-loop-k : goal.invariant-loop-k
invariant-loop-k l = (l.pools ≡ pools_to (settled_day l.day) l.k) × (length l.lines ≡ 64) × (KeptTo l.day l.k l.lines)
    × (l.counts ≡ sets l.initial.counts 0 (list_to l.k (settled_day l.day).count))
