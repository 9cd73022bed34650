-- `cutter_text::rows::put_steps` meets its contract: after k turns the first k steps are put.
use Prim.Native.Nat.{◌*◌}
use mathlib.Core.Path.{◌≡◌}
use lib.ListN.{length}
use Rattle.cutter_text.specs.CutRows.{cut_step_text}
use Rattle.rules.specs.Fold.{joined}
use Rattle.text.specs.Put.{Written}
use Rattle.cutter_text.proofs.rows.put_steps.Given as goal

abbrev pub invariant-loop-k : goal.invariant-loop-k
invariant-loop-k l = (length l.out ≡ length l.initial.out) × (Written (126 * l.k) l.initial.out l.at (joined l.k (cut_step_text l.r)) l.p l.out)
