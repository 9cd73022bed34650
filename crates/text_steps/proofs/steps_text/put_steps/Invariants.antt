-- `text_steps::steps_text::put_steps` meets its contract: after j turns the first j steps are put.
use Prim.Native.Nat.{◌*◌}
use mathlib.Core.Path.{◌≡◌}
use lib.ListN.{length}
use Rattle.rules.specs.Fold.{joined}
use Rattle.text.specs.Put.{Written}
use Rattle.text_steps.specs.Text.{place_text}
use Rattle.text_steps.proofs.steps_text.put_steps.Given as goal

abbrev pub invariant-loop-j : goal.invariant-loop-j
invariant-loop-j l = (length l.out ≡ length l.initial.out) × Written (1587 * l.j) l.initial.out l.at (joined l.j (place_text l.views)) l.p l.out
