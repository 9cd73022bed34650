-- After k turns the first k lines are printed.
use Rattle.std.proofs.Common.{◌≡◌, length}
use Rattle.std.specs.Io.KnownBytes.{Appends}
use Rattle.rules.specs.Fold.{joined}
use Rattle.text_steps.specs.Text.{line_steps}
use Rattle.text_steps.proofs.steps_text.print_lines.Given as goal

abbrev pub invariant-loop-k : goal.invariant-loop-k
invariant-loop-k g l =
    (length l.out ≡ length l.initial.out)
    × Appends (g.W.Write.contents l.initial.output) (g.W.Write.contents l.output) (joined l.k (line_steps l.day))
