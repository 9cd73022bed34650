-- `certificate_calls::line_sums::all_steps`: the sums of the steps below j.
use mathlib.Core.Path.{◌≡◌}
use Rattle.certificate_calls.specs.Lines.{sums_to}
use Rattle.certificate_calls.proofs.line_sums.all_steps.Given as goal

abbrev pub invariant-loop-j : goal.invariant-loop-j
invariant-loop-j l = l.sums ≡ sums_to l.day l.line l.j
