-- 4,096 bytes for each turn.
use Rattle.std.proofs.Common.{◌≡◌, ◌*◌}
use Rattle.day_input.specs.Stream.{Passes}
use Rattle.day_input.proofs.rest.Given as goal

abbrev pub invariant-loop-turns : goal.invariant-loop-turns
invariant-loop-turns g l =
    (l.total ≡ 4096 * l.turns) × Passes (g.R.Read.remaining l.initial.input) (g.R.Read.remaining l.input) l.total
