-- `line_quantities::in_force::places_for` meets its contract.
use Rattle.std.proofs.Common.{◌≡◌}
use Rattle.line_quantities.specs.Highest.{highest_places}
use Rattle.line_quantities.proofs.in_force.places_for.Given as goal

abbrev pub invariant-loop-i : goal.invariant-loop-i
invariant-loop-i l = l.places ≡ highest_places l.records.bytes.now l.records.from l.k l.i
