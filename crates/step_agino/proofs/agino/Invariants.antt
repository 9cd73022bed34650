-- `step_agino::agino`: from place s on `least` is the least of the operating quantities of that schedule and the later ones.
use Rattle.std.proofs.Common.{ℕ, ◌-◌, List}
use Rattle.rules.specs.Quantities.{least_from}
use Rattle.numbers.specs.Carried.{Carried}
use Rattle.step_agino.proofs.agino.Given as goal

abbrev pub least_of : List ℕ → ℕ → ℕ
least_of o s = least_from o s (4 - s)

abbrev pub invariant-loop-s : goal.invariant-loop-s
invariant-loop-s l = Carried l.fn.o (least_of l.fn.o) l.least l.s
