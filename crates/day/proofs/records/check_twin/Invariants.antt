-- `day::records::check_twin` meets its contract.
use mathlib.Core.Path.{◌≡◌}
use Rattle.rules.specs.Fold.{first}
use Rattle.day.proofs.records.Records.{pair_fault}
use Rattle.day.proofs.records.check_twin.Given as goal

abbrev pub invariant-loop-h : goal.invariant-loop-h
invariant-loop-h l = first (pair_fault l.records.bytes.now l.records.from l.i) l.h ≡ 0
