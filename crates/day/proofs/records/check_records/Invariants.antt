-- `day::records::check_records` meets its contract.
use mathlib.Core.Path.{◌≡◌}
use Rattle.rules.specs.Fold.{first}
use Rattle.rules.specs.Refusals.{record_fault, twin_fault}
use Rattle.day.proofs.records.check_records.Given as goal

abbrev pub invariant-loop-i : goal.invariant-loop-i
invariant-loop-i l = first (record_fault l.records.bytes.now l.records.from l.n) l.i ≡ 0

abbrev pub invariant-loop-i-2 : goal.invariant-loop-i-2
invariant-loop-i-2 l = first (twin_fault l.records.bytes.now l.records.from) l.i ≡ 0
