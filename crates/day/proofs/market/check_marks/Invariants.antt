-- `day::market::check_marks` meets its contract.
use mathlib.Core.Path.{◌≡◌}
use Rattle.rules.specs.Fold.{first}
use Rattle.rules.specs.Refusals.{mark_fault}
use Rattle.day.proofs.market.check_marks.Given as goal

abbrev pub invariant-loop-s : goal.invariant-loop-s
invariant-loop-s l = first (mark_fault l.day) l.s ≡ 0
