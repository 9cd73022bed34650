-- `day::equal_keys::check_key` meets its contract.
use mathlib.Core.Path.{◌≡◌}
use Rattle.rules.specs.Fold.{first}
use Rattle.rules.specs.Refusals.{pair_fault}
use Rattle.day.proofs.equal_keys.check_key.Given as goal

abbrev pub invariant-loop-i : goal.invariant-loop-i
invariant-loop-i l = first (pair_fault l.day l.k) l.i ≡ 0
