-- `day::equal_keys::check_keys` meets its contract.
use mathlib.Core.Path.{◌≡◌}
use lib.ListN.{length}
use Rattle.rules.specs.Fold.{first}
use Rattle.rules.specs.Refusals.{key_fault}
use Rattle.day.proofs.equal_keys.Keys.{Used}
use Rattle.day.proofs.equal_keys.check_keys.Given as goal

abbrev pub invariant-loop-k : goal.invariant-loop-k
invariant-loop-k l = record { none : first (key_fault l.day) l.k ≡ 0; marked : Used l.day l.k l.used; slots : length l.used ≡ 128 }
