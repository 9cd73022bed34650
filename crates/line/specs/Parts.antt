-- A line's refusals in the parts that the code works out one by one.
use Rattle.std.specs.Prelude.{ℕ, ◌+◌, ◌*◌, List, take, drop}
use Rattle.rules.specs.Layout.{line_bytes}
use Rattle.rules.specs.InForce.{table_with}
use Rattle.rules.specs.Refusals.{line_fault_with}

-- line k of those that stand one after another from byte `at` on
unfoldable pub part_from : List ℕ → ℕ → ℕ → List ℕ
part_from b at k = take line_bytes (drop (at + line_bytes * k) b)

-- its refusals, with the rows in force by c records from byte r on
unfoldable pub line_from : List ℕ → ℕ → ℕ → ℕ → ℕ → ℕ
line_from b at r c k = line_fault_with (table_with b r c k (part_from b at k)) (part_from b at k)
