-- Refusal 7.
use Rattle.std.specs.Prelude.{ℕ, ◌&&◌, eqb, ltb}
use Rattle.rules.specs.Fold.{refuse, ◌or_else◌}
use Rattle.rules.specs.Layout.{bid_slots}

-- refusal 7 of a bid of n steps in schedule s
unfoldable pub count_fault : ℕ → ℕ → ℕ
count_fault s n = refuse 7 (eqb s 0 && eqb n 0) or_else refuse 7 (ltb bid_slots n)
