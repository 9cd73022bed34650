-- A day's refusals as its parts, one after another.
use Prim.Native.Nat.{ℕ}
use mathlib.Core.Path.{◌≡◌, refl}
use mathlib.Core.List.{List}
use Rattle.rules.specs.Fold.{◌or_else◌, first}
use Rattle.rules.specs.Layout.{line_count, lines_at, records_at, record_count}
use Rattle.rules.specs.InForce.{table_in_force}
use Rattle.rules.specs.Refusals.{header_fault, market_fault, record_fault, twin_fault, records_fault, line_fault_at, key_fault, day_fault}
use Rattle.laws.specs.Accepted.{accepted_header}
use Rattle.laws.specs.Folds.{first_same}
use Rattle.refusals.specs.Laws.{number_above}
use Rattle.day_header.proofs.Header.{or_else_is}
use Rattle.line.specs.Parts.{part_from, line_from}

-- the lines, from where they and the records stand
pub lines_are : (d : List ℕ) → first (line_from d (lines_at d) (records_at d) (record_count d)) (line_count d) ≡ first (line_fault_at d) (line_count d)
unfolding line_from part_from line_fault_at table_in_force
lines_are d = first_same (line_count d) _ _ (λ i h. refl)

pub records_are : (d : List ℕ) → records_fault d ≡ first (record_fault d (records_at d) (line_count d)) (record_count d) or_else first (twin_fault d (records_at d)) (record_count d)
unfolding records_fault
records_are d = refl

pub day_is : (d : List ℕ) → day_fault d ≡
    header_fault d or_else market_fault d or_else records_fault d or_else first (line_fault_at d) (line_count d) or_else first (key_fault d) (line_count d)
unfolding day_fault
day_is d = refl

pub ruleset day_laws = (day_is, records_are, lines_are, or_else_is, accepted_header, number_above)
