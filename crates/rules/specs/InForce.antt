-- Document 02, F-5: the operating row in force. "An ad hoc schedule replaces an operating schedule's row".
use Rattle.std.specs.Prelude.{ℕ, zero, suc, List, Bool, true, cond, ◌&&◌, eqb, ltb}
use Rattle.rules.specs.Fold.{five}
use Rattle.rules.specs.Layout.{line_at, operating_entry, records_at, record_count, record_line, record_schedule, record_order, record_entry}
use Rattle.rules.specs.Quantities.{table_total, table_actual}

-- whether record i, of those that stand from byte r on, is for line k and schedule s, which counts from 0 here and from 1 in a record
unfoldable pub is_for : List ℕ → ℕ → ℕ → ℕ → ℕ → Bool
is_for b r k s i = eqb (record_line b r i) k && eqb (record_schedule b r i) (suc s)

-- whether the order number of record i is above that of the record at place p, which counts from 1; at place 0 there is none
unfoldable pub is_above : List ℕ → ℕ → ℕ → ℕ → Bool
is_above b r i zero = true
is_above b r i (suc h) = ltb (record_order b r h) (record_order b r i)

-- "the highest order number for its line and schedule": the place of that record among the first n, 0 where none is for them
unfoldable pub highest : List ℕ → ℕ → ℕ → ℕ → ℕ → ℕ
highest b r k s zero = 0
highest b r k s (suc n) = cond (is_for b r k s n && is_above b r n (highest b r k s n)) (suc n) (highest b r k s n)

-- "The row in force is that of the highest order number for its line and schedule, else the line's own": by that place, for a line of the
-- bytes w
unfoldable pub row_at : List ℕ → ℕ → List ℕ → ℕ → ℕ → List ℕ
row_at b r w s zero = five (operating_entry w s)
row_at b r w s (suc i) = five (record_entry b r i)

-- the five rows in force of line k, by c records
unfoldable pub table_with : List ℕ → ℕ → ℕ → ℕ → List ℕ → List (List ℕ)
table_with b r c k w = five (λ s. row_at b r w s (highest b r k s c))

-- in the file d
unfoldable pub table_in_force : List ℕ → ℕ → List (List ℕ)
table_in_force d k = table_with d (records_at d) (record_count d) k (line_at d k)

-- "All rules on operating quantities .. read the row in force": the operating totals and the effective actual of line k
abbrev pub operating_total : List ℕ → ℕ → ℕ → ℕ
operating_total d k s = table_total (table_in_force d k) s

abbrev pub effective_actual : List ℕ → ℕ → ℕ
effective_actual d k = table_actual (table_in_force d k) (line_at d k)
