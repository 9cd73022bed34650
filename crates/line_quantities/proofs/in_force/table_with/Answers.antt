-- `line_quantities::in_force::table_with` meets its contract.
use Rattle.std.proofs.Common.{◌∙◌, arith}
use Rattle.line_quantities.specs.Highest.{table_none, held_most, table_is}
use Rattle.line_quantities.proofs.in_force.table_with.Goals as goal

pub returns-then-records-eq0 : goal.returns-then-records-eq0
returns-then-records-eq0 c = c.operating_table.ensures ∙ table_none _ _ _ _ _ c.if-records-eq0.true

pub row_at-requires : goal.row_at-requires
row_at-requires c = (omega arith, held_most _ _ _ _ _ c.places_for-places.ensures 0 (omega arith))

pub row_at-requires-2 : goal.row_at-requires-2
row_at-requires-2 c = (omega arith, held_most _ _ _ _ _ c.places_for-places.ensures 1 (omega arith))

pub row_at-requires-3 : goal.row_at-requires-3
row_at-requires-3 c = (omega arith, held_most _ _ _ _ _ c.places_for-places.ensures 2 (omega arith))

pub row_at-requires-4 : goal.row_at-requires-4
row_at-requires-4 c = (omega arith, held_most _ _ _ _ _ c.places_for-places.ensures 3 (omega arith))

pub row_at-requires-5 : goal.row_at-requires-5
row_at-requires-5 c = (omega arith, held_most _ _ _ _ _ c.places_for-places.ensures 4 (omega arith))

pub returns : goal.returns
returns c =
    rw (
      c.row_at.ensures,
      c.row_at-2.ensures,
      c.row_at-3.ensures,
      c.row_at-4.ensures,
      c.row_at-5.ensures,
    ) (table_is _ _ _ _ _ c.places_for-places.ensures _)
