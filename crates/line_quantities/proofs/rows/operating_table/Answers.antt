-- `line_quantities::rows::operating_table` meets its contract.
use Rattle.line_quantities.proofs.rows.operating_table.Goals as goal

pub returns : goal.returns
returns c =
    rw (
      c.operating_row.ensures,
      c.operating_row-2.ensures,
      c.operating_row-3.ensures,
      c.operating_row-4.ensures,
      c.operating_row-5.ensures,
    )
