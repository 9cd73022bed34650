-- `line_quantities::in_force::day_table` meets its contract.
use Rattle.std.proofs.Common.{◌∙◌}
use Rattle.line_quantities.specs.Highest.{table_of}
use Rattle.line_quantities.proofs.in_force.day_table.Goals as goal

pub returns : goal.returns
returns c =
    c.table_with.ensures ∙ table_of _ _ _ _ _ _ c.of.ensures.0 c.of.ensures.1 c.of.ensures.2 c.requires.2
