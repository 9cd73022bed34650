-- `step_matching::matches::match_table` meets its contract: row by row.
use Rattle.step_matching.proofs.open_rises.Entering.{Filling}
use Rattle.step_matching.proofs.matches.match_table.Given as goal

abbrev pub invariant-loop-s : goal.invariant-loop-s
invariant-loop-s l = Filling l.c l.s-counter l.table l.open l.before
