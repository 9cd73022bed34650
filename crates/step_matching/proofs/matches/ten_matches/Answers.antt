-- `step_matching::matches::ten_matches` meets its contract.
use Rattle.rules.specs.Matching.{ten_matches}
use Rattle.step_matching.specs.Ledgers.{match_row}
use Rattle.step_matching.proofs.matches.ten_matches.Goals as goal

pub returns : goal.returns
unfolding ten_matches match_row
returns c =
    rw c.match_table-t.ensures
