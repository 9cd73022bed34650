-- `line_totals::row_sum` meets its contract.
use Rattle.std.proofs.Common.{rules, ◌≡◌, ◌∙◌, sum}
use Rattle.std.proofs.iter.runs.Made.{chains}
use Rattle.std.proofs.iter.runs.Sources.{sums}
use Rattle.line_totals.proofs.Totals.{sum_is}
use Rattle.line_totals.proofs.row_sum.Goals as goal

pub sum-requires-clause-fits : goal.sum-requires-clause-fits
sum-requires-clause-fits c = search (rules, sums)

pub returns : goal.returns
returns c =
    let total : c.sum.result ≡ sum c.args.row = search (rules, chains) in
    total ∙ sum_is c.args.row (search rules)
