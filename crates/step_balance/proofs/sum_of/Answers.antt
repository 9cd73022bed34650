-- `step_balance::sum_of` meets its contract.
use Rattle.std.proofs.Common.{rules, ◌≡◌, sum}
use Rattle.step_balance.proofs.Sums.{sum_within}
use Rattle.step_balance.proofs.sum_of.Goals as goal

pub returns-clause-below : goal.returns-clause-below
returns-clause-below c =
    let e : c.sum.result ≡ sum c.args.words.now = search rules in
    rw e (sum_within c.args.words.now c.requires c.type_inv.words)
