-- `Ledger::enter` meets its contract: place by place.
use Rattle.std.proofs.Common.{rules}
use Rattle.step_matching.proofs.open_rises.Entering.{enter_is}
use Rattle.step_matching.proofs.open_rises.Ledger.enter.Goals as goal

pub returns : goal.returns
returns c =
    enter_is c.args.self c.args.before c.args.now (search rules) (search rules) (search rules)
    (record { first = search rules; second = search rules; third = search rules; fourth = search rules })
    (record { rise = search rules; first = search rules; second = search rules; third = search rules })
