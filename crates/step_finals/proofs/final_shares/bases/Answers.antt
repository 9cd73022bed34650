-- `step_finals::final_shares::bases` meets its contract.
use Rattle.std.proofs.Common.{rules}
use Rattle.step_payments.proofs.amounts.Joining.{row_five}
use Rattle.step_pool.specs.Amounts.{base_in}
use Rattle.step_finals.proofs.final_shares.bases.Goals as goal

pub returns : goal.returns
unfolding base_in
returns c =
    row_five (base_in c.args.p) c.from_fn.result (search rules) (search rules) (search rules) (search rules) (search rules) (search rules)
