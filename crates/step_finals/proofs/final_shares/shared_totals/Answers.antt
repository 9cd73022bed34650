-- `step_finals::final_shares::shared_totals` meets its contract.
use Rattle.std.proofs.Common.{rules}
use Rattle.step_payments.proofs.amounts.Joining.{row_five}
use Rattle.step_pool.specs.Amounts.{total_in}
use Rattle.step_finals.proofs.final_shares.shared_totals.Goals as goal

pub returns : goal.returns
unfolding total_in
returns c =
    row_five (total_in c.args.p) c.from_fn.result (search rules) (search rules) (search rules) (search rules) (search rules) (search rules)
