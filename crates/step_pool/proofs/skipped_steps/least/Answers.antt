-- `step_pool::skipped_steps::least` meets its contract.
use Rattle.laws.specs.Chains.{least_step, least_last}
use Rattle.step_pool.proofs.skipped_steps.least.Goals as goal

pub returns : goal.returns
returns c =
    let q = c.args.q in
    least_step q 0 3
    (least_step q 1 2
    (least_step q 2 1 (least_step q 3 0 (least_last q 4) c.min.ensures)
    c.min-2.ensures) c.min-3.ensures) c.min-4.ensures
