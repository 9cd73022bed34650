-- `step_pool::skipped_steps::changes_on` meets its contract: row by row.
use Rattle.rules.specs.Matching.{rise, fall}
use Rattle.step_pool.specs.Amounts.{changes_on}
use Rattle.step_payments.proofs.amounts.Joining.{change_row, plus_row, minus_row}
use Rattle.step_pool.proofs.skipped_steps.changes_on.Goals as goal

pub returns : goal.returns
unfolding changes_on
returns c =
    let x = c.args.x in
    let up = change_row x rise c.requires.0 c.rises.ensures
    c.only_paid-rise.ensures in
    let down = change_row x fall c.requires.0 c.falls.ensures
    c.only_paid-fall.ensures in
    let plus = plus_row x up c.requires.1 c.products.ensures in
    let minus = minus_row x down c.requires.1 c.products-2.ensures in
    λ i. record { rises = up i; falls = down i; plus = plus i; minus = minus i }
