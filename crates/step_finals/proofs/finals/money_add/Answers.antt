-- `step_finals::finals::money_add` meets its contract.
use Rattle.step_pool.specs.Amounts.{money_sum}
use Rattle.step_finals.proofs.finals.money_add.Goals as goal

pub add_rows-requires : goal.add_rows-requires
add_rows-requires c =
    c.requires.plus

pub add_rows-requires-2 : goal.add_rows-requires-2
add_rows-requires-2 c =
    c.requires.minus

pub returns : goal.returns
unfolding money_sum
returns c = λ i. record { plus = c.add_rows.ensures i; minus = c.add_rows-2.ensures i }
