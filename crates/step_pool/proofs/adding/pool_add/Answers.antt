-- `step_pool::adding::pool_add` meets its contract.
use Rattle.step_pool.specs.Amounts.{pool_sum}
use Rattle.step_pool.proofs.adding.pool_add.Goals as goal

pub add_rows-requires : goal.add_rows-requires
add_rows-requires c =
    c.requires.plus

pub add_rows-requires-2 : goal.add_rows-requires-2
add_rows-requires-2 c =
    c.requires.minus

pub add_rows-requires-3 : goal.add_rows-requires-3
add_rows-requires-3 c =
    c.requires.rises

pub add_rows-requires-4 : goal.add_rows-requires-4
add_rows-requires-4 c =
    c.requires.falls

pub add_rows-requires-5 : goal.add_rows-requires-5
add_rows-requires-5 c =
    c.requires.differs

pub returns : goal.returns
unfolding pool_sum
returns c =
    λ i. record {
      plus = c.add_rows.ensures i;
      minus = c.add_rows-2.ensures i;
      rises = c.add_rows-3.ensures i;
      falls = c.add_rows-4.ensures i;
      differs = c.add_rows-5.ensures i;
    }
