-- `step_finals::finals::taken_with` meets its contract.
use Rattle.step_pool.specs.Amounts.{taken_with}
use Rattle.step_finals.proofs.finals.taken_with.Goals as goal

pub changes_on-v-requires : goal.changes_on-v-requires
changes_on-v-requires c = (c.constrained_on-c.ensures, c.rates-rate.ensures)

pub final_taken-requires : goal.final_taken-requires
final_taken-requires c =
    (c.requires.0, c.requires.1, c.constrained_on-c.ensures, c.rates-rate.ensures, c.changes_on-v.ensures)

pub add_rows-minus-requires : goal.add_rows-minus-requires
add_rows-minus-requires c =
    rw c.final_taken.ensures c.requires.2

pub returns : goal.returns
unfolding taken_with
returns c = rw (c.add_rows-minus.ensures, c.final_taken.ensures)
