-- `step_balance::rises_agree` meets its contract.
use Rattle.std.proofs.Common.{arith}
use Rattle.rules.specs.Fold.{before}
use Rattle.rules.specs.Matching.{rise, earlier}
use Rattle.step_balance.proofs.rises_agree.Goals as goal

pub returns-then-u-m : goal.returns-then-u-m
unfolding rise earlier before
returns-then-u-m c =
    let risen = rw c.rises-u.ensures at c.if-u-m.true in
    absurd (omega (arith, risen, c.requires.fourth))
