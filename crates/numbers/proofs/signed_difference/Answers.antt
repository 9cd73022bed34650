-- `numbers::signed_difference` meets its contract: the difference of two numbers below 2 ^ 63 is a signed number of 64 bits.
use borrow.Author.Rules.{rules}
use mir.Syntax.{w64}
use mir.ValLaws.{to_z-of_z}
use Rattle.numbers.proofs.Fitting.{difference_is, difference_fits}
use Rattle.numbers.proofs.signed_difference.Goals as goal

-- `numbers::signed_difference` meets its contract: the difference of two numbers below 2 ^ 63 is a signed number of 64 bits.
pub overflow_cast-result : goal.overflow_cast-result
overflow_cast-result c = search rules

pub overflow_cast-result-2 : goal.overflow_cast-result-2
overflow_cast-result-2 c = search rules

pub overflow_sub-result : goal.overflow_sub-result
overflow_sub-result c =
    rw (difference_is c.args.plus c.args.minus c.requires.0 c.requires.1)
    (difference_fits c.args.plus c.args.minus c.requires.0 c.requires.1)

pub returns : goal.returns
returns c =
    rw (difference_is c.args.plus c.args.minus c.requires.0 c.requires.1)
    (to_z-of_z w64 _ (difference_fits c.args.plus c.args.minus c.requires.0 c.requires.1))
