-- `numbers::share` meets its contract: neither part of the quotient passes 64 bits, and they add up to the whole.
use borrow.Author.Rules.{rules}
use native.Mathlib.Omega.{arith}
use Rattle.numbers.specs.Shares.{share_most}
use Rattle.numbers.proofs.Fitting.{whole_most, share_is, rest_most}
use Rattle.numbers.proofs.share.Goals as goal

-- `numbers::share` meets its contract: neither part of the quotient passes 64 bits, and they add up to the whole.
pub nonzero_div-result : goal.nonzero_div-result
nonzero_div-result c = search rules

pub overflow_mul-result : goal.overflow_mul-result
overflow_mul-result c = omega (arith, whole_most c.args.t c.args.d c.args.b c.requires.1)

pub nonzero_rem-result : goal.nonzero_rem-result
nonzero_rem-result c = search rules

pub overflow_mul-result-2 : goal.overflow_mul-result-2
overflow_mul-result-2 c = omega (arith, rest_most c.args.t c.args.d c.args.b c.requires.0 c.requires.2 c.requires.3)

pub nonzero_div-result-2 : goal.nonzero_div-result-2
nonzero_div-result-2 c = search rules

pub overflow_add-result : goal.overflow_add-result
overflow_add-result c =
    omega (
      arith,
      share_is c.args.t c.args.d c.args.b c.requires.0,
      share_most c.args.t c.args.d c.args.b c.requires.1,
    )

pub returns : goal.returns
returns c = share_is c.args.t c.args.d c.args.b c.requires.0
