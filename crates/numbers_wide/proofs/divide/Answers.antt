-- `numbers_wide::divide` meets its contract: each digit of the quotient is below 2^32.
use Prim.Native.Nat.{◌/◌, ◌^◌}
use native.Mathlib.Omega.{arith}
use lib.Bits.{and_mask}
use Rattle.numbers_wide.specs.Quotients.{quotient_below}
use Rattle.numbers_wide.proofs.Laws.{by_digits}
use Rattle.numbers_wide.proofs.divide.Goals as goal

pub overflow_add-result : goal.overflow_add-result
overflow_add-result c =
    let p = c.args.product in
    let m = and_mask (p / 2 ^ 32) 32 in
    let l = and_mask p 32 in
    omega (arith, quotient_below (2 ^ 32) c.divide_digit-upper.ensures (omega arith), quotient_below (2 ^ 32) c.divide_digit-lower.ensures (omega arith))

pub returns : goal.returns
returns c =
    let p = c.args.product in
    by_digits p c.args.c _ _ (and_mask (p / 2 ^ 32) 32) (and_mask p 32) c.divide_digit-upper.ensures c.divide_digit-lower.ensures
