-- `numbers_wide::multiply_divide` meets its contract: b and c are multiplied by the same power of 2.
use native.Mathlib.Omega.{arith}
use lib.Pow.{pow_pos}
use Rattle.numbers_wide.specs.Quotients.{scaled}
use Rattle.numbers_wide.proofs.Laws.{normal, high_below}
use Rattle.numbers_wide.proofs.multiply_divide.Goals as goal

pub shifted-requires : goal.shifted-requires
shifted-requires c =
    let n = normal c.args.b c.args.c c.requires.0 (omega arith) c.requires.1 in
    (n.few, omega arith)

pub shifted-requires-2 : goal.shifted-requires-2
shifted-requires-2 c =
    let n = normal c.args.b c.args.c c.requires.0 (omega arith) c.requires.1 in
    (n.few, n.fits)

pub divide-scaled-requires : goal.divide-scaled-requires
divide-scaled-requires c =
    let n = normal c.args.b c.args.c c.requires.0 (omega arith) c.requires.1 in
    let b-is = c.shifted.ensures in
    let c-is = c.shifted-2.ensures in (
      omega arith,
      rw c.multiply.ensures (high_below _ _ _ (omega arith) (omega arith) (omega arith)),
    )

pub returns : goal.returns
returns c =
    scaled c.args.a c.args.b c.args.c _ c.requires.0 (pow_pos _)
    c.divide-scaled.ensures c.multiply.ensures c.shifted.ensures c.shifted-2.ensures
