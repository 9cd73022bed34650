-- `numbers_wide::divide_digit` meets its contract: the estimate by the high digit of c is the digit, or 1 or 2 more.
use native.Mathlib.Omega.{arith}
use Rattle.numbers_wide.proofs.Laws.{estimate, estimate_is, one_less, two_less}
use Rattle.numbers_wide.proofs.divide_digit.Goals as goal

pub returns-then-taken-rest : goal.returns-then-taken-rest
returns-then-taken-rest c =
    let e = estimate c.args.h c.args.d c.args.c c.requires.0 (omega arith) c.requires.1 (omega arith) in
    rw c.from.ensures (estimate_is e (omega arith))

pub returns-then-excess-c : goal.returns-then-excess-c
returns-then-excess-c c =
    let e = estimate c.args.h c.args.d c.args.c c.requires.0 (omega arith) c.requires.1 (omega arith) in
    rw c.from.ensures (one_less e (omega arith) (omega arith)).1

pub returns-else-excess-c : goal.returns-else-excess-c
returns-else-excess-c c =
    let e = estimate c.args.h c.args.d c.args.c c.requires.0 (omega arith) c.requires.1 (omega arith) in
    rw c.from.ensures (two_less c.requires.0 e (omega arith)).1
