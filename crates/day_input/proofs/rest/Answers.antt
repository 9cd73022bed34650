-- 4,096 bytes more.
use Rattle.std.proofs.Common.{arith, rules}
use Rattle.day_input.proofs.Stream.{passes_more}
use Rattle.day_input.proofs.rest.Goals as goal

pub loop-turns-preserved : goal.loop-turns-preserved
loop-turns-preserved g c =
    let before = c.loop-turns.invariant in
    let read = c.in_ok-n.ensures in
    (omega (arith, before.0, read.most), passes_more _ _ _ _ _ before.1 read.passed)
