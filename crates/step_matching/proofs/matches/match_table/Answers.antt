-- `step_matching::matches::match_table` meets its contract: row by row.
use Rattle.std.proofs.Common.{rules, refl, arith, ◌≡◌}
use Rattle.step_matching.proofs.open_rises.Entering.{filling_none, filling_next, filled}
use Rattle.step_matching.proofs.matches.match_table.Goals as goal

pub loop-s-init : goal.loop-s-init
loop-s-init c = filling_none c.args.c _ c.empty-open.result refl

pub loop-s-preserved : goal.loop-s-preserved
loop-s-preserved c =
    filling_next c.args.c c.loop-s.s-counter c.from_fn.result c.loop-s.invariant c.loop-s-test.true c.enter.ensures (search rules)
    (λ r h. let k = c.from_fn.ensures.items.at r 0 h in search rules)

pub returns : goal.returns
returns c = let e : c.loop-s.s-counter ≡ 5 = omega arith in filled c.args.c (rw e at c.loop-s.invariant)
