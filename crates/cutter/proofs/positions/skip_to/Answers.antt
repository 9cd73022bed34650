-- `cutter::positions::skip_to` meets its contract.
use Rattle.std.proofs.Common.{arith, ◌∙◌}
use Rattle.cutter.proofs.positions.Laws.{lower_most, end_is, below_next}
use Rattle.cutter.proofs.positions.skip_to.Goals as goal

pub loop-end-init : goal.loop-end-init
loop-end-init c = (c.requires.1, omega arith, λ i a b. absurd (omega arith))

pub end_by-requires : goal.end_by-requires
end_by-requires c = lower_most c.loop-end.invariant.0

pub passed-at-requires : goal.passed-at-requires
passed-at-requires c = let by = c.in-Some.ensures in (c.loop-end.invariant.0, by.0, by.1)

pub loop-end-preserved : goal.loop-end-preserved
loop-end-preserved c =
    let by = c.in-Some.ensures in
    let on = c.passed-at.ensures in
    (on.0, omega (arith, c.loop-end.invariant.1, on.1), λ i a b. below_next _ _ _ _ c.loop-end.invariant.2 (by.1 ∙ end_is c.loop-end.invariant.0 by.0) by.2 i a (omega (arith, on.1)))

pub returns : goal.returns
returns c =
    record {
      swept = c.loop-end.invariant.0;
      on = c.loop-end.invariant.1;
      below = c.loop-end.invariant.2;
      above = c.in_default.ensures;
    }
