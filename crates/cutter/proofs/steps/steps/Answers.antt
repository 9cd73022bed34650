-- `cutter::steps::steps` meets its contract.
use Rattle.std.proofs.Common.{ℕ, arith, sym, subst}
use Rattle.cutter_cursors.specs.Sweep.{SweepAt}
use Rattle.cutter.specs.Ends.{count_most}
use Rattle.cutter.proofs.positions.Laws.{lower_most, room}
use Rattle.cutter.proofs.steps.Swept.{swept_none, missing_most, swept_more, swept_all}
use Rattle.cutter.proofs.steps.steps.Goals as goal

pub loop-end-init : goal.loop-end-init
loop-end-init c = swept_none _ _ _ _ _ c.first_position-at.ensures.0 c.first_position-at.ensures.1

pub next_end-requires : goal.next_end-requires
next_end-requires c = lower_most c.loop-end.invariant.swept

pub offset_bounds-ends-at : goal.offset_bounds-ends-at
offset_bounds-ends-at c = omega (arith, room c.loop-end.invariant.swept c.in-Some.ensures.0)

pub bounds-ends-at : goal.bounds-ends-at
bounds-ends-at c = room c.loop-end.invariant.swept c.in-Some.ensures.0

pub put_step-missing-requires : goal.put_step-missing-requires
put_step-missing-requires c = (
  subst (λ (x : ℕ). SweepAt c.args.line.now c.loop-end.at.places x) (sym c.in-Some.ensures.1) c.loop-end.invariant.swept.here,
  c.price_slots-slots.ensures,
  room c.loop-end.invariant.swept c.in-Some.ensures.0,
  missing_most _ _ c.loop-end.invariant.missing,
)

pub loop-end-preserved : goal.loop-end-preserved
loop-end-preserved c =
    swept_more c.requires c.loop-end.invariant c.in-Some.ensures.0 c.in-Some.ensures.1 c.put_step-missing.ensures.prices_after
    c.put_step-missing.ensures.value c.passed-at.ensures.0 c.passed-at.ensures.1

pub flag_words-flags-requires : goal.flag_words-flags-requires
flag_words-flags-requires c =
    (omega (arith, c.loop-end.invariant.swept.within, count_most _ c.requires.accepted), missing_most _ _ c.loop-end.invariant.missing)

pub overflow_cast-result : goal.overflow_cast-result
overflow_cast-result c =
    omega (arith, c.loop-end.invariant.swept.within, count_most _ c.requires.accepted)

pub returns : goal.returns
returns c =
    swept_all c.requires c.loop-end.invariant c.in_default.ensures
    c.flag_words-flags.ensures c.counted.ensures
