-- `day_pools::window_pool` meets its contract.
use Prim.Native.Nat.{ℕ, ◌+◌, ◌-◌, ◌≤◌}
use native.Mathlib.Omega.{arith}
use mathlib.Core.Path.{◌≡◌, sym, ◌∙◌, ap, subst}
use borrow.Author.Rules.{rules}
use Rattle.rules.specs.Steps.{step_count}
use Rattle.rules.specs.Days.{step_of, settled_day}
use Rattle.rules.specs.declared.Step.{Step}
use Rattle.cutter.proofs.positions.Laws.{below_count, room}
use Rattle.step_payments.specs.Sizes.{Sized}
use Rattle.step_pool.specs.Amounts.{Addable, step_pool, pool_sum, takes_back}
use Rattle.day_pools.specs.declared.window.Window.{Window}
use Rattle.day_pools.specs.Marks.{word_none}
use Rattle.day_pools.specs.Sums.{pool_whole}
use Rattle.day_pools.specs.Sides.{step_pool_at}
use Rattle.day_pools.proofs.Laws.{sized_at, pool_addable, pool_next}
use Rattle.day_pools.proofs.Passes.{takes_most, past_next, line_ready, here_own, below_there, within_there, idle_there}
use Rattle.day_pools.proofs.Passes.{pool_first, pool_last, marks_fit, marks_next, marks_last}
use Rattle.day_pools.proofs.window_pool.Goals as goal

pub loop-slots-init : goal.loop-slots-init
loop-slots-init c =
    let ready = c.args.line.now.ready in
    let s = c.args.entry.step in
    let none : s - s ≡ 0 = omega arith in (
      omega arith,
      here_own ready c.requires,
      c.empty_pool-pool.ensures ∙ pool_first ready c.requires,
      rw none (sym (word_none _)),
    )

pub pool_with-x-requires : goal.pool_with-x-requires
pool_with-x-requires c =
    let line = c.args.line.now in
    let ready = line.ready in
    let d = line.day.now in
    let j = c.loop-slots.at.step in
    let inv = c.loop-slots.invariant in
    let on = c.goes_on.ensures.on c.loop-slots-test.true in
    let below = below_there ready inv.1 on.0 in
    let same = sym c.step_here.ensures in (
      subst Sized same (sized_at d ready.accepted line.k ready.there j below),
      subst (λ (x : Step). Addable c.loop-slots.pool (step_pool x)) same
          (pool_addable d ready.accepted line.k ready.there j below _ inv.2),
      pool_whole j (step_pool_at (settled_day d) line.k) _ inv.2,
    )

pub with_mark-taking-requires : goal.with_mark-taking-requires
with_mark-taking-requires c =
    let line = c.args.line.now in
    let inv = c.loop-slots.invariant in
    let on = c.goes_on.ensures.on c.loop-slots-test.true in
    (marks_fit line.day.now line.k c.args.entry.step _ _ inv.3, omega (arith, room inv.1.swept on.0))

pub next-at-requires : goal.next-at-requires
next-at-requires c = (c.loop-slots.invariant.1.swept, (c.goes_on.ensures.on c.loop-slots-test.true).0)

pub loop-slots-smaller : goal.loop-slots-smaller
loop-slots-smaller c =
    let on = c.goes_on.ensures.on c.loop-slots-test.true in
    omega (arith, below_count c.loop-slots.invariant.1.swept on.0, c.next-at.ensures.2)

pub loop-slots-preserved : goal.loop-slots-preserved
loop-slots-preserved c =
    let line = c.args.line.now in
    let ready = line.ready in
    let d = line.day.now in
    let k = line.k in
    let s = c.args.entry.step in
    let j = c.loop-slots.at.step in
    let inv = c.loop-slots.invariant in
    let on = c.goes_on.ensures.on c.loop-slots-test.true in
    let below = below_there ready inv.1 on.0 in
    let pool = c.pool_with-x.ensures.0 ∙ ap (λ (x : Step). pool_sum c.loop-slots.pool (step_pool x)) c.step_here.ensures in
    let takes = c.pool_with-x.ensures.1 ∙ ap takes_back c.step_here.ensures in
    let there : j ≡ s + (j - s) = omega (arith, inv.0) in
    let on_by_one : j + 1 - s ≡ j - s + 1 = omega (arith, inv.0) in
    let next = c.next-at.ensures in (
      omega (arith, inv.0, next.2),
      past_next inv.1 on.0 next.0 next.1 next.2,
      rw next.2 (pool_next d ready.accepted k ready.there j below _ _ inv.2 pool),
      rw (next.2, on_by_one)
          (marks_next d k s (j - s) _ _ _ inv.3 (takes ∙ ap (λ (n : ℕ). takes_back (step_of d k n)) there) c.with_mark-taking.ensures),
    )

pub returns : goal.returns
returns c =
    let line = c.args.line.now in
    let ready = line.ready in
    let d = line.day.now in
    let k = line.k in
    let s = c.args.entry.step in
    let j = c.loop-slots.at.step in
    let inv = c.loop-slots.invariant in
    let idle = idle_there ready inv.1 _ (ap (λ (z : Window). z.to) c.window_of-to.ensures) (c.goes_on.ensures.off c.loop-slots-test.false) in
    let within = within_there ready inv.1 in
    record {
      count = c.count_from.ensures ∙ ap step_count ready.line;
      pool = pool_last ready j _ inv.2 within idle;
      kept = record {
        entered = c.requires;
        word = marks_last d k s (j - s) _ _ inv.3 (omega (arith, inv.0, within)) (λ z a b. idle z (omega (arith, a, inv.0)) b);
      };
    }
