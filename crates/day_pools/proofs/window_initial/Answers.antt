-- `day_pools::window_initial` meets its contract.
use native.Mathlib.Omega.{arith}
use mathlib.Core.Path.{◌≡◌, ◌∙◌, ap}
use borrow.Author.Rules.{rules}
use Rattle.rules.specs.Steps.{step_count}
use Rattle.rules.specs.Payments.{initial}
use Rattle.rules.specs.Days.{settled_day}
use Rattle.rules.specs.declared.Step.{Step}
use Rattle.cutter.proofs.positions.Laws.{below_count}
use Rattle.step_payments.specs.Amounts.{money_of}
use Rattle.step_pool.specs.Amounts.{money_sum}
use Rattle.day_pools.specs.declared.window.Window.{Window}
use Rattle.day_pools.specs.Sums.{money_whole}
use Rattle.day_pools.specs.Lines.{step_money}
use Rattle.day_pools.proofs.Laws.{money_addable}
use Rattle.day_pools.proofs.Passes.{past_next, line_ready, here_own, below_there, within_there, idle_there}
use Rattle.day_pools.proofs.Passes.{money_off, money_first, money_last, money_next}
use Rattle.day_pools.proofs.window_initial.Goals as goal

pub loop-slots-init : goal.loop-slots-init
loop-slots-init c =
    let ready = c.args.line.now.ready in
    (here_own ready c.requires.1, money_first ready c.requires.1)

pub initial_with-money-requires : goal.initial_with-money-requires
initial_with-money-requires c =
    let line = c.args.line.now in
    let ready = line.ready in
    let d = line.day.now in
    let j = c.loop-slots.at.step in
    let inv = c.loop-slots.invariant in
    let on = c.goes_on.ensures.on c.loop-slots-test.true in (
      money_addable d ready.accepted line.k ready.there j (below_there ready inv.0 on.0) _ _
          inv.1 (ap (λ (x : Step). money_of (initial x)) c.step_here.ensures ∙ money_off d line.k j c.requires.0),
      money_whole j (step_money (settled_day d) line.k) _ inv.1,
    )

pub loop-slots-smaller : goal.loop-slots-smaller
loop-slots-smaller c =
    let on = c.goes_on.ensures.on c.loop-slots-test.true in
    omega (arith, below_count c.loop-slots.invariant.0.swept on.0, c.next-at.ensures.2)

pub loop-slots-preserved : goal.loop-slots-preserved
loop-slots-preserved c =
    let line = c.args.line.now in
    let d = line.day.now in
    let k = line.k in
    let j = c.loop-slots.at.step in
    let inv = c.loop-slots.invariant in
    let on = c.goes_on.ensures.on c.loop-slots-test.true in
    let money = c.initial_with-money.ensures
    ∙ ap (λ (x : Step). money_sum c.loop-slots.money (money_of (initial x))) c.step_here.ensures
    ∙ ap (money_sum c.loop-slots.money) (money_off d k j c.requires.0) in
    let next = c.next-at.ensures in
    (past_next inv.0 on.0 next.0 next.1 next.2, rw next.2 (money_next d k j _ _ inv.1 money))

pub returns : goal.returns
returns c =
    let ready = c.args.line.now.ready in
    let inv = c.loop-slots.invariant in
    let idle = idle_there ready inv.0 _ (ap (λ (z : Window). z.to) c.window_of-to.ensures) (c.goes_on.ensures.off c.loop-slots-test.false) in (
      c.count_from.ensures ∙ ap step_count ready.line,
      money_last ready c.loop-slots.at.step _ inv.1 (within_there ready inv.0) idle,
    )
