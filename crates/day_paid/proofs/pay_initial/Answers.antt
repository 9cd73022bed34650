-- `day_paid::pay_initial` meets its contract: after k turns the first k lines are paid and added up.
use Prim.Native.Nat.{◌-◌, ◌≤◌}
use mathlib.Core.Path.{◌≡◌}
use lib.Seq.{sets}
use native.Mathlib.Omega.{arith}
use borrow.Author.Rules.{rules}
use Rattle.rules.specs.Fold.{list_to}
use Rattle.rules.specs.Days.{settled_day}
use Rattle.step_inputs.specs.Paid.{settled_sized}
use Rattle.day_pools.specs.Sums.{money_to}
use Rattle.day_pools.specs.Lines.{no_money_lem}
use Rattle.day_paid.specs.Sums.{line_money}
use Rattle.day_paid.specs.Paid.{payments_to, payments_none, payments_next, counts_none, counts_next}
use Rattle.day_paid.proofs.Laws.{total_addable, lines_next, lines_paid}
use Rattle.day_paid.proofs.pay_initial.Goals as goal

pub line_count-k-end-requires : goal.line_count-k-end-requires
line_count-k-end-requires c = omega (arith, c.requires.0.header.length_least)

pub loop-k-init : goal.loop-k-init
loop-k-init c =
    let y = settled_day c.args.day.now in
    (no_money_lem (line_money y), payments_none y _, counts_none y.count _)

pub pay_line-money-requires : goal.pay_line-money-requires
pay_line-money-requires c =
    (c.requires.0, c.requires.1, c.requires.2, omega (arith, c.line_count-k-end.ensures))

pub money_add-total-requires : goal.money_add-total-requires
money_add-total-requires c =
    let day = c.args.day.now in
    total_addable (settled_day day) c.loop-k.k (settled_sized day c.requires.0)
    (omega (arith, c.line_count-k-end.ensures)) _ _ c.loop-k.invariant.0 c.pay_line-money.ensures.value

pub loop-k-preserved : goal.loop-k-preserved
loop-k-preserved c =
    let y = settled_day c.args.day.now in
    let k = c.loop-k.k in (
      lines_next y k _ _ _ c.loop-k.invariant.0 c.pay_line-money.ensures.value c.money_add-total.ensures,
      payments_next y k _ _ _ c.loop-k.invariant.1 c.pay_line-money.ensures.paid_after,
      counts_next y.count k _ _ _ c.loop-k.invariant.2 c.pay_line-money.ensures.counts_after,
    )

pub returns : goal.returns
returns c =
    let whole =
    lines_paid (settled_day c.args.day.now) c.loop-k.k _ _ _ _ _ _
    c.line_count-k-end.ensures c.loop-k.auto.k-end c.loop-k-test.false c.loop-k.invariant.0
    c.loop-k.invariant.1 c.loop-k.invariant.2 in
    record { value = whole.0; paid_after = whole.1.0; counts_after = whole.1.1 }
