-- `day_paid::pay_kept` meets its contract: after k turns the first k lines are paid and added up.
use Prim.Native.Nat.{◌-◌, ◌≤◌}
use mathlib.Core.Path.{◌≡◌}
use lib.Seq.{sets}
use native.Mathlib.Omega.{arith}
use borrow.Author.Rules.{rules}
use Rattle.rules.specs.Days.{settled_day}
use Rattle.step_inputs.specs.Paid.{settled_sized}
use Rattle.day_pools.specs.Sums.{money_to}
use Rattle.day_pools.specs.Lines.{no_money_lem}
use Rattle.day_paid.specs.Sums.{line_money}
use Rattle.day_paid.specs.Paid.{payments_to, payments_none, payments_next}
use Rattle.day_paid.proofs.Laws.{money_steps, money_signable, total_addable, lines_next, line_payments_lem, all_paid}
use Rattle.day_paid.proofs.pay_kept.Goals as goal

pub line_count-k-end-requires : goal.line_count-k-end-requires
line_count-k-end-requires c = omega (arith, c.requires.0.header.length_least)

pub loop-k-init : goal.loop-k-init
loop-k-init c =
    let y = settled_day c.args.day.now in
    (no_money_lem (line_money y), payments_none y _)

pub kept_money-money-requires : goal.kept_money-money-requires
kept_money-money-requires c = (
  c.requires.0,
  omega (arith, c.line_count-k-end.ensures),
  c.requires.1,
  c.requires.2,
  c.requires.3.pools,
  c.requires.3.lines c.loop-k.k (omega (arith, c.line_count-k-end.ensures)) _,
)

pub overflow_mul-k : goal.overflow_mul-k
overflow_mul-k c =
    record { fits = omega (arith, c.line_count-k-end.ensures, c.requires.0.header.count_most) }

pub signed_money-requires : goal.signed_money-requires
signed_money-requires c =
    let day = c.args.day.now in
    money_signable (settled_day day) c.loop-k.k (settled_sized day c.requires.0)
    (omega (arith, c.line_count-k-end.ensures)) _
    (money_steps (settled_day day) c.loop-k.k _ c.kept_money-money.ensures)

pub put_payments-requires : goal.put_payments-requires
put_payments-requires c =
    omega (arith, c.line_count-k-end.ensures, c.requires.0.header.count_most)

pub money_add-total-requires : goal.money_add-total-requires
money_add-total-requires c =
    let day = c.args.day.now in
    total_addable (settled_day day) c.loop-k.k (settled_sized day c.requires.0)
    (omega (arith, c.line_count-k-end.ensures)) _ _ c.loop-k.invariant.0
    c.kept_money-money.ensures

pub loop-k-preserved : goal.loop-k-preserved
loop-k-preserved c =
    let y = settled_day c.args.day.now in
    let k = c.loop-k.k in
    let paid' = line_payments_lem y k _ _ _ _ (money_steps y k _ c.kept_money-money.ensures)
    c.signed_money.ensures c.put_payments.ensures in (
      lines_next y k _ _ _ c.loop-k.invariant.0 c.kept_money-money.ensures c.money_add-total.ensures,
      payments_next y k _ _ _ c.loop-k.invariant.1 paid',
    )

pub returns : goal.returns
returns c =
    let whole =
    all_paid (settled_day c.args.day.now) c.loop-k.k _ _ _ _
    c.line_count-k-end.ensures c.loop-k.auto.k-end c.loop-k-test.false
    c.loop-k.invariant.0 c.loop-k.invariant.1 in
    record { value = whole.0; paid_after = whole.1 }
