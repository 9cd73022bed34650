-- `day_paid::pay_line` meets its contract: its payments and its steps.
use mathlib.Core.Path.{ap}
use native.Mathlib.Omega.{arith}
use borrow.Author.Rules.{rules}
use Rattle.rules.specs.Days.{settled_day}
use Rattle.step_inputs.specs.Paid.{settled_sized}
use Rattle.day_paid.proofs.Laws.{money_signable, line_money_lem, line_payments_lem}
use Rattle.day_paid.proofs.pay_line.Goals as goal

pub line_initial-x-requires : goal.line_initial-x-requires
line_initial-x-requires c =
    (c.requires.0, c.requires.3, c.requires.1, c.requires.2)

pub overflow_mul-k : goal.overflow_mul-k
overflow_mul-k c =
    record { fits = omega (arith, c.requires.3, c.requires.0.header.count_most) }

pub signed_money-requires : goal.signed_money-requires
signed_money-requires c =
    let day = c.args.day.now in
    money_signable (settled_day day) c.args.k (settled_sized day c.requires.0) c.requires.3 _
    c.line_initial-x.ensures.1

pub put_payments-requires : goal.put_payments-requires
put_payments-requires c =
    omega (arith, c.requires.3, c.requires.0.header.count_most)

pub bounds-counts-k : goal.bounds-counts-k
bounds-counts-k c =
    omega (arith, c.requires.3, c.requires.0.header.count_most)

pub returns : goal.returns
returns c =
    let y = settled_day c.args.day.now in
    let k = c.args.k in record { value = line_money_lem y k _ c.line_initial-x.ensures.1; paid_after = line_payments_lem y k _ _ _ _ c.line_initial-x.ensures.1 c.signed_money.ensures c.put_payments.ensures; counts_after = ap (lib.ListN.set c.args.counts.now k) c.line_initial-x.ensures.0 }
