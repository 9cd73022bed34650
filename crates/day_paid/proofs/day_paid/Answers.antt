-- `day_paid::day_paid` meets its contract: the lines, then the totals.
use Rattle.rules.specs.Days.{settled_day}
use Rattle.step_inputs.specs.Paid.{settled_sized}
use Rattle.day_paid.proofs.Laws.{all_signable, all_bounded, totals_there, adjusted_there}
use Rattle.day_paid.proofs.day_paid.Goals as goal

pub market_of-m-requires : goal.market_of-m-requires
market_of-m-requires c = c.requires.header.length_least

pub pay_lines-money-requires : goal.pay_lines-money-requires
pay_lines-money-requires c =
    (c.requires, c.market_of-m.ensures)

pub signed_money-t-requires : goal.signed_money-t-requires
signed_money-t-requires c =
    let day = c.args.day.now in
    all_signable (settled_day day) (settled_sized day c.requires) _ c.pay_lines-money.ensures.value

pub adjusted-a-requires : goal.adjusted-a-requires
adjusted-a-requires c =
    let day = c.args.day.now in
    all_bounded (settled_day day) (settled_sized day c.requires) _ c.pay_lines-money.ensures.value _
    c.signed_money-t.ensures

pub returns : goal.returns
returns c =
    let day = c.args.day.now in
    let z = settled_sized day c.requires in
    record {
      t_value = (
        totals_there (settled_day day) z _ c.pay_lines-money.ensures.value _ c.signed_money-t.ensures,
        adjusted_there (settled_day day) z _ c.pay_lines-money.ensures.value _ c.signed_money-t.ensures _ c.adjusted-a.ensures,
      );
      paid_after = c.pay_lines-money.ensures.paid_after;
      counts_after = c.pay_lines-money.ensures.counts_after;
    }
