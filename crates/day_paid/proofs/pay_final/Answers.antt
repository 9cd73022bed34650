-- `day_paid::pay_final` meets its contract.
use Rattle.day_paid.proofs.pay_final.Goals as goal

pub keep_lines-kept-requires : goal.keep_lines-kept-requires
keep_lines-kept-requires c = (c.requires.0, c.requires.1)

pub pay_kept-requires : goal.pay_kept-requires
pay_kept-requires c =
    (c.requires.0, c.requires.1, c.requires.2, c.keep_lines-kept.ensures.kept_all)

pub returns : goal.returns
returns c = record { value = c.pay_kept.ensures.value; paid_after = c.pay_kept.ensures.paid_after; counts_after = c.keep_lines-kept.ensures.counts_after }
