-- `step_payments::payments::signed_money` meets its contract: schedule by schedule.
use Rattle.std.proofs.Common.{rules, ◌∙◌, refl, pos}
use Rattle.std.proofs.lemmas.List.FromFn.{fill_by_all}
use Rattle.numbers.specs.Fives.{five_is}
use Rattle.rules.specs.Fold.{at_z}
use Rattle.step_payments.specs.Amounts.{signed_payment}
use Rattle.step_payments.proofs.payments.signed_money.Goals as goal

pub returns : goal.returns
unfolding signed_payment
returns c =
    let w = c.from_fn.result in
    fill_by_all (at_z w) w 5 (pos 0) (search rules) (λ k l. refl)
    ∙ five_is (signed_payment c.args.m) (search rules) (search rules) (search rules) (search rules) (search rules)
