-- `day_paid::pay_lines` meets its contract: by whether clawback is on.
use mathlib.Core.Path.{sym, ◌∙◌}
use borrow.Author.Rules.{rules}
use Rattle.day_pools.proofs.Laws.{market_claw}
use Rattle.day_paid.proofs.Laws.{clawback_on}
use Rattle.day_paid.proofs.pay_lines.Goals as goal

pub pay_initial-requires : goal.pay_initial-requires
pay_initial-requires c =
    (c.requires.0, c.requires.1, sym (market_claw c.args.day.now _ c.requires.1) ∙ c.if-m-eq0.true)

pub pay_final-requires : goal.pay_final-requires
pay_final-requires c =
    (c.requires.0, c.requires.1, clawback_on c.args.day.now c.requires.0 _ c.requires.1 c.if-m-eq0.false)
