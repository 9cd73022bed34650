-- `cutter_prices::step_rows` meets its contract.
use Rattle.std.proofs.Common.{◌≡◌, ℕ, ◌<◌, get_or, rules}
use mathlib.Core.Path.{◌∙◌, ap₂}
use Rattle.rules.specs.Steps.{price, flag}
use Rattle.cutter_cursors.specs.Places.{five_of}
use Rattle.cutter_prices.specs.Step.{step_rows}
use Rattle.cutter_prices.specs.declared.StepPrice.{StepPrice}
use Rattle.cutter_prices.proofs.Written.{price_at, flag_at}
use Rattle.cutter_prices.proofs.step_rows.Goals as goal

pub returns : goal.returns
unfolding step_rows
returns c =
    let none : StepPrice = record { price = 0; flag = 0 } in
    let prices : (s : ℕ) → s < 5 → get_or c.map.result s 0 ≡ (get_or c.step_prices-steps.result s none).price =
    λ s l. search (rules, c.map.ensures.items.at s none 0 l)
    in
    let flags : (s : ℕ) → s < 5 → get_or c.map-2.result s 0 ≡ (get_or c.step_prices-steps.result s none).flag =
    λ s l. search (rules, c.map-2.ensures.items.at s none 0 l)
    in
    ap₂ (λ p f. record { price = p; flag = f })
    (five_of 0 (λ s. price c.args.line.now s c.args.u) _ c.map.ensures.items.long
    (λ s l. prices s l ∙ price_at c.args.line.now c.args.u c.step_prices-steps.ensures none l))
    (five_of 0 (λ s. flag c.args.line.now s c.args.u) _ c.map-2.ensures.items.long
    (λ s l. flags s l ∙ flag_at c.args.line.now c.args.u c.step_prices-steps.ensures none l))
