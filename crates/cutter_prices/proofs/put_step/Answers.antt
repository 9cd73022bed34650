-- `cutter_prices::put_step` meets its contract.
use Rattle.std.proofs.Common.{◌≡◌, ℕ, ◌+◌, ◌<◌, get_or, arith, rules, refl}
use mathlib.Core.Path.{◌∙◌, ap}
use Rattle.std.proofs.iter.Serving.{serving}
use Rattle.rules.specs.Fold.{at}
use Rattle.rules.specs.Steps.{flag}
use Rattle.cutter_cursors.specs.Places.{five_of}
use Rattle.cutter_prices.specs.Step.{put_to, prices_put, missing_with}
use Rattle.cutter_prices.specs.declared.StepPrice.{StepPrice}
use Rattle.cutter_prices.proofs.Written.{price_at, flag_at, flag_fits, put_more}
use Rattle.cutter_prices.proofs.put_step.Goals as goal

pub loop-s-init : goal.loop-s-init
unfolding put_to
loop-s-init c = refl

pub loop-s-preserved : goal.loop-s-preserved
loop-s-preserved c =
    put_more _ _ _ _ _ c.loop-s.invariant (price_at c.args.line.now c.args.u c.step_prices-steps.ensures _ c.loop-s-test.true)

pub from_fn-requires : goal.from_fn-requires
from_fn-requires c = grind (serving, arith, c.requires.3, flag_fits)

pub returns : goal.returns
unfolding prices_put missing_with
returns c =
    let none : StepPrice = record { price = 0; flag = 0 } in
    let counts : (s : ℕ) → s < 5 → get_or c.from_fn.result s 0 ≡ at c.args.missing.count s + (get_or c.step_prices-steps.result s none).flag =
    λ s l. search (rules, c.from_fn.ensures.items.at s 0 l)
    in
    let last : c.loop-s.s ≡ 5 = omega arith in
    record {
      value =
          ap (λ l. record { count = l })
          (five_of 0 (λ s. at c.args.missing.count s + flag c.args.line.now s c.args.u) _ c.from_fn.ensures.items.long
          (λ s l.
          counts s l
          ∙ ap (λ (f : ℕ). at c.args.missing.count s + f) (flag_at c.args.line.now c.args.u c.step_prices-steps.ensures none l)));
      prices_after = rw last at c.loop-s.invariant;
    }
