-- `step_inputs::inputs::step_at` meets its contract.
use mathlib.Core.Path.{refl}
use native.Mathlib.Omega.{arith}
use Rattle.cutter.specs.Ends.{count_most}
use Rattle.step_inputs.proofs.inputs.Laws.{step_ready}
use Rattle.step_inputs.proofs.inputs.step_at.Goals as goal

pub offset_bounds-ends-j : goal.offset_bounds-ends-j
offset_bounds-ends-j c = record { fits = omega (arith, c.requires.step, count_most _ c.requires.accepted) }

pub bounds-ends-j : goal.bounds-ends-j
bounds-ends-j c = omega (arith, c.requires.step, count_most _ c.requires.accepted)

pub price_row-price-requires : goal.price_row-price-requires
price_row-price-requires c = omega (arith, c.requires.step, count_most _ c.requires.accepted)

pub flag_row-flag-requires : goal.flag_row-flag-requires
flag_row-flag-requires c = omega (arith, c.requires.step, count_most _ c.requires.accepted)

pub returns : goal.returns
returns c =
    step_ready _ _ _ _ _ _ _ _ _ c.requires _ _ _ _ refl
    c.price_row-price.ensures c.flag_row-flag.ensures c.step_with.ensures
