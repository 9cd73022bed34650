-- `cutter_cursors::cursors::next_gap` meets its contract.
use Rattle.std.proofs.Common.{◌≡◌, arith, rules}
use Rattle.std.proofs.iter.Serving.{serving}
use Rattle.rules.specs.Fold.{five}
use Rattle.cutter_cursors.specs.Sweep.{break_gap}
use Rattle.cutter_cursors.specs.Places.{standing, five_of, hedge_limit}
use Rattle.cutter_cursors.specs.Gaps.{sweep_stays}
use Rattle.cutter_cursors.proofs.cursors.Moves.{next_is}
use Rattle.cutter_cursors.proofs.cursors.next_gap.Goals as goal

pub from_fn-gaps-requires : goal.from_fn-gaps-requires
from_fn-gaps-requires c = grind (serving, standing)

pub gap-requires : goal.gap-requires
gap-requires c = (omega (arith, hedge_limit c.requires.0.line), c.requires.1)

pub returns : goal.returns
returns c =
    let gaps : c.from_fn-gaps.result ≡ five (break_gap c.args.line.now c.args.e) =
    five_of 0 (break_gap c.args.line.now c.args.e) _ c.from_fn-gaps.ensures.items.long (λ s l. search (rules, c.from_fn-gaps.ensures.items.at s 0 l))
    in
    let least = next_is _ _ gaps c.min.ensures c.min-2.ensures c.min-3.ensures c.hedge.ensures c.gap.ensures
    c.min-4.ensures c.min-5.ensures in
    record { value = least; sweep_at = sweep_stays _ c.requires.0 least }
