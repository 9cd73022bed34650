-- `cutter_prices::step_prices` meets its contract: schedule by schedule.
use Rattle.std.proofs.Common.{rules}
use Rattle.std.proofs.iter.Serving.{serving}
use Rattle.cutter_cursors.specs.Places.{standing, five_of}
use Rattle.cutter_prices.specs.Step.{step_price}
use Rattle.cutter_prices.proofs.Written.{slot_at}
use Rattle.cutter_prices.proofs.step_prices.Goals as goal

pub from_fn-requires : goal.from_fn-requires
from_fn-requires c = grind (serving, standing, slot_at)

pub returns : goal.returns
returns c = five_of (step_price c.args.line.now 0 c.args.u) (λ s. step_price c.args.line.now s c.args.u) _ c.from_fn.ensures.items.long (λ s l. search (rules, c.from_fn.ensures.items.at s (step_price c.args.line.now 0 c.args.u) l))
