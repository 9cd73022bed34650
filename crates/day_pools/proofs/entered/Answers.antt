-- `day_pools::entered` meets its contract.
use mathlib.Core.Path.{ap}
use Rattle.day_pools.specs.declared.window.Window.{Window}
use Rattle.day_pools.proofs.Passes.{line_ready, entered_is}
use Rattle.day_pools.proofs.entered.Goals as goal

pub first_position-requires : goal.first_position-requires
first_position-requires c = line_ready c.args.line.now.ready

pub skip_to-requires : goal.skip_to-requires
skip_to-requires c = (line_ready c.args.line.now.ready, c.first_position.ensures.0)

pub returns : goal.returns
returns c =
    entered_is c.args.line.now.ready _ _ _ c.first_position.ensures.1
    (ap (λ (z : Window). z.from) c.window_of.ensures) c.skip_to.ensures
