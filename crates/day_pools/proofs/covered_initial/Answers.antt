-- `day_pools::covered_initial` meets its contract.
use mathlib.Core.Path.{◌∙◌, ap}
use Rattle.rules.specs.Steps.{step_count}
use Rattle.day_pools.proofs.Passes.{line_ready, covered_money}
use Rattle.day_pools.proofs.covered_initial.Goals as goal

pub first_position-requires : goal.first_position-requires
first_position-requires c = line_ready c.args.line.now.ready

pub count_from-requires : goal.count_from-requires
count_from-requires c = (line_ready c.args.line.now.ready, c.first_position.ensures.0)

pub returns : goal.returns
returns c =
    (c.count_from.ensures ∙ ap step_count c.args.line.now.ready.line, covered_money c.args.line.now.ready c.requires)
