-- `day_pools::covered_pool` meets its contract.
use native.Mathlib.Omega.{arith}
use mathlib.Core.Path.{◌∙◌, ap}
use borrow.Author.Rules.{rules}
use Rattle.rules.specs.Steps.{step_count}
use Rattle.day_pools.proofs.Passes.{line_ready, count_few, counted, covered_pooled}
use Rattle.day_pools.proofs.covered_pool.Goals as goal

pub first_position-requires : goal.first_position-requires
first_position-requires c = line_ready c.args.line.now.ready

pub skip_to-from-requires : goal.skip_to-from-requires
skip_to-from-requires c = (line_ready c.args.line.now.ready, c.first_position.ensures.0)

pub overflow_cast-result : goal.overflow_cast-result
overflow_cast-result c =
    omega (arith, counted c.skip_to-from.ensures ∙ ap step_count c.args.line.now.ready.line, count_few c.args.line.now.ready)

pub returns : goal.returns
returns c =
    covered_pooled c.args.line.now.ready c.requires c.skip_to-from.ensures c.empty_pool.ensures
