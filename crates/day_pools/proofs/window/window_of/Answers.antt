-- `day_pools::window::window_of` meets its contract: by whether the line is accredited in some schedule.
use borrow.Author.Rules.{rules}
use Rattle.day_pools.proofs.Idle.{window_none, window_some}
use Rattle.day_pools.proofs.window.window_of.Goals as goal

pub returns-then-most-eq0 : goal.returns-then-most-eq0
returns-then-most-eq0 c =
    window_none c.args.t _ _ _ c.least.ensures c.max-from.ensures
    c.most.ensures c.if-most-eq0.true

pub returns : goal.returns
returns c =
    window_some c.args.t _ _ _ c.least.ensures c.max-from.ensures
    c.most.ensures c.if-most-eq0.false _ c.most-2.ensures
