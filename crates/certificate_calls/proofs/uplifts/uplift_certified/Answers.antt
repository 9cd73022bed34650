-- `certificate_calls::uplifts::uplift_certified` meets its contract: both calls meet their own, and these give the laws.
use Rattle.certificate_calls.specs.Calls.{settled_uplift}
use Rattle.certificate_calls.proofs.uplifts.uplift_certified.Goals as goal

pub returns-clause-certified_uplift : goal.returns-clause-certified_uplift
returns-clause-certified_uplift c = settled_uplift c.args.day.now _ _ _ c.uplift.ensures c.settle-settled.ensures.book_after
