-- `certificate_calls::settle_certified` meets its contract: settling meets its own, and where it is settled, this is the certificate.
use Rattle.certificate_calls.specs.Calls.{settled_certified}
use Rattle.certificate_calls.proofs.settle_certified.Goals as goal

pub returns-clause-certified_day : goal.returns-clause-certified_day
returns-clause-certified_day c = settled_certified c.args.day.now _ _ _ c.settle.ensures.value c.settle.ensures.book_after
