-- `step_msiq::msiq`: from schedule s on `q` is MSIQ.
use Rattle.rules.specs.Quantities.{msiq}
use Rattle.numbers.specs.Carried.{Carried}
use Rattle.step_msiq.proofs.msiq.Given as goal

abbrev pub invariant-loop-s : goal.invariant-loop-s
invariant-loop-s l = Carried l.fn.e (msiq l.fn.side l.fn.price l.fn.market l.fn.e) l.q l.s
