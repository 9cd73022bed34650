-- `day_pools::window::goes_on` meets its contract.
use native.Mathlib.Omega.{arith}
use mathlib.Core.Bool.{false≢true}
use borrow.Author.Tests.{ltb-true, ltb-false}
use Rattle.day_pools.proofs.window.goes_on.Goals as goal

pub returns-then-gap-ge-FAR : goal.returns-then-gap-ge-FAR
returns-then-gap-ge-FAR c = record { on = λ e. absurd (false≢true e); off = λ e l. absurd (omega (arith, c.if-gap-ge-FAR.true)) }

pub returns : goal.returns
returns c =
    let lower = c.args.lower in
    let to = c.args.to in
    record {
      on = λ e. (omega (arith, c.if-gap-ge-FAR.false), ltb-true lower to e);
      off = λ e l. omega (arith, ltb-false lower to e);
    }
