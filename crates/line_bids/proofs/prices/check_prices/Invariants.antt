use Rattle.std.proofs.Common.{◌≡◌}
use Rattle.rules.specs.Fold.{first}
use Rattle.rules.specs.Refusals.{price_fault}
use Rattle.line_bids.proofs.prices.check_prices.Given as goal

abbrev pub invariant-loop-j : goal.invariant-loop-j
invariant-loop-j l = first (price_fault l.line l.s) l.j ≡ 0
