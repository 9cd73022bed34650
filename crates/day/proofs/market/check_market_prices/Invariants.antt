-- `day::market::check_market_prices` meets its contract.
use mathlib.Core.Path.{◌≡◌}
use Rattle.rules.specs.Fold.{first}
use Rattle.rules.specs.Refusals.{market_price_fault}
use Rattle.day.proofs.market.check_market_prices.Given as goal

abbrev pub invariant-loop-s : goal.invariant-loop-s
invariant-loop-s l = first (market_price_fault l.day) l.s ≡ 0
