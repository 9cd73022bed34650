-- `step_payments::given_back::given_back` meets its contract: the sum of the first r products.
use Rattle.std.proofs.Common.{◌≡◌}
use Rattle.rules.specs.Fold.{sum_to}
use Rattle.step_changes.specs.Changes.{product_in}
use Rattle.step_payments.proofs.given_back.given_back.Given as goal

abbrev pub invariant-loop-r : goal.invariant-loop-r
invariant-loop-r l = l.sum ≡ sum_to l.r (product_in l.m l.rate)
