-- The certificate's clauses `falls`, `rises` and `balance` on one answer of the view.
use Rattle.std.specs.Prelude.{ℕ, suc, ◌+◌, ◌≤◌, ◌<◌, ◌≡◌, List}
use Rattle.std.proofs.Common.{arith}
use Rattle.rules.specs.Fold.{sum_to, before, at}
use Rattle.rules.specs.Matching.{earlier, rise, fall}
use Rattle.rules.specs.Viewing.{view_answer}
use Rattle.rules.specs.declared.View.{View}
use Rattle.certificate.specs.Certificate.{match_in, matches_made, matches_with}
use Rattle.step_balance.specs.Balance.{FallsMatched, RisesBound, Balanced}
use Rattle.certificate_calls.specs.Calls.{Viewed, viewed, day_certified, count_there}

-- of a step that the view takes
module _ (d : List ℕ) (k j : ℕ) (v : View) (e : v ≡ view_answer d k j) (z : v.number ≡ 0) where
  there : Viewed d k j
  there = viewed d k j v e z

  made : (s : ℕ) → s < 5 → matches_made v s ≡ fall v.constrained s
  made s h = rw e ((day_certified d there.accepted).views.falls k j s there.line (count_there d k j there) h)

  taken : (r : ℕ) → r < 5 → matches_with v r ≤ rise v.constrained r
  taken r h = rw e ((day_certified d there.accepted).views.rises k j r there.line (count_there d k j there) h)

  balance : (s : ℕ) → s < 5 → sum_to (suc s) (rise v.constrained) ≡ at v.constrained s + sum_to (suc s) (matches_made v)
  balance s h = rw e ((day_certified d there.accepted).views.balance k j s there.line (count_there d k j there) h)

  pub falls_matched : FallsMatched v.constrained v.matches
  unfolding matches_made match_in sum_to fall earlier before
  falls_matched =
      record {
        second = omega (arith, made 1 (omega arith));
        third = omega (arith, made 2 (omega arith));
        fourth = omega (arith, made 3 (omega arith));
        fifth = omega (arith, made 4 (omega arith));
      }

  pub rises_bound : RisesBound v.constrained v.matches
  unfolding matches_with match_in sum_to rise earlier before
  rises_bound =
      record {
        first = omega (arith, taken 0 (omega arith));
        second = omega (arith, taken 1 (omega arith));
        third = omega (arith, taken 2 (omega arith));
        fourth = omega (arith, taken 3 (omega arith));
      }

  pub balanced : Balanced v.constrained v.matches
  unfolding matches_made match_in sum_to rise earlier before
  balanced =
      record {
        second = omega (arith, balance 1 (omega arith));
        third = omega (arith, balance 2 (omega arith));
        fourth = omega (arith, balance 3 (omega arith));
        fifth = omega (arith, balance 4 (omega arith));
      }
