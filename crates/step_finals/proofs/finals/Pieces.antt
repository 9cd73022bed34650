-- What the final payments of a step take back, from its pieces as the code has them.
use Prim.Native.Nat.{ℕ, zero, suc, ◌<◌, ◌^◌}
use native.Mathlib.Omega.{arith}
use mathlib.Core.Path.{◌≡◌, refl, ◌∙◌, ap}
use mathlib.Core.Bool.{cond}
use mathlib.Core.List.{List, []}
use lib.Dec.{eqb}
use lib.ListN.{get_or}
use borrow.Author.Tests.{ne_eqb}
use Rattle.rules.specs.Fold.{five, at}
use Rattle.rules.specs.Matching.{fall}
use Rattle.rules.specs.Payments.{on_step, rate, revised_rate, initial, revised, modified, given_back}
use Rattle.rules.specs.declared.Step.{Step}
use Rattle.laws.specs.Folds.{at_five}
use Rattle.step_changes.specs.Changes.{revised_at}
use Rattle.step_matching.specs.Ledgers.{match_row}
use Rattle.step_payments.specs.Sizes.{Sized, rate_most}
use Rattle.step_payments.specs.Parts.{change_on, revised_taken_lem, modified_minus}
use Rattle.step_payments.specs.Amounts.{given_at, revised_given, minus_of}
use Rattle.step_payments.proofs.amounts.Joining.{row_is, given_is, given_fits}
use Rattle.step_pool.specs.declared.pool_amounts.Changes.{Changes}
use Rattle.step_pool.specs.Amounts.{changes_on, final_taken, taken_on, Sharing, SharedOn}
use Rattle.step_pool.proofs.pool_amounts.Settling.{of_falls, of_minus}

-- an initial payment that takes nothing back is revised and modified to none
sharing_by : (i r d t b : ℕ) → Sharing i r d t b → Sharing i (cond (eqb i 0) 0 r) d t b
sharing_by zero r d t b k =
    record { part = k.part; some = k.some; base = k.base; fall = k.fall; fits = omega (arith, k.fits) }
sharing_by (suc i) r d t b k = rw (ne_eqb (suc i) 0 (λ q. omega arith)) k

taken_by : (flag i r m d t b : ℕ) → final_taken flag i (cond (eqb i 0) 0 r) (cond (eqb i 0) 0 m) d t b ≡ final_taken flag i r m d t b
unfolding final_taken
taken_by flag zero r m d t b = refl
taken_by flag (suc i) r m d t b = rw (ne_eqb (suc i) 0 (λ q. omega arith))

-- in schedule s
module _ (x : Step) {v : Changes} (e : v ≡ changes_on x) (s : ℕ) (h : s < 5) where
  initial_is : at v.minus s ≡ minus_of (initial x) s
  initial_is = ap (λ (l : List ℕ). at l s) (of_minus x v e) ∙ at_five (minus_of (initial x)) 0 s h

  fall_is : at v.falls s ≡ change_on fall x s
  fall_is = ap (λ (l : List ℕ). at l s) (of_falls x v e) ∙ at_five (change_on fall x) 0 s h

  -- from what the revised and the modified payments take back
  module _ {r m : List ℕ} (p : r ≡ five (minus_of (revised x))) (q : m ≡ five (minus_of (modified x))) where
    revised_at_lem : at r s ≡ cond (eqb (minus_of (initial x) s) 0) 0 (given_back x s (revised_rate x s))
    unfolding minus_of
    revised_at_lem = ap (λ (l : List ℕ). at l s) p ∙ at_five (minus_of (revised x)) 0 s h ∙ revised_taken_lem x s

    modified_at : at m s ≡ cond (eqb (minus_of (initial x) s) 0) 0 (given_back x s (rate x))
    unfolding minus_of
    modified_at = ap (λ (l : List ℕ). at l s) q ∙ at_five (minus_of (modified x)) 0 s h ∙ modified_minus x s

    -- what `final_in` requires in s, and what it gives
    pub asked_by_rows : {a b : List ℕ} → SharedOn x a b → Sharing (at v.minus s) (at r s) (at v.falls s) (at a s) (at b s)
    asked_by_rows k = rw (initial_is, revised_at_lem, fall_is) (sharing_by _ _ _ _ _ (k.sharing s h))

    pub given_by_rows : (a b : List ℕ) {n : ℕ} → 0 < s
        → n ≡ final_taken (at x.flag s) (at v.minus s) (at r s) (at m s) (at v.falls s) (at a s) (at b s)
        → n ≡ taken_on x a b s
    unfolding taken_on
    given_by_rows a b l g =
        g
        ∙ rw (ne_eqb s 0 (λ z. omega arith), initial_is, revised_at_lem, modified_at, fall_is)
        (taken_by (at x.flag s) (minus_of (initial x) s) (given_back x s (revised_rate x s)) (given_back x s (rate x)) (change_on fall x s) (at a s) (at b s))

  -- from C, R and the match table
  module _ {c f : List ℕ} {m : List (List ℕ)} (p : c ≡ on_step x) (q : f ≡ five (rate x)) (t : m ≡ five (match_row c)) where
    revised_is : revised_given x.side x.price x.market m s ≡ given_back x s (revised_rate x s)
    unfolding revised_given revised_rate revised_at
    revised_is = given_is x s (revised_rate x s) h (row_is x p t s h) refl

    modified_is : given_at (get_or m s []) f ≡ given_back x s (rate x)
    modified_is = given_is x s (rate x) h (row_is x p t s h) q

    -- what `taken_in` requires in s, and what it gives
    pub asked : {a b : List ℕ} → Sized x → SharedOn x a b
        → (Sharing (at v.minus s) (revised_given x.side x.price x.market m s) (at v.falls s) (at a s) (at b s)) × (given_at (get_or m s []) f < 2 ^ 64)
    asked z k =
        (rw (initial_is, revised_is, fall_is) (k.sharing s h), given_fits x s (rate x) h (row_is x p t s h) q z (λ r. rate_most x r z))

    pub given : (a b : List ℕ) {n : ℕ} → 0 < s
        → n ≡ final_taken (at x.flag s) (at v.minus s) (revised_given x.side x.price x.market m s) (given_at (get_or m s []) f) (at v.falls s) (at a s) (at b s)
        → n ≡ taken_on x a b s
    unfolding taken_on
    given a b l g = g ∙ rw (ne_eqb s 0 (λ z. omega arith), initial_is, revised_is, modified_is, fall_is)
