-- Sums of ten words: how large one is, and all ten of them written out.
use Rattle.std.proofs.Common.{◌≡◌, ℕ, ◌+◌, ◌*◌, ◌<◌, ◌≤◌, suc, length, List, [], ◌∷◌, arith, sum, Fits, w32}
use Rattle.std.proofs.lemmas.Grind.{common_steps}
use Rattle.rules.specs.Fold.{at}

within : (m : ℕ) (xs : List ℕ) → ((i : ℕ) → at xs i ≤ m) → sum xs ≤ length xs * m
within m [] h = omega arith
within m (x ∷ xs) h =
    let r = within m xs (λ i. h (suc i)) in
    let e = h 0 in
    rw native.Mathlib.Nat.suc-mul (grind (arith, common_steps))

pub sum_within : (xs : List ℕ) → length xs ≤ 10 → ((i : ℕ) → Fits w32 (at xs i)) → sum xs < 68719476736
sum_within xs h f =
    let r = within 4294967295 xs (λ i. let e = (f i).fits in omega arith) in
    omega arith

pub sum_ten : (m : List ℕ) → length m ≡ 10 → sum m ≡ at m 0 + at m 1 + at m 2 + at m 3 + at m 4 + at m 5 + at m 6 + at m 7 + at m 8 + at m 9
sum_ten m h = grind (arith, common_steps)
