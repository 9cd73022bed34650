-- Laws of `takes` and `leaves`: what a fall takes of a list of open rises, and what it leaves.
use Rattle.std.specs.Prelude.{ℕ, zero, suc, ◌+◌, ◌-◌, ◌≤◌, ◌<◌, min, ◌≡◌, refl, List, [], ◌∷◌, length, get_or, take}
use Rattle.std.proofs.Common.{arith, ◌∙◌, ap}
use Rattle.rules.specs.Fold.{sum_of}
use Rattle.rules.specs.Matching.{takes, leaves}

pub takes_length : (d : ℕ) (us : List ℕ) → length (takes d us) ≡ length us
unfolding takes
takes_length d [] = refl
takes_length d (u ∷ us) = ap suc (takes_length (d - min d u) us)

pub leaves_length : (d : ℕ) (us : List ℕ) → length (leaves d us) ≡ length us
unfolding leaves
leaves_length d [] = refl
leaves_length d (u ∷ us) = ap suc (leaves_length (d - min d u) us)

-- the first n of them depend on the first n open rises alone
pub takes_take : (n d : ℕ) (us : List ℕ) → take n (takes d us) ≡ takes d (take n us)
unfolding takes
takes_take zero d us = refl
takes_take (suc n) d [] = refl
takes_take (suc n) d (u ∷ us) = ap (λ (l : List ℕ). min d u ∷ l) (takes_take n (d - min d u) us)

pub leaves_take : (n d : ℕ) (us : List ℕ) → take n (leaves d us) ≡ leaves d (take n us)
unfolding leaves
leaves_take zero d us = refl
leaves_take (suc n) d [] = refl
leaves_take (suc n) d (u ∷ us) = ap (λ (l : List ℕ). (u - min d u) ∷ l) (leaves_take n (d - min d u) us)

-- a fall of at most the open rises is taken whole
pub takes_sum : (d : ℕ) (us : List ℕ) → d ≤ sum_of us → sum_of (takes d us) ≡ d
unfolding takes sum_of
takes_sum d [] h = omega arith
takes_sum d (u ∷ us) h = let r = takes_sum (d - min d u) us (omega arith) in omega arith

pub leaves_sum : (d : ℕ) (us : List ℕ) → d ≤ sum_of us → sum_of (leaves d us) + d ≡ sum_of us
unfolding leaves sum_of
leaves_sum d [] h = omega arith
leaves_sum d (u ∷ us) h = let r = leaves_sum (d - min d u) us (omega arith) in omega arith

-- what is taken of a rise and what is left are the rise
pub taken_left : (d : ℕ) (us : List ℕ) (i : ℕ) → get_or (takes d us) i 0 + get_or (leaves d us) i 0 ≡ get_or us i 0
unfolding takes leaves
taken_left d [] i = omega arith
taken_left d (u ∷ us) zero = omega arith
taken_left d (u ∷ us) (suc i) = taken_left (d - min d u) us i

-- the lesser of what is still to be taken and of the open rise
pub takes_at : (d : ℕ) (us : List ℕ) (i : ℕ) → i < length us → get_or (takes d us) i 0 ≡ min (d - sum_of (take i (takes d us))) (get_or us i 0)
unfolding takes sum_of
takes_at d [] i h = absurd (omega arith)
takes_at d (u ∷ us) zero h = omega arith
takes_at d (u ∷ us) (suc i) h =
    let r = takes_at (d - min d u) us i (omega arith) in
    r ∙ ap (λ (n : ℕ). min n (get_or us i 0)) (omega arith)
