-- Laws of the cutter's answer by its places: padded lists, rows of 56 one after another, words of flags.
use Rattle.std.specs.Prelude.{ℕ, zero, suc, ◌+◌, ◌*◌, ◌-◌, ◌/◌, ◌%◌, ◌≤◌, ◌<◌, ◌≡◌, refl, List, [], ◌∷◌, ◌++◌, map, length, get_or, replicate}
use Rattle.std.proofs.Common.{arith, sym, ◌∙◌, length-append, get_or-append-add}
use Rattle.std.proofs.Math.Decide.{dec_lt}
use Rattle.std.proofs.lemmas.List.{length-replicate}
use Rattle.std.proofs.Math.ListN.{get_or-append}
use Rattle.rules.specs.Fold.{padded, joined, sum_of, sum_to, at}
use Rattle.rules.specs.Cutting.{bits}
use Rattle.laws.specs.Folds.{joined_suc, joined_length, sum_none}

zeros_at : (n k : ℕ) → ◌≡◌ {A = ℕ} (get_or (replicate n 0) k 0) 0
zeros_at zero k = refl
zeros_at (suc n) zero = refl
zeros_at (suc n) (suc k) = zeros_at n k

behind_at : (l : List ℕ) (n k : ℕ) → get_or (l ++ replicate n 0) k 0 ≡ get_or l k 0
behind_at [] n k = zeros_at n k
behind_at (x ∷ l) n zero = refl
behind_at (x ∷ l) n (suc k) = behind_at l n k

-- a padded list has its own values, and 0 past them
pub padded_at : (n : ℕ) (l : List ℕ) (k : ℕ) → get_or (padded n l) k 0 ≡ get_or l k 0
unfolding padded
padded_at n l k = behind_at l (n - length l) k

pub padded_length : (n : ℕ) (l : List ℕ) → length l ≤ n → length (padded n l) ≡ n
unfolding padded
padded_length n l h = simp (length-append, length-replicate) (omega arith)

pub map_at : (f : ℕ → ℕ) (l : List ℕ) (k : ℕ) → k < length l → get_or (map f l) k 0 ≡ f (get_or l k 0)
map_at f [] k h = absurd (omega arith)
map_at f (x ∷ l) zero h = refl
map_at f (x ∷ l) (suc k) h = map_at f l k (omega arith)

-- place k of row s, among rows of 56
pub rows_at : (n : ℕ) (f : ℕ → List ℕ) → ((i : ℕ) → i < n → length (f i) ≡ 56) → (s k : ℕ) → s < n → k < 56 → get_or (joined n f) (56 * s + k) 0 ≡ get_or (f s) k 0
rows_at zero f h s k a b = absurd (omega arith)
rows_at (suc n) f h s k a b =
    let r = rows_at n f (λ i l. h i (omega arith)) s k in
    let len = joined_length n 56 f (λ i l. h i (omega arith)) in
    rw (joined_suc n f)
    (elim (dec_lt s n) [
      | yes l ↦ get_or-append (joined n f) (f n) 0 (56 * s + k) (omega arith) ∙ r l b
      | no g ↦
          let e : s ≡ n = omega arith in
          let p : 56 * s + k ≡ length (joined n f) + k = omega arith in
          rw (p, e) (get_or-append-add (joined n f) (f n) k 0)
    ])

-- bit k of a word, from 0
unfoldable pub bit_at : ℕ → ℕ → ℕ
bit_at x zero = x % 2
bit_at x (suc k) = bit_at (x / 2) k

bit_none : (k : ℕ) → bit_at 0 k ≡ 0
unfolding bit_at
bit_none zero = refl
bit_none (suc k) = bit_none k

-- the bits of a word of flags are the flags
pub bits_at : (l : List ℕ) → ((k : ℕ) → get_or l k 0 ≤ 1) → (k : ℕ) → bit_at (bits l) k ≡ get_or l k 0
unfolding bit_at bits
bits_at [] h k = bit_none k
bits_at (x ∷ l) h zero = let a = h 0 in omega arith
bits_at (x ∷ l) h (suc k) =
    let a = h 0 in
    let e : (x + 2 * bits l) / 2 ≡ bits l = omega arith in
    rw e (bits_at l (λ i. h (suc i)) k)

-- a list's sum by its places
sum_front : (n : ℕ) (f : ℕ → ℕ) → sum_to (suc n) f ≡ f 0 + sum_to n (λ i. f (suc i))
unfolding sum_to
sum_front zero f = omega arith
sum_front (suc n) f = let r = sum_front n f in omega arith

pub sum_places : (l : List ℕ) → sum_of l ≡ sum_to (length l) (λ k. get_or l k 0)
unfolding sum_of
sum_places [] = sym (sum_none (λ k. get_or [] k 0))
sum_places (x ∷ l) = let r = sum_places l in rw (sum_front (length l) (λ k. get_or (x ∷ l) k 0), r)

-- the price and the flag of step j in schedule s, in the cutter's answer
unfoldable pub price_in : List ℕ → ℕ → ℕ → ℕ
price_in prices j s = get_or prices (56 * s + j) 0

unfoldable pub flag_in : List ℕ → ℕ → ℕ → ℕ
flag_in words j s = bit_at (at words s) j
