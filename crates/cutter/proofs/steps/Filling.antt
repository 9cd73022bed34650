-- Lists that are filled one step at a time: padded lists, rows of 56, words of flags.
use Prim.Native.Nat.{ℕ, zero, suc, ◌+◌, ◌*◌, ◌-◌, ◌/◌, ◌≤◌, ◌<◌}
use native.Mathlib.Nat.{zero-add, suc-add, pow-suc}
use native.Mathlib.Omega.{arith}
use native.Mathlib.Decide.{dec_lt}
use mathlib.Core.Path.{◌≡◌, refl, sym, ◌∙◌, ap, ap₂}
use mathlib.Core.List.{List, [], ◌∷◌, ◌++◌, append_assoc, append-nil}
use lib.ListN.{length, get_or, take, set, replicate, length-set}
use lib.Seq.{take-suc, take_all, set_at, set-append_left, append_snoc, length-take-le}
use lib.Pow.{pow_pos}
use lib.Count.{ones, ones_in, ones_step}
use Rattle.rules.specs.Fold.{padded, joined, sum_of}
use Rattle.rules.specs.Cutting.{bits}
use Rattle.laws.specs.Folds.{joined_length}
use Rattle.cutter_prices.specs.Step.{put_to, run_word}

-- the first n of a list, with zeros behind
zeros_more : (m n : ℕ) → n < m → replicate {A = ℕ} (m - n) 0 ≡ 0 ∷ replicate (m - suc n) 0
zeros_more m n h =
    let e : m - n ≡ suc (m - suc n) = omega arith in
    rw e

pub padded_set : (m n : ℕ) (l : List ℕ) → n < length l → length l ≤ m → set (padded m (take n l)) n (get_or l n 0) ≡ padded m (take (suc n) l)
unfolding padded
padded_set m n l a b =
    let p = length-take-le n l (omega arith) in
    let q = length-take-le (suc n) l (omega arith) in
    rw (p, zeros_more m n (omega arith), q)
    (set_at (take n l) 0 (replicate (m - suc n) 0) (get_or l n 0) n p
    ∙ sym (append_snoc (take n l) (get_or l n 0) (replicate (m - suc n) 0))
    ∙ rw (take-suc l n 0 a))

-- place n of each row
set_right : (a b : List ℕ) (i x : ℕ) → set (a ++ b) (length a + i) x ≡ a ++ set b i x
set_right [] b i x = rw (zero-add i)
set_right (y ∷ a) b i x = rw (suc-add (length a) i) (ap (◌∷◌ y) (set_right a b i x))

rows_put : (m n : ℕ) (f : ℕ → List ℕ) (v : ℕ → ℕ) (rest : List ℕ) → n < 56 → ((s : ℕ) → length (f s) ≡ 56) → put_to m (joined m f ++ rest) n v ≡ joined m (λ s. set (f s) n (v s)) ++ rest
unfolding put_to joined
rows_put zero n f v rest h len = refl
rows_put (suc m) n f v rest h len =
    let g : ℕ → List ℕ = λ s. set (f s) n (v s) in
    let long : (s : ℕ) → length (g s) ≡ 56 = λ s. length-set (f s) n (v s) ∙ len s in
    let j = joined_length m 56 g (λ s l. long s) in
    let e : 56 * m + n ≡ length (joined m g) + n = omega arith in
    let b = len m in
    rw (append_assoc (joined m f) (f m) rest, rows_put m n f v (f m ++ rest) h len, e, set_right (joined m g) (f m ++ rest) n (v m))
    (ap (λ (x : List ℕ). joined m g ++ x) (set-append_left (f m) rest n (v m) (omega arith)) ∙ sym (append_assoc (joined m g) (g m) rest))

pub joined_same : (m : ℕ) (f g : ℕ → List ℕ) → ((s : ℕ) → f s ≡ g s) → joined m f ≡ joined m g
unfolding joined
joined_same zero f g h = refl
joined_same (suc m) f g h = ap₂ ◌++◌ (joined_same m f g h) (h m)

-- all rows
pub rows_all : (m n : ℕ) (f g : ℕ → List ℕ) (v : ℕ → ℕ) → n < 56 → ((s : ℕ) → length (f s) ≡ 56) → ((s : ℕ) → set (f s) n (v s) ≡ g s) → put_to m (joined m f) n v ≡ joined m g
rows_all m n f g v h len same =
    ap (λ (l : List ℕ). put_to m l n v) (sym (append-nil (joined m f)))
    ∙ rows_put m n f v [] h len
    ∙ append-nil (joined m (λ s. set (f s) n (v s)))
    ∙ joined_same m (λ s. set (f s) n (v s)) g same

-- the sum of the first n of a list, and of flags
pub sum_more : (l : List ℕ) (n : ℕ) → n < length l → sum_of (take (suc n) l) ≡ sum_of (take n l) + get_or l n 0
unfolding sum_of
sum_more [] n h = absurd (omega arith)
sum_more (x ∷ l) zero h = omega arith
sum_more (x ∷ l) (suc n) h = let r = sum_more l n (omega arith) in omega arith

pub sum_most : (l : List ℕ) → ((k : ℕ) → get_or l k 0 ≤ 1) → (n : ℕ) → sum_of (take n l) ≤ n
unfolding sum_of
sum_most l h zero = omega arith
sum_most [] h (suc n) = omega arith
sum_most (x ∷ l) h (suc n) =
    let r = sum_most l (λ k. h (suc k)) n in
    let a = h 0 in
    omega arith

-- flags of which those that are set are a run at the end
abbrev pub Run : List ℕ → Type 0
Run l = (j k : ℕ) → j ≤ k → k < length l → get_or l j 0 ≡ 1 → get_or l k 0 ≡ 1

all_ones : (l : List ℕ) → ((k : ℕ) → k < length l → get_or l k 0 ≡ 1) → sum_of l ≡ length l
unfolding sum_of
all_ones [] h = refl
all_ones (x ∷ l) h =
    let r = all_ones l (λ k m. h (suc k) (omega arith)) in
    let a = h 0 (omega arith) in
    omega arith

-- their word by how many they are
run_none : (n m : ℕ) → m ≤ n → 0 + 2 * run_word n m ≡ run_word (suc n) (0 + m)
unfolding run_word
run_none n m h =
    let e : suc n - (0 + m) ≡ suc (n - m) = omega arith in
    rw (e, pow-suc 2 n, pow-suc 2 (n - m)) (omega arith)

run_one : (n : ℕ) → 1 + 2 * run_word n n ≡ run_word (suc n) (1 + n)
unfolding run_word
run_one n =
    let e : n - n ≡ 0 = omega arith in
    let f : suc n - (1 + n) ≡ 0 = omega arith in
    let p = pow_pos n in
    rw (e, f, pow-suc 2 n) (omega arith)

pub run_bits : (l : List ℕ) → ((k : ℕ) → get_or l k 0 ≤ 1) → Run l → bits l ≡ run_word (length l) (sum_of l)
unfolding bits sum_of
run_bits [] h r = unfold run_word in refl
run_bits (x ∷ l) h r =
    let t = run_bits l (λ k. h (suc k)) (λ j k a b. r (suc j) (suc k) (omega arith) (omega arith)) in
    let a = h 0 in
    elim (dec_lt 0 x) [
      | yes p ↦
          let e : x ≡ 1 = omega arith in
          let o = all_ones l (λ k b. r 0 (suc k) (omega arith) (omega arith) e) in
          rw (e, t, o) (run_one (length l))
      | no p ↦
          let e : x ≡ 0 = omega arith in
          let m = sum_most l (λ k. h (suc k)) (length l) in
          let q = ap sum_of (take_all (length l) l (omega arith)) in
          rw (e, t) (run_none (length l) (sum_of l) (omega arith))
    ]

-- its ones are its flags that are set
pub ones_bits : (l : List ℕ) → ((k : ℕ) → get_or l k 0 ≤ 1) → ones (bits l) ≡ sum_of l
unfolding bits sum_of
ones_bits [] h = unfold ones ones_in in refl
ones_bits (x ∷ l) h =
    let a = h 0 in
    let r = ones_bits l (λ k. h (suc k)) in
    let p = ones_step (x + 2 * bits l) in
    let e : (x + 2 * bits l) / 2 ≡ bits l = omega arith in
    let q = ap ones e in
    omega arith
