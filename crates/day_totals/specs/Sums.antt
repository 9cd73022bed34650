-- Sums of signed numbers: term by term, of sums, exchanged, and how large.
use Rattle.std.specs.Prelude.{ℕ, zero, suc, ◌*◌, ◌<◌, ◌≤◌, ◌≡◌, ℤ, pos, ◌+ℤ◌}
use Rattle.std.proofs.Common.{suc-mul, arith, sym, ◌∙◌}
use Rattle.rules.specs.Fold.{sum_z}
use Rattle.laws.specs.Folds.{sum_z_none, sum_z_suc}
use Rattle.laws.specs.Ints.{mi, eq_z, add_read, mi_add}
use Rattle.day_totals.specs.Sizes.{size, size_add}

pub sum_z_same : (n : ℕ) (f g : ℕ → ℤ) → ((i : ℕ) → i < n → f i ≡ g i) → sum_z n f ≡ sum_z n g
sum_z_same zero f g h = sum_z_none f ∙ sym (sum_z_none g)
sum_z_same (suc n) f g h =
    let r = sum_z_same n f g (λ i l. h i (omega arith)) in
    let e = h n (omega arith) in
    rw (sum_z_suc n f, sum_z_suc n g, r, e)

pub sum_z_zeros : (n : ℕ) → sum_z n (λ i. pos 0) ≡ pos 0
sum_z_zeros zero = sum_z_none (λ i. pos 0)
sum_z_zeros (suc n) = let r = sum_z_zeros n in rw (sum_z_suc n (λ i. pos 0), r)

pub sum_z_add : (n : ℕ) (f g : ℕ → ℤ) → sum_z n (λ i. f i +ℤ g i) ≡ sum_z n f +ℤ sum_z n g
sum_z_add zero f g = rw (sum_z_none (λ i. f i +ℤ g i), sum_z_none f, sum_z_none g)
sum_z_add (suc n) f g =
    let r = sum_z_add n f g in
    let a = sum_z n f in
    let b = sum_z n g in
    rw (sum_z_suc n (λ i. f i +ℤ g i), sum_z_suc n f, sum_z_suc n g, r)
    (eq_z ((a +ℤ b) +ℤ (f n +ℤ g n)) ((a +ℤ f n) +ℤ (b +ℤ g n))
    (omega (arith, add_read (a +ℤ b) (f n +ℤ g n), add_read a b, add_read (f n) (g n), add_read (a +ℤ f n) (b +ℤ g n), add_read a (f n), add_read b (g n))))

-- the exchange of two sums
pub sum_z_swap : (m n : ℕ) (f : ℕ → ℕ → ℤ) → sum_z m (λ i. sum_z n (f i)) ≡ sum_z n (λ j. sum_z m (λ i. f i j))
sum_z_swap zero n f = sum_z_none (λ i. sum_z n (f i)) ∙ sym (sum_z_same n (λ j. sum_z 0 (λ i. f i j)) (λ j. pos 0) (λ j l. sum_z_none (λ i. f i j)) ∙ sum_z_zeros n)
sum_z_swap (suc m) n f =
    let r = sum_z_swap m n f in
    rw (sum_z_suc m (λ i. sum_z n (f i)), r)
    (sym (sum_z_same n (λ j. sum_z (suc m) (λ i. f i j)) (λ j. sum_z m (λ i. f i j) +ℤ f m j) (λ j l. sum_z_suc m (λ i. f i j))
    ∙ sum_z_add n (λ j. sum_z m (λ i. f i j)) (f m)))

-- a sum of terms not below 0 isn't below 0
pub sum_z_whole : (n : ℕ) (f : ℕ → ℤ) → ((i : ℕ) → i < n → mi (f i) ≡ 0) → mi (sum_z n f) ≡ 0
sum_z_whole zero f h = rw (sum_z_none f)
sum_z_whole (suc n) f h =
    let r = sum_z_whole n f (λ i l. h i (omega arith)) in
    let e = h n (omega arith) in
    rw (sum_z_suc n f) (omega (arith, mi_add (sum_z n f) (f n)))

-- terms of at most b each
pub sum_z_size : (n b : ℕ) (f : ℕ → ℤ) → ((i : ℕ) → i < n → size (f i) ≤ b) → size (sum_z n f) ≤ n * b
sum_z_size zero b f h = rw (sum_z_none f) (omega arith)
sum_z_size (suc n) b f h =
    let r = sum_z_size n b f (λ i l. h i (omega arith)) in
    let e = h n (omega arith) in
    rw (sum_z_suc n f, suc-mul n b) (omega (arith, size_add (sum_z n f) (f n)))
