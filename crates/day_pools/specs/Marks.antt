-- A word of marks: bit i is the mark of place i.
use Rattle.std.specs.Prelude.{ℕ, zero, suc, ◌+◌, ◌*◌, ◌^◌, ◌≤◌, ◌<◌, ◌≡◌}
use Rattle.std.proofs.Common.{zero-mul, mul_comm, mul_assoc, mul-one, pow-suc, arith, sym, ◌∙◌, ap}
use Rattle.std.proofs.Math.Decide.{dec_lt}
use Rattle.rules.specs.Fold.{sum_to}
use Rattle.laws.specs.Folds.{sum_none, sum_suc, sum_same}

unfoldable pub word_to : ℕ → (ℕ → ℕ) → ℕ
word_to n b = sum_to n (λ i. b i * 2 ^ i)

pub word_none : (b : ℕ → ℕ) → word_to 0 b ≡ 0
unfolding word_to
word_none b = sum_none (λ i. b i * 2 ^ i)

pub word_suc : (n : ℕ) (b : ℕ → ℕ) → word_to (suc n) b ≡ word_to n b + b n * 2 ^ n
unfolding word_to
word_suc n b = sum_suc n (λ i. b i * 2 ^ i)

pub word_same : (n : ℕ) (b c : ℕ → ℕ) → ((i : ℕ) → i < n → b i ≡ c i) → word_to n b ≡ word_to n c
unfolding word_to
word_same n b c h = sum_same n _ _ (λ i l. ap (λ (m : ℕ). m * 2 ^ i) (h i l))

double : (n x : ℕ) → x * 2 ^ suc n ≡ 2 * (x * 2 ^ n)
double n x = ap (λ (z : ℕ). x * z) (pow-suc 2 n) ∙ sym (mul_assoc x (2 ^ n) 2) ∙ mul_comm (x * 2 ^ n) 2

most_of : (x n : ℕ) → x ≤ 1 → x * n ≤ n
most_of zero n h = rw (zero-mul n) (omega arith)
most_of (suc zero) n h = omega arith
most_of (suc (suc x)) n h = absurd (omega arith)

-- it has no other bits
pub word_below : (n : ℕ) (b : ℕ → ℕ) → ((i : ℕ) → b i ≤ 1) → word_to n b < 2 ^ n
word_below zero b h = rw (word_none b) (omega arith)
word_below (suc n) b h =
    let r = word_below n b h in
    let m = most_of (b n) (2 ^ n) (h n) in
    let d = double n 1 in
    rw (word_suc n b) (omega arith)

-- the first mark is the lowest bit, and the others are the word of half
pub word_front : (n : ℕ) (b : ℕ → ℕ) → word_to (suc n) b ≡ b 0 + 2 * word_to n (λ i. b (suc i))
word_front zero b =
    let o = mul-one (b 0) in
    rw (word_suc 0 b, word_none b, word_none (λ i. b (suc i))) (omega arith)
word_front (suc n) b =
    let r = word_front n b in
    let d = double n (b (suc n)) in
    rw (word_suc (suc n) b, word_suc n (λ i. b (suc i)), d) (omega arith)

-- of no mark but the first m
pub word_rest : (m n : ℕ) (b : ℕ → ℕ) → m ≤ n → ((i : ℕ) → m ≤ i → i < n → b i ≡ 0) → word_to n b ≡ word_to m b
word_rest m zero b l h = let e : m ≡ 0 = omega arith in rw e
word_rest m (suc n) b l h =
    elim (dec_lt n m) [
      | yes k ↦ let e : m ≡ suc n = omega arith in rw e
      | no k ↦
          let r = word_rest m n b (omega arith) (λ i a c. h i a (omega arith)) in
          let z = zero-mul (2 ^ n) in
          rw (word_suc n b, h n (omega arith) (omega arith), z) (omega arith)
    ]

-- and of none at all
pub word_zero : (n : ℕ) (b : ℕ → ℕ) → word_to n b ≡ 0 → (i : ℕ) → i < n → b i ≡ 0
word_zero zero b e i l = absurd (omega arith)
word_zero (suc n) b e zero l = omega (arith, word_front n b)
word_zero (suc n) b e (suc i) l = word_zero n (λ j. b (suc j)) (omega (arith, word_front n b)) i (omega arith)
