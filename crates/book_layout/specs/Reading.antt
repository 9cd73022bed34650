-- Numbers read out of a list of bytes at a place, and that what was written there is what is read.
use Rattle.std.specs.Prelude.{ℕ, zero, suc, ◌+◌, ◌*◌, ◌-◌, ◌/◌, ◌^◌, ◌<◌, ◌≡◌, refl, List, ◌++◌, length, get_or, ℤ, pos, negsuc}
use Rattle.std.proofs.Common.{zero-add, add-zero, add_assoc, arith, ◌∙◌, ap, length-append, get_or-append-add, lt-ltb, le-ltb}
use Rattle.std.proofs.Math.Decide.{dec_lt}
use Rattle.std.proofs.Math.ListN.{get_or-append}
use Rattle.std.specs.Int.Signed.{mag}
use Rattle.rules.specs.Fold.{joined}
use Rattle.rules.specs.Layout.{word}
use Rattle.rules.specs.Book.{le, bits64}
use Rattle.bytes_le.specs.Wide.{long_word, signed_of}
use Rattle.laws.specs.Folds.{joined_suc, joined_length}

-- the signed 64-bit number in the eight bytes of b from byte i on
abbrev pub signed_at : List ℕ → ℕ → ℤ
signed_at b i = signed_of (long_word b i)

-- signed numbers `step` bytes apart, the first at byte i
abbrev pub moneys_at : List ℕ → ℕ → ℕ → ℕ → ℤ
moneys_at b i step s = signed_at b (i + s * step)

-- the bytes q stand in b from byte i on
pub record Stands (b : List ℕ) (i : ℕ) (q : List ℕ) : Type 0 where
  pub each : (j : ℕ) → j < length q → get_or b (i + j) 0 ≡ get_or q j 0

-- a list stands at the front of itself with more behind it
pub stands_own : (q rest : List ℕ) → Stands (q ++ rest) 0 q
stands_own q rest = record { each = λ j l. rw (zero-add j) (get_or-append q rest 0 j l) }

-- of two lists that stand one after the other, the first and the second
pub stands_first : {b : List ℕ} {i : ℕ} (p q : List ℕ) → Stands b i (p ++ q) → Stands b i p
stands_first p q s =
    record {
      each = λ j l. s.each j (rw (length-append p q) (omega arith)) ∙ get_or-append p q 0 j l;
    }

pub stands_second : {b : List ℕ} {i : ℕ} (p q : List ℕ) → Stands b i (p ++ q) → Stands b (i + length p) q
stands_second {b} {i} p q s =
    record {
      each = λ j l. rw (add_assoc i (length p) j) (s.each (length p + j) (rw (length-append p q) (omega arith)) ∙ get_or-append-add p q j 0);
    }

-- the same with the first one's length, and the place, as numbers
pub stands_after : {b : List ℕ} {i : ℕ} (p q : List ℕ) (n k : ℕ) → Stands b i (p ++ q) → length p ≡ n → i + n ≡ k → Stands b k q
stands_after {b} {i} p q n k s e f =
    let g : i + length p ≡ k = omega arith in
    rw g at (stands_second p q s)

-- of n lists of k bytes each, list m
pub stands_joined : {b : List ℕ} {i : ℕ} (n k : ℕ) (f : ℕ → List ℕ) → Stands b i (joined n f) → ((m : ℕ) → m < n → length (f m) ≡ k) → (m : ℕ) → m < n → Stands b (i + m * k) (f m)
stands_joined zero k f s h m l = absurd (omega arith)
stands_joined {b} {i} (suc n) k f s h m l =
    let s' = rw joined_suc at s in
    let r = stands_joined n k f (stands_first (joined n f) (f n) s') (λ j g. h j (omega arith)) m in
    elim (dec_lt m n) [
      | yes g ↦ r g
      | no g ↦
          let q : m ≡ n = omega arith in
          rw q (stands_after (joined n f) (f n) (n * k) (i + n * k) s' (joined_length n k f (λ j g. h j (omega arith))) refl)
    ]

-- the bytes of a number
pub le_length : (k v : ℕ) → length (le k v) ≡ k
unfolding le
le_length zero v = refl
le_length (suc k) v = ap suc (le_length k (v / 256))

-- the four lowest bytes of a number, read as a word
word_low : {b : List ℕ} {i : ℕ} (v : ℕ) → Stands b i (le 4 v) → word b i + v / 256 / 256 / 256 / 256 * 4294967296 ≡ v
unfolding le
word_low {b} {i} v s =
    let b₀ = rw (add-zero i) at (s.each 0 (omega arith)) in
    let b₁ = s.each 1 (omega arith) in
    let b₂ = s.each 2 (omega arith) in
    let b₃ = s.each 3 (omega arith) in
    rw (b₀, b₁, b₂, b₃) (omega arith)

-- a word that fits is read back
pub word_stands : {b : List ℕ} {i : ℕ} (v : ℕ) → Stands b i (le 4 v) → v < 2 ^ 32 → word b i ≡ v
word_stands v s h = omega (arith, word_low v s)

-- and so is a number of eight bytes, from its two words
pub long_stands : {b : List ℕ} {i : ℕ} (v : ℕ) → Stands b i (le 8 v) → v < 2 ^ 64 → long_word b i ≡ v
unfolding le
long_stands {b} {i} v s h =
    let u = v / 256 / 256 / 256 / 256 in
    let low = word_low v (stands_first (le 4 v) (le 4 u) s) in
    let high = word_low u (stands_after (le 4 v) (le 4 u) 4 (i + 4) s (le_length 4 v) refl) in
    omega arith

-- a signed 64-bit number is read back
signed_bits : (z : ℤ) → mag z < 2 ^ 63 → signed_of (bits64 z) ≡ z
signed_bits (pos n) h = rw (lt-ltb n (2 ^ 63) h)
signed_bits (negsuc n) h = rw (le-ltb (2 ^ 64 - suc n) (2 ^ 63) (omega arith)) (ap negsuc (omega arith))

bits_fit : (z : ℤ) → mag z < 2 ^ 63 → bits64 z < 2 ^ 64
bits_fit (pos n) h = omega arith
bits_fit (negsuc n) h = omega arith

pub signed_stands : {b : List ℕ} {i : ℕ} (z : ℤ) → Stands b i (le 8 (bits64 z)) → mag z < 2 ^ 63 → signed_at b i ≡ z
signed_stands z s h = ap signed_of (long_stands (bits64 z) s (bits_fit z h)) ∙ signed_bits z h
