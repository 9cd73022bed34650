-- Document 01, "Totals and book": where each number of a book stands in its bytes, and that it is read back from there.
use Rattle.std.specs.Prelude.{ℕ, ◌+◌, ◌*◌, ◌^◌, ◌<◌, ◌≡◌, List, ◌++◌, drop, ℤ}
use native.Mathlib.Omega.{arith}
use Rattle.std.proofs.Math.Path.{refl}
use Rattle.std.proofs.Math.ListN.{length}
use Rattle.std.proofs.Common.{length-append}
use Rattle.std.specs.Int.Signed.{mag}
use Rattle.rules.specs.Fold.{joined}
use Rattle.rules.specs.Layout.{word, line_count}
use Rattle.rules.specs.Refusals.{book_length, settle_fault}
use Rattle.rules.specs.Payments.{Day}
use Rattle.rules.specs.Days.{settled_day}
use Rattle.rules.specs.Totals.{line_payment, total, adjusted_total}
use Rattle.rules.specs.Book.{bits64, word_bytes, signed_bytes, book_header, total_pair, line_entry, book_of, book_after}
use Rattle.laws.specs.Folds.{joined_length}
use Rattle.book_layout.specs.Reading.{Stands, signed_at, stands_own, stands_first, stands_after, stands_joined, le_length, word_stands, signed_stands}

-- the places of a pair's t and a, of line k's entry and of its payment in s
abbrev pub total_at : ℕ → ℕ
total_at s = 16 + 16 * s

abbrev pub adjusted_at : ℕ → ℕ
adjusted_at s = 24 + 16 * s

abbrev pub entry_at : ℕ → ℕ
entry_at k = 96 + 56 * k

abbrev pub payment_at : ℕ → ℕ → ℕ
payment_at k s = entry_at k + 16 + 8 * s

-- the fields of a book: how many lines, t and a of a schedule; and of entry k participant, point, side, step count and payment in s
abbrev pub book_lines : List ℕ → ℕ
book_lines b = word b 0

abbrev pub book_total : List ℕ → ℕ → ℤ
book_total b s = signed_at b (total_at s)

abbrev pub book_adjusted : List ℕ → ℕ → ℤ
book_adjusted b s = signed_at b (adjusted_at s)

abbrev pub book_participant : List ℕ → ℕ → ℕ
book_participant b k = word b (entry_at k)

abbrev pub book_point : List ℕ → ℕ → ℕ
book_point b k = word b (entry_at k + 4)

abbrev pub book_side : List ℕ → ℕ → ℕ
book_side b k = word b (entry_at k + 8)

abbrev pub book_count : List ℕ → ℕ → ℕ
book_count b k = word b (entry_at k + 12)

abbrev pub book_payment : List ℕ → ℕ → ℕ → ℤ
book_payment b k s = signed_at b (payment_at k s)

-- what a day's book holds fits its words and signed numbers
pub record InRange (y : Day) : Type 0 where
  pub lines : y.lines < 2 ^ 32
  pub participants : (k : ℕ) → k < y.lines → y.participant k < 2 ^ 32
  pub points : (k : ℕ) → k < y.lines → y.point k < 2 ^ 32
  pub sides : (k : ℕ) → k < y.lines → y.side k < 2 ^ 32
  pub counts : (k : ℕ) → k < y.lines → y.count k < 2 ^ 32
  pub payments : (k s : ℕ) → k < y.lines → s < 5 → mag (line_payment y s k) < 2 ^ 63
  pub totals : (s : ℕ) → s < 5 → mag (total y s) < 2 ^ 63
  pub adjusted : (s : ℕ) → s < 5 → mag (adjusted_total y s) < 2 ^ 63

-- lengths of the parts
pub header_length : (y : Day) → length (book_header y) ≡ 16
unfolding book_header
header_length y = simp (length-append, le_length)

pub pair_length : (y : Day) (s : ℕ) → length (total_pair y s) ≡ 16
unfolding total_pair
pair_length y s = simp (length-append, le_length)

pub pairs_length : (y : Day) → length (joined 5 (total_pair y)) ≡ 80
pairs_length y = joined_length 5 16 (total_pair y) (λ s l. pair_length y s)

-- the payment of line k in s
abbrev payment_bytes : Day → ℕ → ℕ → List ℕ
payment_bytes y k s = signed_bytes (line_payment y s k)

pub payment_length : (y : Day) (k s : ℕ) → length (payment_bytes y k s) ≡ 8
payment_length y k s = le_length 8 (bits64 (line_payment y s k))

pub payments_length : (y : Day) (k : ℕ) → length (joined 5 (payment_bytes y k)) ≡ 40
payments_length y k = joined_length 5 8 (payment_bytes y k) (λ s l. payment_length y k s)

pub entry_length : (y : Day) (k : ℕ) → length (line_entry y k) ≡ 56
unfolding line_entry
entry_length y k = simp (length-append, le_length, payments_length)

pub book_length_lem : (y : Day) → length (book_of y) ≡ book_length y.lines
unfolding book_of
book_length_lem y =
    let e = joined_length y.lines 56 (line_entry y) (λ k l. entry_length y k) in
    simp (length-append, header_length, pairs_length) (omega arith)

-- four words one after another, as in the header and at the front of an entry
abbrev pub four_words : ℕ → ℕ → ℕ → ℕ → List ℕ
four_words v₀ v₁ v₂ v₃ = word_bytes v₀ ++ word_bytes v₁ ++ word_bytes v₂ ++ word_bytes v₃

pub record FourWords (b : List ℕ) (i v₀ v₁ v₂ v₃ : ℕ) : Type 0 where
  pub word0 : v₀ < 2 ^ 32 → word b i ≡ v₀
  pub word1 : v₁ < 2 ^ 32 → word b (i + 4) ≡ v₁
  pub word2 : v₂ < 2 ^ 32 → word b (i + 8) ≡ v₂
  pub word3 : v₃ < 2 ^ 32 → word b (i + 12) ≡ v₃

words_length : (v₀ v₁ v₂ v₃ : ℕ) → length (four_words v₀ v₁ v₂ v₃) ≡ 16
words_length v₀ v₁ v₂ v₃ = simp (length-append, le_length)

four_stand : {b : List ℕ} {i : ℕ} (v₀ v₁ v₂ v₃ : ℕ) → Stands b i (four_words v₀ v₁ v₂ v₃) → FourWords b i v₀ v₁ v₂ v₃
four_stand {b} {i} v₀ v₁ v₂ v₃ s =
    let two = word_bytes v₀ ++ word_bytes v₁ in
    let three = two ++ word_bytes v₂ in
    let s₃ = stands_first three (word_bytes v₃) s in
    let s₂ = stands_first two (word_bytes v₂) s₃ in
    let n₂ : length two ≡ 8 = simp (length-append, le_length) in
    let n₃ : length three ≡ 12 = simp (length-append, le_length) in
    record {
      word0 = word_stands v₀ (stands_first (word_bytes v₀) (word_bytes v₁) s₂);
      word1 = word_stands v₁ (stands_after (word_bytes v₀) (word_bytes v₁) 4 (i + 4) s₂ (le_length 4 v₀) refl);
      word2 = word_stands v₂ (stands_after two (word_bytes v₂) 8 (i + 8) s₃ n₂ refl);
      word3 = word_stands v₃ (stands_after three (word_bytes v₃) 12 (i + 12) s n₃ refl);
    }

-- the parts of a book that has other bytes behind it
module _ (y : Day) (rest : List ℕ) where
  head_stands : Stands (book_of y ++ rest) 0 (book_header y ++ joined 5 (total_pair y))
  unfolding book_of
  head_stands =
      stands_first (book_header y ++ joined 5 (total_pair y)) (joined y.lines (line_entry y)) (stands_own (book_of y) rest)

  header_stands : Stands (book_of y ++ rest) 0 (book_header y)
  header_stands = stands_first (book_header y) (joined 5 (total_pair y)) head_stands

  pair_stands : (s : ℕ) → s < 5 → Stands (book_of y ++ rest) (16 + 16 * s) (total_pair y s)
  pair_stands s l =
      let pairs = stands_after (book_header y) (joined 5 (total_pair y)) 16 16 head_stands (header_length y) refl in
      let place : 16 + s * 16 ≡ 16 + 16 * s = omega arith in
      rw place at (stands_joined 5 16 (total_pair y) pairs (λ m g. pair_length y m) s l)

  entry_stands : (k : ℕ) → k < y.lines → Stands (book_of y ++ rest) (entry_at k) (line_entry y k)
  unfolding book_of
  entry_stands k l =
      let before = book_header y ++ joined 5 (total_pair y) in
      let size : length before ≡ 96 = simp (length-append, header_length, pairs_length) in
      let entries = stands_after before (joined y.lines (line_entry y)) 96 96 (stands_own (book_of y) rest) size refl in
      let place : 96 + k * 56 ≡ entry_at k = omega arith in
      rw place at (stands_joined y.lines 56 (line_entry y) entries (λ m g. entry_length y m) k l)

  -- "words n, 16, 96, 96 + 56n"
  pub book_words : FourWords (book_of y ++ rest) 0 y.lines 16 96 (book_length y.lines)
  unfolding book_header
  book_words = four_stand y.lines 16 96 (book_length y.lines) header_stands

  pub book_lines_lem : y.lines < 2 ^ 32 → book_lines (book_of y ++ rest) ≡ y.lines
  book_lines_lem h = book_words.word0 h

  -- "five pairs t, a as signed 64-bit"
  pub book_total_lem : (s : ℕ) → s < 5 → mag (total y s) < 2 ^ 63 → book_total (book_of y ++ rest) s ≡ total y s
  unfolding total_pair
  book_total_lem s l h =
      signed_stands (total y s) (stands_first (signed_bytes (total y s)) (signed_bytes (adjusted_total y s)) (pair_stands s l)) h

  pub book_adjusted_lem : (s : ℕ) → s < 5 → mag (adjusted_total y s) < 2 ^ 63 → book_adjusted (book_of y ++ rest) s ≡ adjusted_total y s
  unfolding total_pair
  book_adjusted_lem s l h =
      signed_stands (adjusted_total y s)
      (stands_after (signed_bytes (total y s)) (signed_bytes (adjusted_total y s)) 8 (adjusted_at s) (pair_stands s l) (le_length 8 (bits64 (total y s))) (omega arith))
      h

  -- "per line participant, point, side, step count and five signed 64-bit payments"
  pub entry_words : (k : ℕ) → k < y.lines → FourWords (book_of y ++ rest) (entry_at k) (y.participant k) (y.point k) (y.side k) (y.count k)
  unfolding line_entry
  entry_words k l =
      four_stand (y.participant k) (y.point k) (y.side k) (y.count k)
      (stands_first (four_words (y.participant k) (y.point k) (y.side k) (y.count k)) (joined 5 (payment_bytes y k)) (entry_stands k l))

  module _ (k : ℕ) (l : k < y.lines) where
    pub book_participant_lem : y.participant k < 2 ^ 32 → book_participant (book_of y ++ rest) k ≡ y.participant k
    book_participant_lem h = (entry_words k l).word0 h

    pub book_point_lem : y.point k < 2 ^ 32 → book_point (book_of y ++ rest) k ≡ y.point k
    book_point_lem h = (entry_words k l).word1 h

    pub book_side_lem : y.side k < 2 ^ 32 → book_side (book_of y ++ rest) k ≡ y.side k
    book_side_lem h = (entry_words k l).word2 h

    pub book_count_lem : y.count k < 2 ^ 32 → book_count (book_of y ++ rest) k ≡ y.count k
    book_count_lem h = (entry_words k l).word3 h

  pub book_payment_lem : (k s : ℕ) → k < y.lines → s < 5 → mag (line_payment y s k) < 2 ^ 63 → book_payment (book_of y ++ rest) k s ≡ line_payment y s k
  unfolding line_entry
  book_payment_lem k s l g h =
      let words = four_words (y.participant k) (y.point k) (y.side k) (y.count k) in
      let size = words_length (y.participant k) (y.point k) (y.side k) (y.count k) in
      let payments = stands_after words (joined 5 (payment_bytes y k)) 16 (entry_at k + 16) (entry_stands k l) size refl in
      let place : entry_at k + 16 + s * 8 ≡ payment_at k s = omega arith in
      signed_stands (line_payment y s k)
      (rw place at (stands_joined 5 8 (payment_bytes y k) payments (λ m i. payment_length y k m) s g))
      h

-- the lent book as settling leaves it, where neither the day nor the book is refused
pub after_settling : (d b : List ℕ) → settle_fault d (length b) ≡ 0 → book_after d b ≡ book_of (settled_day d) ++ drop (book_length (line_count d)) b
unfolding book_after
after_settling d b e = rw e
