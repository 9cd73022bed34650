-- The book's parts as bytes of plain values, and that they are document 01's.
use Rattle.std.specs.Prelude.{ℕ, ◌+◌, ◌*◌, ◌≤◌, ◌≡◌, List, ◌++◌, length, take, drop, ℤ}
use Rattle.std.proofs.Common.{arith, sym, ◌∙◌, ap, append_assoc, length-append, drop_at, length-take-le}
use Rattle.std.proofs.lemmas.List.Edits.{sets, sets-eq}
use Rattle.std.proofs.Math.Seq.{length-sets}
use Rattle.rules.specs.Fold.{joined, five, at_z}
use Rattle.rules.specs.Refusals.{book_length}
use Rattle.rules.specs.Payments.{Day}
use Rattle.rules.specs.Totals.{line_payment, total, totals, adjusted, adjusted_total}
use Rattle.rules.specs.Book.{signed_bytes, book_header, total_pair, line_entry, book_of}
use Rattle.laws.specs.Folds.{joined_length}
use Rattle.book_layout.specs.Framing.{four_words, header_length, pairs_length, entry_length}

unfoldable pub money_bytes : (ℕ → ℤ) → ℕ → List ℕ
money_bytes v s = signed_bytes (v s)

unfoldable pub pair_bytes : (ℕ → ℤ) → (ℕ → ℤ) → ℕ → List ℕ
pair_bytes t a s = signed_bytes (t s) ++ signed_bytes (a s)

-- "per line participant, point, side, step count and five signed 64-bit payments"
unfoldable pub entry_of : ℕ → ℕ → ℕ → ℕ → (ℕ → ℤ) → List ℕ
entry_of p q sd n v = four_words p q sd n ++ joined 5 (money_bytes v)

-- "words n, 16, 96, 96 + 56n; five pairs t, a as signed 64-bit"
unfoldable pub front_of : ℕ → (ℕ → ℤ) → (ℕ → ℤ) → List ℕ
front_of n t a = four_words n 16 96 (book_length n) ++ joined 5 (pair_bytes t a)

-- of a day: line k's part, and the front
pub entry_is : (y : Day) (k : ℕ) {p q sd n : ℕ} {v : List ℤ}
    → p ≡ y.participant k → q ≡ y.point k → sd ≡ y.side k → n ≡ y.count k → v ≡ five (λ s. line_payment y s k)
    → entry_of p q sd n (at_z v) ≡ line_entry y k
unfolding entry_of line_entry money_bytes joined
entry_is y k a b c e f = rw (a, b, c, e, f)

pub front_is : (y : Day) {n : ℕ} {t a : List ℤ} → n ≡ y.lines → t ≡ five (total y) → a ≡ five (adjusted t)
    → front_of n (at_z t) (at_z a) ≡ book_header y ++ joined 5 (total_pair y)
unfolding front_of book_header pair_bytes total_pair joined adjusted_total totals
front_is y e f g = rw (g, f, e)

-- the lines put from byte 96 on, then what stands before them: the whole book, and the bytes beyond as they were
pub whole_book : (y : Day) (b m e : List ℕ) → book_length y.lines ≤ length b
    → m ≡ sets b 96 (joined y.lines (line_entry y)) → e ≡ sets m 0 (book_header y ++ joined 5 (total_pair y))
    → e ≡ book_of y ++ drop (book_length y.lines) b
unfolding book_of
whole_book y b m e h me ee =
    let front = book_header y ++ joined 5 (total_pair y) in
    let lines = joined y.lines (line_entry y) in
    let n = y.lines in
    let f : length front ≡ 96 = simp (length-append, header_length, pairs_length) in
    let g : length lines ≡ n * 56 = joined_length n 56 (line_entry y) (λ k l. entry_length y k) in
    let me' : m ≡ take 96 b ++ lines ++ drop (96 + length lines) b = me ∙ sets-eq lines b 96 (omega arith) in
    let len : length m ≡ length b = ap length me ∙ length-sets b 96 lines in
    let one : sets m 0 front ≡ take 0 m ++ front ++ drop (0 + length front) m = sets-eq front m 0 (omega arith) in
    let at : 0 + length front ≡ 96 = omega arith in
    let rest = drop (96 + length lines) b in
    let split : drop 96 m ≡ lines ++ rest =
    ap (drop 96) (me' ∙ append_assoc (take 96 b) lines rest)
    ∙ drop_at (take 96 b) (lines ++ rest) 96 (length-take-le 96 b (omega arith)) in
    let end : 96 + length lines ≡ book_length n = omega arith in
    ee ∙ one ∙ ap (λ (i : ℕ). front ++ drop i m) at ∙ ap (λ (l : List ℕ). front ++ l) split
    ∙ sym (append_assoc front lines (drop (96 + length lines) b)) ∙ ap (λ (i : ℕ). front ++ lines ++ drop i b) end
