-- Document 01, "Totals and book": the book's bytes.
use Rattle.std.specs.Prelude.{ℕ, zero, suc, ◌-◌, ◌/◌, ◌%◌, ◌^◌, List, [], ◌∷◌, ◌++◌, cond, length, drop, eqb, ℤ, pos, negsuc}
use Rattle.rules.specs.Fold.{joined}
use Rattle.rules.specs.Layout.{line_count}
use Rattle.rules.specs.Refusals.{book_length, settle_fault}
use Rattle.rules.specs.Payments.{Day}
use Rattle.rules.specs.Totals.{line_payment, total, adjusted_total}
use Rattle.rules.specs.Days.{settled_day}

-- "All are little-endian": the k low bytes of v
unfoldable pub le : ℕ → ℕ → List ℕ
le zero v = []
le (suc k) v = v % 256 ∷ le k (v / 256)

abbrev pub word_bytes : ℕ → List ℕ
word_bytes v = le 4 v

-- a signed 64-bit number is its value, or 2^64 more where that is below 0
abbrev pub bits64 : ℤ → ℕ
bits64 (pos n) = n
bits64 (negsuc n) = 2 ^ 64 - suc n

abbrev pub signed_bytes : ℤ → List ℕ
signed_bytes z = le 8 (bits64 z)

-- "Book: words n, 16, 96, 96 + 56n"
unfoldable pub book_header : Day → List ℕ
book_header y = word_bytes y.lines ++ word_bytes 16 ++ word_bytes 96 ++ word_bytes (book_length y.lines)

-- "five pairs t, a as signed 64-bit"
unfoldable pub total_pair : Day → ℕ → List ℕ
total_pair y s = signed_bytes (total y s) ++ signed_bytes (adjusted_total y s)

-- "per line participant, point, side, step count and five signed 64-bit payments"
unfoldable pub line_entry : Day → ℕ → List ℕ
line_entry y k =
    word_bytes (y.participant k) ++ word_bytes (y.point k) ++ word_bytes (y.side k) ++ word_bytes (y.count k)
    ++ joined 5 (λ s. signed_bytes (line_payment y s k))

unfoldable pub book_of : Day → List ℕ
book_of y = book_header y ++ joined 5 (total_pair y) ++ joined y.lines (line_entry y)

-- the lent book b as settling leaves it: "Bytes beyond are unchanged", "Refused settling writes nothing"
unfoldable pub book_after : List ℕ → List ℕ → List ℕ
book_after d b = cond (eqb (settle_fault d (length b)) 0) (book_of (settled_day d) ++ drop (book_length (line_count d)) b) b
