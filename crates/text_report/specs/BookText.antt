-- The report read off the bytes of a book (document 01, "Totals and book").
use Rattle.std.specs.Prelude.{ℕ, ◌+◌, ◌*◌, ◌≤◌, ◌<◌, ◌≡◌, refl, List, [], ◌++◌, Bool, true, false, cond, ◌&&◌, length, eqb, ltb, leb, ℤ}
use borrow.Author.Tests.{lt-ltb, le-ltb, le-leb, lt-leb, eq-eqb, ne_eqb}
use Rattle.rules.specs.Fold.{joined, five, at_z}
use Rattle.rules.specs.Layout.{most_lines}
use Rattle.rules.specs.Refusals.{book_length}
use Rattle.rules.specs.Report.{refused_line}
use Rattle.book_layout.specs.Framing.{book_lines, book_total, book_adjusted, book_participant, book_point, book_side, book_count, book_payment}
use Rattle.text_lines.specs.Lines.{line_text_of, heading, totals_text, five_of}

-- a line's text, from its entry
unfoldable pub entry_text : List ℕ → ℕ → List ℕ
entry_text b k =
    line_text_of (book_participant b k) (book_point b k) (book_side b k) (book_count b k) (book_payment b k)

unfoldable pub book_text : List ℕ → List ℕ
book_text b = heading (book_lines b) ++ joined (book_lines b) (entry_text b) ++ totals_text (book_total b) (book_adjusted b)

-- the bytes that the longest report takes: its first line, 64 lines, the totals
abbrev pub report_most : ℕ
report_most = 25 + 177 * 64 + 235

-- whether b can be a day's book: at most 64 lines, and long enough for them
unfoldable pub book_held : List ℕ → Bool
book_held b = leb (book_lines b) most_lines && leb (book_length (book_lines b)) (length b)

-- the report for a refusal number (0 for none) and a book, into `lent` bytes: nothing where these are too few or the book is none
unfoldable pub report_of : ℕ → List ℕ → ℕ → List ℕ
report_of number b lent =
    cond (ltb lent report_most) [] (cond (eqb number 0) (cond (book_held b) (book_text b) []) (refused_line number))

-- a line from what was read of its entry
pub entry_is : (b : List ℕ) (k : ℕ) {p q sd n : ℕ} {v : List ℤ}
    → p ≡ book_participant b k → q ≡ book_point b k → sd ≡ book_side b k → n ≡ book_count b k → v ≡ five (book_payment b k)
    → line_text_of p q sd n (at_z v) ≡ entry_text b k
unfolding entry_text line_text_of
entry_is b k e₀ e₁ e₂ e₃ e = rw (e₀, e₁, e₂, e₃, e, five_of (book_payment b k))

-- the report from its three parts
pub book_is_lem : (b : List ℕ) {n : ℕ} {t a : List ℤ} → n ≡ book_lines b → t ≡ five (book_total b) → a ≡ five (book_adjusted b)
    → heading n ++ joined n (entry_text b) ++ totals_text (at_z t) (at_z a) ≡ book_text b
unfolding book_text totals_text
book_is_lem b e₀ e₁ e₂ = rw (e₀, e₁, e₂, five_of (book_total b), five_of (book_adjusted b))

-- the report by its cases
module _ (number : ℕ) (b : List ℕ) (lent : ℕ) where
  pub report_short : lent < report_most → [] ≡ report_of number b lent
  unfolding report_of
  report_short h = rw (lt-ltb lent report_most h)

  module _ (h : report_most ≤ lent) where
    pub report_refused : (number ≡ 0 → ⊥) → refused_line number ≡ report_of number b lent
    unfolding report_of
    report_refused g = rw (le-ltb lent report_most h, ne_eqb number 0 g)

    module _ (e : number ≡ 0) where
      pub report_many : most_lines < book_lines b → [] ≡ report_of number b lent
      unfolding report_of book_held
      report_many g = simp (le-ltb lent report_most h, eq-eqb number 0 e, lt-leb (book_lines b) most_lines g)

      pub report_book : book_lines b ≤ most_lines → book_length (book_lines b) ≤ length b → book_text b ≡ report_of number b lent
      unfolding report_of book_held
      report_book g k = simp (le-ltb lent report_most h, eq-eqb number 0 e, le-leb (book_lines b) most_lines g, le-leb (book_length (book_lines b)) (length b) k)

      held_by : length b < book_length (book_lines b) → (t : Bool) → [] ≡ cond (t && leb (book_length (book_lines b)) (length b)) (book_text b) []
      held_by g true = rw (lt-leb (book_length (book_lines b)) (length b) g)
      held_by g false = refl

      pub report_none : length b < book_length (book_lines b) → [] ≡ report_of number b lent
      unfolding report_of book_held
      report_none g = simp (le-ltb lent report_most h, eq-eqb number 0 e) (held_by g (leb (book_lines b) most_lines))
