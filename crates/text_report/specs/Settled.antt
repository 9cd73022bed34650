-- The report read off an accepted day's book is the day's report.
use Prim.Native.Nat.{ℕ, zero, suc, ◌≤◌, ◌<◌}
use Rattle.std.proofs.Common.{arith, sym, ◌∙◌, append_assoc, length-append, le-ltb, ne_eqb}
use Rattle.std.specs.Prelude.{◌≡◌, List, ◌++◌, length, drop, ℤ, eqb, ltb, cond}
use Rattle.std.proofs.Math.Path.{refl}
use Rattle.rules.specs.Fold.{joined, refuse}
use Rattle.rules.specs.Layout.{most_lines, line_count}
use Rattle.rules.specs.Refusals.{book_length, day_fault, settle_fault}
use Rattle.rules.specs.Payments.{Day}
use Rattle.rules.specs.Days.{settled_day}
use Rattle.rules.specs.Totals.{line_payment, total, adjusted_total}
use Rattle.rules.specs.Book.{book_of, book_after}
use Rattle.rules.specs.Report.{total_text, adjusted_text, number_after, five_numbers, line_text, settled_text, refused_line, report_text}
use Rattle.laws.specs.Folds.{refuse_false, or_else_zero, or_else_suc}
use Rattle.laws.specs.Accepted.{accepted_day}
use Rattle.text.specs.Put.{joined_same}
use Rattle.text_lines.specs.Lines.{line_text_of, heading, totals_text, line_of}
use Rattle.book_layout.specs.Framing.{book_lines, book_total, book_adjusted, book_payment, InRange, book_length_lem, after_settling}
use Rattle.book_layout.specs.Framing.{book_lines_lem, book_total_lem, book_adjusted_lem, book_participant_lem, book_point_lem, book_side_lem, book_count_lem, book_payment_lem}
use Rattle.text_report.specs.BookText.{entry_text, book_text, report_most, report_of, report_refused, report_book}

five_equal : (f g : ℕ → ℤ) → ((s : ℕ) → s < 5 → f s ≡ g s) → five_numbers f ≡ five_numbers g
unfolding five_numbers joined number_after
five_equal f g h =
    rw (h 0 (omega arith), h 1 (omega arith), h 2 (omega arith), h 3 (omega arith), h 4 (omega arith))

regroup : (x s t u v : List ℕ) → x ++ (s ++ t ++ u ++ v) ≡ x ++ s ++ t ++ u ++ v
regroup x s t u v = simp append_assoc

-- the day's book with other bytes behind it
module _ (y : Day) (rest : List ℕ) (fits : InRange y) where
  abbrev book : List ℕ
  book = book_of y ++ rest

  line_back : (k : ℕ) → k < y.lines → entry_text book k ≡ line_text y k
  unfolding entry_text line_text_of
  line_back k h =
      rw (
        book_participant_lem y rest k h (fits.participants k h),
        book_point_lem y rest k h (fits.points k h),
        book_side_lem y rest k h (fits.sides k h),
        book_count_lem y rest k h (fits.counts k h),
        five_equal (book_payment book k) (λ s. line_payment y s k) (λ s g. book_payment_lem y rest k s h g (fits.payments k s h g)),
      )
      (sym (line_of y k))

  pub book_settled : book_text (book_of y ++ rest) ≡ settled_text y
  unfolding book_text settled_text heading totals_text
  book_settled =
      rw (
        book_lines_lem y rest fits.lines,
        joined_same y.lines (entry_text book) (line_text y) line_back,
        five_equal (book_total book) (total y) (λ s h. book_total_lem y rest s h (fits.totals s h)),
        five_equal (book_adjusted book) (adjusted_total y) (λ s h. book_adjusted_lem y rest s h (fits.adjusted s h)),
      )
      (regroup (heading y.lines ++ joined y.lines (line_text y)) total_text (five_numbers (total y)) adjusted_text (five_numbers (adjusted_total y)))

-- the report of settling's number and book, where the book lent has room for 64 lines: the day's report
module _ (d b : List ℕ) (lent : ℕ) (held : book_length most_lines ≤ length b) (room : report_most ≤ lent) where
  settled_number : day_fault d ≡ 0 → settle_fault d (length b) ≡ 0
  unfolding settle_fault
  settled_number e =
      let most = (accepted_day d e).header.count_most in
      let g : refuse 15 (ltb (length b) (book_length (line_count d))) ≡ 0 = rw (le-ltb (length b) (book_length (line_count d)) (omega arith)) (refuse_false 15) in
      rw (e, or_else_zero (refuse 15 (ltb (length b) (book_length (line_count d))))) g

  report_accepted : day_fault d ≡ 0 → InRange (settled_day d) → report_of (settle_fault d (length b)) (book_after d b) lent ≡ settled_text (settled_day d)
  report_accepted e fits =
      let y = settled_day d in
      let rest = drop (book_length (line_count d)) b in
      let most = (accepted_day d e).header.count_most in
      let after : List ℕ = book_of y ++ rest in
      let c : book_lines after ≡ line_count d = book_lines_lem y rest fits.lines in
      let long : book_length (book_lines after) ≤ length after = omega (arith, c, length-append (book_of y) rest, book_length_lem y) in
      rw (settled_number e, after_settling d b (settled_number e))
      (sym (report_book 0 after lent room refl (omega (arith, c)) long) ∙ book_settled y rest fits)

  report_rejected : (m : ℕ) → day_fault d ≡ suc m → report_of (settle_fault d (length b)) (book_after d b) lent ≡ refused_line (suc m)
  unfolding settle_fault
  report_rejected m e =
      let z : settle_fault d (length b) ≡ suc m = rw e (or_else_suc m (refuse 15 (ltb (length b) (book_length (line_count d))))) in
      rw z (sym (report_refused (suc m) (book_after d b) lent room (λ q. omega arith)))

  by_fault : (m : ℕ) → day_fault d ≡ m → (day_fault d ≡ 0 → InRange (settled_day d))
      → report_of (settle_fault d (length b)) (book_after d b) lent ≡ cond (eqb m 0) (settled_text (settled_day d)) (refused_line m)
  by_fault zero e fits = report_accepted e (fits e)
  by_fault (suc m) e fits = rw (ne_eqb (suc m) 0 (λ q. omega arith)) (report_rejected m e)

  pub report_is : (day_fault d ≡ 0 → InRange (settled_day d)) → report_of (settle_fault d (length b)) (book_after d b) lent ≡ report_text d
  unfolding report_text
  report_is fits = by_fault (day_fault d) refl fits
