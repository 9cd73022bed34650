-- What the book of a day within the limits holds fits its words and signed numbers; so the report read off an accepted day's book is its report.
use Rattle.std.specs.Prelude.{ℕ, ◌+◌, ◌*◌, ◌^◌, ◌≤◌, ◌<◌, ◌≡◌, refl, List, [], Bool, true, false, cond, length, get_or, drop, ltb, pos}
use Rattle.std.proofs.Math.Decide.{dec_lt}
use Rattle.std.proofs.Common.{arith, sym, ap, length-take, get_or-take, get_or-drop, ltb-true, ltb-false}
use Rattle.std.proofs.Math.ListN.{get_or-eq_default}
use Rattle.rules.specs.Fold.{at_z}
use Rattle.rules.specs.Layout.{word, most_lines, line_place, line_bytes, line_at}
use Rattle.rules.specs.Refusals.{book_length, settle_fault}
use Rattle.rules.specs.Payments.{Day}
use Rattle.rules.specs.Days.{step_of, day_with}
use Rattle.rules.specs.declared.Step.{Step}
use Rattle.rules.specs.Totals.{line_payment, total, totals, adjusted_total}
use Rattle.rules.specs.Book.{book_after}
use Rattle.rules.specs.Report.{report_text}
use Rattle.laws.specs.Accepted.{accepted_day}
use Rattle.laws.specs.Folds.{at_five}
use Rattle.step_inputs.specs.Paid.{DaySized, payment_size, day_bounded, settled_sized}
use Rattle.day_totals.specs.Sizes.{Bounded, size, mag_size, adjusted_size}
use Rattle.text_report.specs.BookText.{report_most, report_of, report_short}
use Rattle.text_report.specs.Settled.{report_is}
use Rattle.book_layout.specs.Framing.{InRange}

-- a line's words fit
line_bytes_lem : (d : List ℕ) (k : ℕ) → ((i : ℕ) → get_or d i 0 < 256) → (j : ℕ) → get_or (line_at d k) j 0 < 256
line_bytes_lem d k h j =
    elim (dec_lt j line_bytes) [
      | yes l ↦ rw (get_or-take line_bytes (drop (line_place d k) d) j 0 l, get_or-drop (line_place d k) d j 0) (h (line_place d k + j))
      | no g ↦
          let e : length (line_at d k) ≤ j = omega (arith, length-take line_bytes (drop (line_place d k) d)) in
          rw (get_or-eq_default (line_at d k) 0 e) (omega arith)
    ]

word_most : (b : List ℕ) → ((i : ℕ) → get_or b i 0 < 256) → (i : ℕ) → word b i < 2 ^ 32
word_most b h i = omega (arith, h i, h (i + 1), h (i + 2), h (i + 3))

total_size : (y : Day) → Bounded (totals y) → (s : ℕ) → s < 5 → size (total y s) < 2 ^ 63
unfolding totals
total_size y b s l = let e : at_z (totals y) s ≡ total y s = at_five (total y) (pos 0) s l in omega (arith, b.most s l, ap size e)

adjusted_total_size : (y : Day) → Bounded (totals y) → (s : ℕ) → s < 5 → size (adjusted_total y s) < 2 ^ 63
unfolding adjusted_total
adjusted_total_size y b s l = omega (arith, adjusted_size (totals y) b s l)

-- of the lines of a file of bytes, whatever their steps
pub in_range : (d : List ℕ) → ((i : ℕ) → get_or d i 0 < 256) → (x : ℕ → ℕ → Step) → DaySized (day_with d x) → InRange (day_with d x)
in_range d h x z =
    let y = day_with d x in
    let b = day_bounded y z in
    let words : (k i : ℕ) → word (line_at d k) i < 2 ^ 32 = λ k. word_most (line_at d k) (line_bytes_lem d k h) in
    record {
      lines = omega (arith, z.lines);
      participants = λ k l. words k 0;
      points = λ k l. words k 4;
      sides = λ k l. words k 8;
      counts = λ k l. omega (arith, z.counts k l);
      payments = λ k s l i. mag_size (line_payment y s k) (omega (arith, payment_size y z k l s i));
      totals = λ s l. mag_size (total y s) (total_size y b s l);
      adjusted = λ s l. mag_size (adjusted_total y s) (adjusted_total_size y b s l);
    }

-- the report of a book that holds any day's, into `lent` bytes
pub day_report_is : (d b c : List ℕ) (lent n : ℕ) → ((i : ℕ) → get_or d i 0 < 256) → book_length most_lines ≤ length b → n ≡ settle_fault d (length b) → c ≡ book_after d b
    → report_of n c lent ≡ cond (ltb lent report_most) [] (report_text d)
day_report_is d b c lent n h held ne ce = by (ltb lent report_most) refl
  where
    by : (t : Bool) → ltb lent report_most ≡ t → report_of n c lent ≡ cond t [] (report_text d)
    by true e = sym (report_short n c lent (ltb-true lent report_most e))
    by false e = rw (ne, ce) (report_is d b lent held (ltb-false lent report_most e) (λ z. in_range d h (step_of d) (settled_sized d (accepted_day d z))))
