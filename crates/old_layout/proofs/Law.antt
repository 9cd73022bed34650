-- THE LAW holds (`SameAsOld`) of every day that passes the refusals of header, market table and records.
use Rattle.std.specs.Prelude.{ℕ, ◌+◌, ◌<◌, min, ◌≡◌, length, ltb, leb}
use Rattle.std.proofs.Common.{arith, ◌∙◌}
use Rattle.std.proofs.Math.Path.{sym, ap}
use mathlib.Core.List.{List, ◌++◌}
use Rattle.std.proofs.Math.Bool.{cond}
use Rattle.std.proofs.Math.ListN.{drop}
use Rattle.std.proofs.Math.Dec.{eqb}
use borrow.Author.Tests.{eqb-true, leb-false}
use Rattle.rules.specs.Fold.{refuse, ◌or_else◌, five}
use Rattle.rules.specs.Layout.{line_count, market_price, line_at}
use Rattle.rules.specs.Steps.{step_count, upper_end, price, flag, capped, paid}
use Rattle.rules.specs.Quantities.{table_total, table_actual}
use Rattle.rules.specs.InForce.{table_in_force, effective_actual}
use Rattle.rules.specs.Refusals.{header_fault, market_fault, records_fault, line_fault_with, line_fault_at, pair_fault, key_fault, day_fault, book_length, settle_fault, view_fault}
use Rattle.rules.specs.Payments.{bit}
use Rattle.rules.specs.Days.{step_of, settled_day}
use Rattle.rules.specs.Viewing.{figures_of, view_of, view_refused, view_answer}
use Rattle.rules.specs.Book.{book_after}
use Rattle.rules.specs.Report.{refused_line, report_text}
use Rattle.laws.specs.Folds.{refuse_zero, or_else_both, first_same}
use Rattle.laws.specs.Accepted.{accepted_header, accepted_day, accepted_line_at}
use Rattle.numbers.specs.Fives.{five_same}
use Rattle.old_layout.specs.File.{old_file}
use Rattle.old_layout.specs.Same.{first_counted, or_else_same, cond_same}
use Rattle.old_layout.proofs.Places.{old_words_lem}
use Rattle.old_layout.specs.Fields.{Alike, participant_same, point_same, side_same, pricing_same, actual_same}
use Rattle.old_layout.specs.Lines.{Few, greatest_same, steps_same, upper_same, lower_same, step_price_same, flag_same, paid_same, key_same, line_fault_same}
use Rattle.old_layout.proofs.Written.{old_layout, market_same, line_alike, table_same, header_passes, market_fault_same, records_pass}
use Rattle.old_layout.specs.Days.{SameDay}
use Rattle.old_layout.proofs.Days.{final_same, same_book, same_text}
use Rattle.old_layout.specs.Law.{SameAsOld}

module _ (d : List ℕ) (header : header_fault d ≡ 0) (market : market_fault d ≡ 0) (records : records_fault d ≡ 0) where
  alike : (k : ℕ) → k < line_count d → Alike (line_at (old_file d) k) (line_at d k)
  alike k l = line_alike d (accepted_header d header) k l

  table : (k : ℕ) → k < line_count d → table_in_force (old_file d) k ≡ table_in_force d k
  table k l = table_same d (accepted_header d header) k l

  lines : line_count (old_file d) ≡ line_count d
  lines = (old_words_lem d (accepted_header d header)).count

  -- refusals
  line_fault_lem : (k : ℕ) → k < line_count d → line_fault_at (old_file d) k ≡ line_fault_at d k
  unfolding line_fault_at
  line_fault_lem k l =
      ap (λ (t : List (List ℕ)). line_fault_with t (line_at (old_file d) k)) (table k l)
      ∙ line_fault_same (alike k l) (table_in_force d k)

  key_fault_lem : (k : ℕ) → k < line_count d → key_fault (old_file d) k ≡ key_fault d k
  unfolding key_fault pair_fault
  key_fault_lem k l =
      first_same k _ _ (λ i g. λ x. refuse 14 (key_same (alike i (omega arith)) (alike k l) x))

  day_fault_lem : day_fault (old_file d) ≡ day_fault d
  unfolding day_fault
  day_fault_lem =
      let a = accepted_header d header in
      let h = header_passes d a ∙ sym header in
      let m = market_fault_same d a in
      let r = records_pass d a ∙ sym records in
      let l = first_counted lines (line_fault_at (old_file d)) (line_fault_at d) line_fault_lem in
      let k = first_counted lines (key_fault (old_file d)) (key_fault d) key_fault_lem in
      λ i. h i or_else m i or_else r i or_else l i or_else k i

  settle_fault_lem : (lent : ℕ) → settle_fault (old_file d) lent ≡ settle_fault d lent
  unfolding settle_fault
  settle_fault_lem lent = λ i. day_fault_lem i or_else refuse 15 (ltb lent (book_length (lines i)))

  -- an accepted day
  module _ (accepted : day_fault d ≡ 0) where
    few : (k : ℕ) → k < line_count d → Few (line_at d k)
    few k l = record { most = λ s g. ((accepted_line_at d (accepted_day d accepted) k l).bids s g).count_most }

    steps : (k : ℕ) → k < line_count d → step_count (line_at (old_file d) k) ≡ step_count (line_at d k)
    steps k l = steps_same (alike k l) (few k l)

    capped_same : (s : ℕ) {p q : ℕ} → s < 5 → p ≡ q → capped (old_file d) s p ≡ capped d s q
    unfolding capped
    capped_same s l e =
        let m = market_same d (accepted_header d header) (5 + s) (omega arith) in
        let c = market_same d (accepted_header d header) 10 (omega arith) in
        λ i. cond (eqb (m i) 1) (min (e i) (c i)) (e i)

    -- step j of line k
    module _ (k j : ℕ) (l : k < line_count d) where
      upper : upper_end (line_at (old_file d) k) j ≡ upper_end (line_at d k) j
      upper = upper_same (alike k l) (few k l) j

      prices : (s : ℕ) → s < 5
          → capped (old_file d) s (price (line_at (old_file d) k) s (upper_end (line_at (old_file d) k) j))
          ≡ capped d s (price (line_at d k) s (upper_end (line_at d k) j))
      prices s g =
          capped_same s g
          (ap (λ (u : ℕ). price (line_at (old_file d) k) s u) upper ∙ step_price_same (alike k l) (few k l) s (upper_end (line_at d k) j) g)

      flags : (s : ℕ) → s < 5 → flag (line_at (old_file d) k) s (upper_end (line_at (old_file d) k) j) ≡ flag (line_at d k) s (upper_end (line_at d k) j)
      flags s g =
          ap (λ (u : ℕ). flag (line_at (old_file d) k) s u) upper ∙ flag_same (alike k l) (few k l) s (upper_end (line_at d k) j) g

      paids : (s : ℕ) → paid (line_at (old_file d) k) (upper_end (line_at (old_file d) k) j) s ≡ paid (line_at d k) (upper_end (line_at d k) j) s
      paids s = ap (λ (u : ℕ). paid (line_at (old_file d) k) u s) upper ∙ paid_same (alike k l) (upper_end (line_at d k) j) s

      markets : (s : ℕ) → s < 5 → market_price (old_file d) s ≡ market_price d s
      markets s g = market_same d (accepted_header d header) s (omega arith)

      actual : effective_actual (old_file d) k ≡ effective_actual d k
      actual =
          ap (λ (t : List (List ℕ)). table_actual t (line_at (old_file d) k)) (table k l) ∙ actual_same (alike k l) (table_in_force d k)

      step : step_of (old_file d) k j ≡ step_of d k j
      unfolding step_of
      step =
          λ i.
          record {
            side = side_same (alike k l) i;
            lower = lower_same (alike k l) (few k l) j i;
            upper = upper i;
            price = five_same _ _ prices i;
            flag = five_same _ _ flags i;
            market = five_same _ _ markets i;
            paid = five (λ s. bit (paids s i));
            pricing = five (λ s. pricing_same (alike k l) s i);
            operating = five (λ s. table_total (table k l i) s);
            actual = actual i;
            most = greatest_same (alike k l) (few k l) i;
          }

    same_day : SameDay (settled_day (old_file d)) (settled_day d)
    same_day =
        record {
          lines = lines;
          participant = λ k l. participant_same (alike k l);
          point = λ k l. point_same (alike k l);
          side = λ k l. side_same (alike k l);
          count = steps;
          step = λ k j l g. step k j l;
          clawback = market_same d (accepted_header d header) 11 (omega arith);
        }

  -- the book
  book_after_lem : (b : List ℕ) → book_after (old_file d) b ≡ book_after d b
  unfolding book_after settle_fault
  book_after_lem b =
      cond_same (λ i. eqb (settle_fault_lem (length b) i) 0)
      (λ e.
      let z = or_else_both _ _ (eqb-true (settle_fault d (length b)) 0 e) in
      let s = same_book (same_day z.left) in
      λ i. s i ++ drop (book_length (lines i)) b)
      (λ i. b)

  -- the views
  view_fault_lem : (k j : ℕ) → view_fault (old_file d) k j ≡ view_fault d k j
  unfolding view_fault
  view_fault_lem k j =
      or_else_same day_fault_lem
      (λ z.
      or_else_same (λ i. refuse 16 (leb (lines i) k))
      (λ g.
      let l : k < line_count d = leb-false (line_count d) k (refuse_zero 15 (leb (line_count d) k) g) in
      let s = steps z k l in
      λ i. refuse 17 (leb (s i) j)))

  view_same : (k j : ℕ) → view_fault d k j ≡ 0 → view_of (old_file d) k j ≡ view_of d k j
  unfolding view_fault view_of
  view_same k j e =
      let b = or_else_both _ _ e in
      let c = or_else_both _ _ b.right in
      let l : k < line_count d = leb-false (line_count d) k (refuse_zero 15 _ c.left) in
      let g : j < step_count (line_at d k) = leb-false (step_count (line_at d k)) j (refuse_zero 16 _ c.right) in
      let x = step b.left k j l in
      let f = same_day b.left in
      λ i. figures_of (x i) (five (λ s. final_same f s k j l g i))

  view_answer_lem : (k j : ℕ) → view_answer (old_file d) k j ≡ view_answer d k j
  unfolding view_answer
  view_answer_lem k j =
      cond_same (λ i. eqb (view_fault_lem k j i) 0)
      (λ e. view_same k j (eqb-true (view_fault d k j) 0 e))
      (λ i. view_refused (view_fault_lem k j i))

  -- the text
  report_text_lem : report_text (old_file d) ≡ report_text d
  unfolding report_text
  report_text_lem =
      cond_same (λ i. eqb (day_fault_lem i) 0)
      (λ e. same_text (same_day (eqb-true (day_fault d) 0 e)))
      (λ i. refused_line (day_fault_lem i))

  all_same : SameAsOld d
  all_same =
      record {
        layout = old_layout d (accepted_header d header);
        header = header_passes d (accepted_header d header);
        market = market_fault_same d (accepted_header d header) ∙ market;
        records = records_pass d (accepted_header d header);
        number = day_fault_lem;
        settling = settle_fault_lem;
        book = book_after_lem;
        view = view_answer_lem;
        text = report_text_lem;
      }

-- it holds of every day that passes refusals 1 to 5 and 19 to 21
pub same_as_old : (d : List ℕ) → header_fault d ≡ 0 → market_fault d ≡ 0 → records_fault d ≡ 0 → SameAsOld d
same_as_old d header market records = all_same d header market records
