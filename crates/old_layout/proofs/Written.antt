-- What the rules read of the old file: its layout, its market table, and each line with the rows in force as its own.
use Prim.Native.Nat.{ℕ, zero, suc, ◌+◌, ◌*◌, ◌<◌}
use Rattle.std.proofs.Common.{arith, ◌∙◌, le-ltb, ne_eqb}
use Rattle.std.specs.Prelude.{◌≡◌, refl, List, false, length, eqb, ltb}
use Rattle.std.proofs.Math.Path.{sym, ap}
use Rattle.rules.specs.Fold.{refuse, ◌or_else◌, first, five}
use Rattle.rules.specs.Layout.{price_most, word, field, line_count, ad_hoc, lines_at, line_place, records_at, record_count, file_length, market_word, market_at, line_at}
use Rattle.rules.specs.Layout.{operating_entry, operating_table, record_entry}
use Rattle.rules.specs.InForce.{highest, row_at, table_with, table_in_force}
use Rattle.rules.specs.Refusals.{header_fault_of, header_fault, market_price_fault, mark_fault, market_fault, record_fault, twin_fault, records_fault}
use Rattle.laws.specs.Folds.{or_else_none, first_none, first_same, not_ne, passes, none_at}
use Rattle.laws.specs.Layouts.{layout_is, old_market_lem, old_lines, old_count}
use Rattle.laws.specs.Accepted.{AcceptedHeader}
use Rattle.laws.specs.InForce.{own_table}
use Rattle.numbers.specs.Fives.{five_same}
use Rattle.old_layout.specs.File.{row_place, place_in_force, old_file}
use Rattle.old_layout.specs.Bytes.{Copied, part_copied, word_same}
use Rattle.old_layout.proofs.Places.{file_length_lem, market_copied, front_copied, actuals_copied, row_copied, old_words_lem}
use Rattle.old_layout.specs.Fields.{Alike}

-- word j of line k is a word of the file
line_word : (b : List ℕ) (k j : ℕ) → j < 165 → field (line_at b k) j ≡ word b (line_place b k + 4 * j)
line_word b k j l =
    word_same (part_copied b (line_place b k) 660) (4 * j) (4 * j) (line_place b k + 4 * j) (omega arith) (omega arith) refl

module _ (d : List ℕ) (a : AcceptedHeader d) where
  -- the layout
  pub old_layout : ad_hoc (old_file d) ≡ false
  old_layout = sym (layout_is (old_file d) 16 (sym (old_words_lem d a).market))

  market_place : 16 ≡ market_at (old_file d)
  market_place = old_market_lem (old_file d) false (sym old_layout) refl

  lines_place : 64 ≡ lines_at (old_file d)
  lines_place = old_lines (old_file d) false (sym old_layout) refl

  pub no_records : 0 ≡ record_count (old_file d)
  no_records = old_count (old_file d) false (sym old_layout) refl

  -- the market table
  pub market_same : (j : ℕ) → j < 12 → market_word (old_file d) j ≡ market_word d j
  market_same j l =
      let m = market_place in
      word_same (market_copied d a) (4 * j) (market_at (old_file d) + 4 * j) (market_at d + 4 * j) (omega arith) (omega arith) refl

  -- line k, but for its operating quantities
  module _ (k : ℕ) (l : k < line_count d) where
    pub line_alike : Alike (line_at (old_file d) k) (line_at d k)
    line_alike =
        record {
          front =
              λ j g.
              let p = lines_place in
              line_word (old_file d) k j (omega arith)
              ∙ word_same (front_copied d a k l) (4 * j) (line_place (old_file d) k + 4 * j) (line_place d k + 4 * j) (omega arith) (omega arith) refl
              ∙ sym (line_word d k j (omega arith));
          actuals =
              λ i g.
              let p = lines_place in
              line_word (old_file d) k (160 + i) (omega arith)
              ∙ word_same (actuals_copied d a k l) (4 * i) (line_place (old_file d) k + 4 * (160 + i)) (line_place d k + 4 * (160 + i)) (omega arith) (omega arith) (omega arith)
              ∙ sym (line_word d k (160 + i) (omega arith));
        }

    -- its own row s is the row in force
    row_written_by : (s p : ℕ) → s < 5 → Copied (old_file d) (64 + 660 * k + 540 + 20 * s) d (row_place d k s p) 20
        → five (operating_entry (line_at (old_file d) k) s) ≡ row_at d (records_at d) (line_at d k) s p
    unfolding row_place row_at
    row_written_by s zero g c =
        let q = lines_place in
        five_same (operating_entry (line_at (old_file d) k) s) (operating_entry (line_at d k) s)
        (λ i m.
        line_word (old_file d) k (135 + (5 * s + i)) (omega arith)
        ∙ word_same c (4 * i) (line_place (old_file d) k + 4 * (135 + (5 * s + i))) (line_place d k + 4 * (135 + (5 * s + i))) (omega arith) (omega arith) (omega arith)
        ∙ sym (line_word d k (135 + (5 * s + i)) (omega arith)))
    row_written_by s (suc n) g c =
        let q = lines_place in
        five_same (operating_entry (line_at (old_file d) k) s) (record_entry d (records_at d) n)
        (λ i m.
        line_word (old_file d) k (135 + (5 * s + i)) (omega arith)
        ∙ word_same c (4 * i) (line_place (old_file d) k + 4 * (135 + (5 * s + i))) (records_at d + 32 * n + 4 * (3 + i)) (omega arith) (omega arith) (omega arith))

    row_written : (s : ℕ) → s < 5
        → five (operating_entry (line_at (old_file d) k) s) ≡ row_at d (records_at d) (line_at d k) s (highest d (records_at d) k s (record_count d))
    unfolding place_in_force
    row_written s g = row_written_by s (highest d (records_at d) k s (record_count d)) g (row_copied d a k l s g)

    -- WITH THOSE ROWS WRITTEN IN: the line's own table there is that of the rows in force here
    pub rows_written : operating_table (line_at (old_file d) k) ≡ table_in_force d k
    unfolding table_in_force table_with
    rows_written =
        five_same (λ s. five (operating_entry (line_at (old_file d) k) s)) (λ s. row_at d (records_at d) (line_at d k) s (highest d (records_at d) k s (record_count d)))
        row_written

    -- and in force there
    pub table_same : table_in_force (old_file d) k ≡ table_in_force d k
    table_same = own_table (old_file d) k (sym no_records) ∙ rows_written

  -- refusals 1 to 5 and 19 to 21
  pub header_passes : header_fault (old_file d) ≡ 0
  unfolding header_fault_of header_fault
  header_passes =
      let o = old_file d in
      let size = file_length_lem d a in
      let n = (old_words_lem d a).count in
      let m = (old_words_lem d a).market in
      let w = (old_words_lem d a).lines in
      let len = (old_words_lem d a).size in
      let p = market_place in
      let q = lines_place in
      let c = no_records in
      let least = a.count_least in
      let most = a.count_most in
      let f = old_layout in
      sym
      (passes 1 (ltb (length o) 64) _ 0 (le-ltb (length o) 64 (omega arith))
      (passes 2 (eqb (line_count o) 0) _ 0 (ne_eqb (line_count o) 0 (λ e. omega arith))
      (passes 2 (ltb 64 (line_count o)) _ 0 (le-ltb 64 (line_count o) (omega arith))
      (passes 3 _ _ 0 (not_ne (word o 4) (market_at o) (m ∙ p))
      (passes 3 _ _ 0 (not_ne (word o 8) (lines_at o) (w ∙ q))
      (passes 3 _ _ 0 (rw f)
      (passes 3 _ _ 0 (not_ne (word o 12) (file_length o) (omega arith))
      (passes 3 _ _ 0 (not_ne (length o) (file_length o) (omega arith))
      (none_at 19 (ltb 64 (record_count o)) (le-ltb 64 (record_count o) (omega arith)))))))))))

  market_price_fault_same : (s : ℕ) → s < 5 → market_price_fault (old_file d) s ≡ market_price_fault d s
  unfolding market_price_fault
  market_price_fault_same s l = ap (λ (x : ℕ). refuse 4 (ltb price_most x)) (market_same s (omega arith))

  mark_fault_same : (s : ℕ) → s < 5 → mark_fault (old_file d) s ≡ mark_fault d s
  unfolding mark_fault
  mark_fault_same s l = ap (λ (x : ℕ). refuse 5 (ltb 1 x)) (market_same (5 + s) (omega arith))

  pub market_fault_same : market_fault (old_file d) ≡ market_fault d
  unfolding market_fault
  market_fault_same =
      let p = first_same 5 (market_price_fault (old_file d)) (market_price_fault d) market_price_fault_same in
      let q = first_same 5 (mark_fault (old_file d)) (mark_fault d) mark_fault_same in
      let c = market_same 10 (omega arith) in
      let w = market_same 11 (omega arith) in
      λ i. p i or_else refuse 4 (ltb price_most (c i)) or_else q i or_else refuse 5 (ltb 1 (w i))

  pub records_pass : records_fault (old_file d) ≡ 0
  unfolding records_fault
  records_pass =
      let o = old_file d in
      ap (λ (c : ℕ). first (record_fault o (records_at o) (line_count o)) c or_else first (twin_fault o (records_at o)) c) (sym no_records)
      ∙ or_else_none (first_none _) (first_none _)
