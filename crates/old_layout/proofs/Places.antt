-- Where the parts of the old file stand in its bytes, and which of them are copies.
use Prim.Native.Nat.{ℕ, zero, suc, ◌+◌, ◌*◌, ◌≤◌, ◌<◌}
use Rattle.std.proofs.Common.{zero-add, length-append, length-take, length-drop}
use native.Mathlib.Omega.{arith}
use Rattle.std.specs.Prelude.{◌≡◌, List, ◌++◌, Bool, true, false, cond}
use Rattle.std.proofs.Math.Path.{refl}
use Rattle.std.proofs.Math.ListN.{length}
use Rattle.rules.specs.Fold.{joined}
use Rattle.rules.specs.Layout.{line_count, market_offset, lines_offset, length_word, ad_hoc, market_at, lines_at, line_place, records_at, record_count}
use Rattle.rules.specs.InForce.{highest}
use Rattle.rules.specs.Book.{word_bytes}
use Rattle.laws.specs.Folds.{joined_length}
use Rattle.laws.specs.Accepted.{AcceptedHeader}
use Rattle.laws.specs.InForce.{highest_some}
use Rattle.book_layout.specs.Reading.{Stands, stands_first, stands_after, stands_joined, le_length, word_stands}
use Rattle.old_layout.specs.File.{part, old_header, old_market, row_place, place_in_force, old_row, old_line, old_file}
use Rattle.old_layout.specs.Bytes.{Copied, part_length, stands_copied, word_same}

-- in both layouts the lines follow the market table
market_by : (t : Bool) → cond t 24 16 + 48 ≡ cond t 72 64
market_by true = refl
market_by false = refl

market_ends : (d : List ℕ) → market_at d + 48 ≡ lines_at d
unfolding market_at lines_at
market_ends d = market_by (ad_hoc d)

-- a list stands at the front of itself
stands_self : (b : List ℕ) → Stands b 0 b
stands_self b = record { each = λ j l. rw (zero-add j) }

-- the header's words
pub record OldWords (d : List ℕ) : Type 0 where
  pub count : line_count (old_file d) ≡ line_count d
  pub market : market_offset (old_file d) ≡ 16
  pub lines : lines_offset (old_file d) ≡ 64
  pub size : length_word (old_file d) ≡ 64 + 660 * line_count d

module _ (d : List ℕ) (a : AcceptedHeader d) where
  -- the lengths of the parts
  count_length : length (part d 0 4) ≡ 4
  count_length = let e = a.length_least in part_length d 0 4 (omega arith)

  header_length : length (old_header d) ≡ 16
  unfolding old_header
  header_length = let n = count_length in simp (length-append, le_length, n)

  market_length : length (old_market d) ≡ 48
  unfolding old_market
  market_length =
      let e = a.length_is in
      let f = a.length_least in
      let m = market_ends d in
      rw (length-take, length-drop) (omega arith)

  row_room_by : (k s p : ℕ) → k < line_count d → s < 5 → ((i : ℕ) → p ≡ suc i → i < record_count d) → row_place d k s p + 20 ≤ length d
  unfolding row_place
  row_room_by k s zero l g h = let e = a.length_is in omega arith
  row_room_by k s (suc i) l g h = let e = a.length_is in let m = h i refl in omega arith

  row_room : (k s : ℕ) → k < line_count d → s < 5 → place_in_force d k s + 20 ≤ length d
  unfolding place_in_force
  row_room k s l g =
      row_room_by k s (highest d (records_at d) k s (record_count d)) l g
      (λ i e. (highest_some d (records_at d) k s (record_count d) i e).0)

  row_length : (k s : ℕ) → k < line_count d → s < 5 → length (old_row d k s) ≡ 20
  unfolding old_row
  row_length k s l g = part_length d (place_in_force d k s) 20 (row_room k s l g)

  rows_length : (k : ℕ) → k < line_count d → length (joined 5 (old_row d k)) ≡ 100
  rows_length k l = joined_length 5 20 (old_row d k) (λ s g. row_length k s l g)

  front_length : (k : ℕ) → k < line_count d → length (part d (line_place d k) 540) ≡ 540
  front_length k l = let e = a.length_is in part_length d (line_place d k) 540 (omega arith)

  actuals_length : (k : ℕ) → k < line_count d → length (part d (line_place d k + 640) 20) ≡ 20
  actuals_length k l = let e = a.length_is in part_length d (line_place d k + 640) 20 (omega arith)

  line_length : (k : ℕ) → k < line_count d → length (old_line d k) ≡ 660
  unfolding old_line
  line_length k l =
      let f = front_length k l in
      let r = rows_length k l in
      let b = actuals_length k l in
      simp (length-append, f, r, b)

  pub file_length_lem : length (old_file d) ≡ 64 + 660 * line_count d
  unfolding old_file
  file_length_lem =
      let h = header_length in
      let m = market_length in
      let l = joined_length (line_count d) 660 (old_line d) line_length in
      simp (length-append, h, m, l) (omega arith)

  -- header and market table, and the header's words
  top_stands : Stands (old_file d) 0 (old_header d ++ old_market d)
  unfolding old_file
  top_stands = stands_first (old_header d ++ old_market d) (joined (line_count d) (old_line d)) (stands_self (old_file d))

  pub market_copied : Copied (old_file d) 16 d (market_at d) 48
  unfolding old_market
  market_copied =
      let e = a.length_is in
      let m = market_ends d in
      stands_copied (old_file d) 16 d (market_at d) 48 (omega arith)
      (stands_after (old_header d) (old_market d) 16 16 top_stands header_length refl)

  pub old_words_lem : OldWords d
  unfolding old_header
  old_words_lem =
      let e = a.length_least in
      let m = a.count_most in
      let n = count_length in
      let size = 64 + 660 * line_count d in
      let one = part d 0 4 in
      let two = one ++ word_bytes 16 in
      let three = two ++ word_bytes 64 in
      let s₄ = stands_first (old_header d) (old_market d) top_stands in
      let s₃ = stands_first three (word_bytes size) s₄ in
      let s₂ = stands_first two (word_bytes 64) s₃ in
      let s₁ = stands_first one (word_bytes 16) s₂ in
      let n₂ : length two ≡ 8 = simp (length-append, le_length, n) in
      let n₃ : length three ≡ 12 = simp (length-append, le_length, n) in
      record {
        count = word_same (stands_copied (old_file d) 0 d 0 4 (omega arith) s₁) 0 0 0 (omega arith) refl refl;
        market = word_stands 16 (stands_after one (word_bytes 16) 4 4 s₂ n refl) (omega arith);
        lines = word_stands 64 (stands_after two (word_bytes 64) 8 8 s₃ n₂ refl) (omega arith);
        size = word_stands size (stands_after three (word_bytes size) 12 12 s₄ n₃ refl) (omega arith);
      }

  -- line k
  module _ (k : ℕ) (l : k < line_count d) where
    line_stands : Stands (old_file d) (64 + 660 * k) (old_line d k)
    unfolding old_file
    line_stands =
        let top = old_header d ++ old_market d in
        let h = header_length in
        let m = market_length in
        let size : length top ≡ 64 = simp (length-append, h, m) in
        let lines = stands_after top (joined (line_count d) (old_line d)) 64 64 (stands_self (old_file d)) size refl in
        let place : 64 + k * 660 ≡ 64 + 660 * k = omega arith in
        rw place at (stands_joined (line_count d) 660 (old_line d) lines line_length k l)

    front_stands : Stands (old_file d) (64 + 660 * k) (part d (line_place d k) 540 ++ joined 5 (old_row d k))
    unfolding old_line
    front_stands = stands_first (part d (line_place d k) 540 ++ joined 5 (old_row d k)) (part d (line_place d k + 640) 20) line_stands

    -- its words before the operating quantities, and its actuals
    pub front_copied : Copied (old_file d) (64 + 660 * k) d (line_place d k) 540
    front_copied =
        let e = a.length_is in
        stands_copied (old_file d) (64 + 660 * k) d (line_place d k) 540 (omega arith)
        (stands_first (part d (line_place d k) 540) (joined 5 (old_row d k)) front_stands)

    pub actuals_copied : Copied (old_file d) (64 + 660 * k + 640) d (line_place d k + 640) 20
    unfolding old_line
    actuals_copied =
        let e = a.length_is in
        let front = part d (line_place d k) 540 ++ joined 5 (old_row d k) in
        let f = front_length k l in
        let r = rows_length k l in
        let size : length front ≡ 640 = simp (length-append, f, r) in
        stands_copied (old_file d) (64 + 660 * k + 640) d (line_place d k + 640) 20 (omega arith)
        (stands_after front (part d (line_place d k + 640) 20) 640 (64 + 660 * k + 640) line_stands size refl)

    rows_stand : Stands (old_file d) (64 + 660 * k + 540) (joined 5 (old_row d k))
    rows_stand =
        stands_after (part d (line_place d k) 540) (joined 5 (old_row d k)) 540 (64 + 660 * k + 540) front_stands (front_length k l) refl

    -- its operating row s, from the row in force
    pub row_copied : (s : ℕ) → s < 5 → Copied (old_file d) (64 + 660 * k + 540 + 20 * s) d (place_in_force d k s) 20
    unfolding old_row
    row_copied s g =
        let place : 64 + 660 * k + 540 + s * 20 ≡ 64 + 660 * k + 540 + 20 * s = omega arith in
        stands_copied (old_file d) (64 + 660 * k + 540 + 20 * s) d (place_in_force d k s) 20 (row_room k s l g)
        (rw place at (stands_joined 5 20 (old_row d k) rows_stand (λ s g. row_length k s l g) s g))
