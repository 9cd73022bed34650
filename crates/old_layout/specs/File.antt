-- Document 02, F-5: "the old file with those rows written in", made from a file of either layout by copying its bytes.
use Rattle.std.specs.Prelude.{ℕ, zero, suc, ◌+◌, ◌*◌, List, ◌++◌, take, drop}
use Rattle.rules.specs.Fold.{joined}
use Rattle.rules.specs.Layout.{line_count, line_bytes, record_bytes, market_at, line_place, records_at, record_count}
use Rattle.rules.specs.InForce.{highest}
use Rattle.rules.specs.Book.{word_bytes}

-- n bytes of b from byte p on
abbrev pub part : List ℕ → ℕ → ℕ → List ℕ
part b p n = take n (drop p b)

-- "Header, 4 words: line count n .., offset of the market table (16), offset of the lines (64), file length (64 + 660n bytes)" (document 01);
-- n is copied
unfoldable pub old_header : List ℕ → List ℕ
old_header d = part d 0 4 ++ word_bytes 16 ++ word_bytes 64 ++ word_bytes (64 + line_bytes * line_count d)

-- "Market table, 12 words", from where it stands in d
unfoldable pub old_market : List ℕ → List ℕ
old_market d = part d (market_at d) 48

-- where the quantities of operating row s of line k stand in d, five words, by the place of the record in force, which counts from 1: where
-- there is none in the line itself, else in that record, behind its line, schedule and order number
unfoldable pub row_place : List ℕ → ℕ → ℕ → ℕ → ℕ
row_place d k s zero = line_place d k + 540 + 20 * s
row_place d k s (suc i) = records_at d + record_bytes * i + 12

-- those of the row in force
unfoldable pub place_in_force : List ℕ → ℕ → ℕ → ℕ
place_in_force d k s = row_place d k s (highest d (records_at d) k s (record_count d))

unfoldable pub old_row : List ℕ → ℕ → ℕ → List ℕ
old_row d k s = part d (place_in_force d k s) 20

-- line k: its 135 words before the operating quantities, the five rows in force, its five actuals
unfoldable pub old_line : List ℕ → ℕ → List ℕ
old_line d k = part d (line_place d k) 540 ++ joined 5 (old_row d k) ++ part d (line_place d k + 640) 20

-- the whole file
unfoldable pub old_file : List ℕ → List ℕ
old_file d = old_header d ++ old_market d ++ joined (line_count d) (old_line d)
