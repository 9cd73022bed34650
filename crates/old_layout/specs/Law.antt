-- "The engine must give the same book as the old file with those rows written in" (document 02, F-5): of every day that passes the refusals
-- of header, market table and records.
use Rattle.std.specs.Prelude.{ℕ, ◌≡◌, false}
use mathlib.Core.List.{List}
use Rattle.rules.specs.Layout.{ad_hoc}
use Rattle.rules.specs.Refusals.{header_fault, market_fault, records_fault, day_fault, settle_fault}
use Rattle.rules.specs.Viewing.{view_answer}
use Rattle.rules.specs.Book.{book_after}
use Rattle.rules.specs.Report.{report_text}
use Rattle.old_layout.specs.File.{old_file}

-- THE LAW, of the file d
pub record SameAsOld (d : List ℕ) : Type 0 where
  -- the old file is one of the old layout, and passes the refusals of header and market table; records it has none
  pub layout : ad_hoc (old_file d) ≡ false
  pub header : header_fault (old_file d) ≡ 0
  pub market : market_fault (old_file d) ≡ 0
  pub records : records_fault (old_file d) ≡ 0
  -- its number is that of d, 0 or one of 6 to 14, and of settling with so many bytes lent for the book 15 too
  pub number : day_fault (old_file d) ≡ day_fault d
  pub settling : (lent : ℕ) → settle_fault (old_file d) lent ≡ settle_fault d lent
  -- the lent book as settling leaves it, byte for byte; each step's view; the settling program's text
  pub book : (b : List ℕ) → book_after (old_file d) b ≡ book_after d b
  pub view : (k j : ℕ) → view_answer (old_file d) k j ≡ view_answer d k j
  pub text : report_text (old_file d) ≡ report_text d
