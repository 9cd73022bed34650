-- Document 01, "Figures to check against": K1 to K10, one lemma over a list of cases.
use Rattle.std.specs.Prelude.{ℕ, ◌≡◌, refl, List, [], ◌∷◌, ◌++◌, map, true, replicate, ℤ, pos, negsuc}
use Rattle.rules.specs.Fold.{five}
use Rattle.rules.specs.Layout.{operating_table}
use Rattle.rules.specs.Steps.{ends, price, flag}
use Rattle.rules.specs.Quantities.{pricing_total, table_total, table_actual, allocated, last_agino, agino}
use Rattle.rules.specs.Matching.{ten_matches}
use Rattle.rules.specs.Totals.{adjusted}
use Rattle.rules.specs.Book.{bits64, book_after}
use Rattle.rules.specs.Report.{report_text}
use Rattle.rules.proofs.Worked.Cases.{Case, every, bytes_of}
use Rattle.rules.proofs.Worked.Opened.{opened}
use Rattle.rules.proofs.Worked.TableLine.{table_line}
use Rattle.rules.proofs.Worked.SmallLines.{small_lines}

-- K10's day: "One line, participant 7, point 3, accredited injection, hedge 0; each bid has breaks 1000, 3000 at 20000, 50000;
-- market prices 30000, the rest of the table 0 .."
abbrev k10_bid : List ℕ
k10_bid = 2 ∷ 1000 ∷ 3000 ∷ 0 ∷ 0 ∷ 0 ∷ 0 ∷ 0 ∷ 0 ∷ 0 ∷ 0 ∷ 0 ∷ 20000 ∷ 50000 ∷ 0 ∷ 0 ∷ 0 ∷ 0 ∷ 0 ∷ 0 ∷ 0 ∷ 0 ∷ 0 ∷ []

abbrev pub k10_day : List ℕ
k10_day =
    bytes_of
    ((1 ∷ 16 ∷ 64 ∷ 724 ∷ [])
    ++ replicate 5 30000 ++ replicate 7 0
    ++ (7 ∷ 3 ∷ 0 ∷ 1 ∷ 0 ∷ [])
    ++ k10_bid ++ k10_bid ++ k10_bid ++ k10_bid ++ k10_bid
    ++ (1000 ∷ replicate 14 0)
    ++ (1000 ∷ 0 ∷ 0 ∷ 0 ∷ 0 ∷ [])
    ++ (1000 ∷ 1000 ∷ 0 ∷ 0 ∷ 0 ∷ 1000 ∷ 1000 ∷ 0 ∷ 0 ∷ 0 ∷ [])
    ++ (1000 ∷ 500 ∷ 0 ∷ 0 ∷ 0 ∷ 1000 ∷ 500 ∷ 0 ∷ 0 ∷ 0 ∷ [])
    ++ (1000 ∷ 500 ∷ 0 ∷ 0 ∷ 0 ∷ []))

-- words 1 16 96 152; t, a: 0 0, 20000000 10000000, 0 0, -10000000 0, 0 0; 7 3 0 2; 0 20000000 0 -10000000 0
abbrev k10_book : List ℕ
k10_book =
    1 ∷ 0 ∷ 0 ∷ 0 ∷ 16 ∷ 0 ∷ 0 ∷ 0 ∷ 96 ∷ 0 ∷ 0 ∷ 0 ∷ 152 ∷ 0 ∷ 0 ∷ 0 ∷ 0 ∷ 0 ∷ 0 ∷ 0 ∷ 0 ∷ 0 ∷ 0 ∷ 0 ∷ 0 ∷ 0 ∷ 0 ∷ 0
    ∷ 0 ∷ 0 ∷ 0 ∷ 0 ∷ 0 ∷ 45 ∷ 49 ∷ 1 ∷ 0 ∷ 0 ∷ 0 ∷ 0 ∷ 128 ∷ 150 ∷ 152 ∷ 0 ∷ 0 ∷ 0 ∷ 0 ∷ 0 ∷ 0 ∷ 0 ∷ 0 ∷ 0 ∷ 0 ∷ 0 ∷
    0 ∷ 0 ∷ 0 ∷ 0 ∷ 0 ∷ 0 ∷ 0 ∷ 0 ∷ 0 ∷ 0 ∷ 128 ∷ 105 ∷ 103 ∷ 255 ∷ 255 ∷ 255 ∷ 255 ∷ 255 ∷ 0 ∷ 0 ∷ 0 ∷ 0 ∷ 0 ∷ 0 ∷ 0
    ∷ 0 ∷ 0 ∷ 0 ∷ 0 ∷ 0 ∷ 0 ∷ 0 ∷ 0 ∷ 0 ∷ 0 ∷ 0 ∷ 0 ∷ 0 ∷ 0 ∷ 0 ∷ 0 ∷ 0 ∷ 7 ∷ 0 ∷ 0 ∷ 0 ∷ 3 ∷ 0 ∷ 0 ∷ 0 ∷ 0 ∷ 0 ∷ 0 ∷
    0 ∷ 2 ∷ 0 ∷ 0 ∷ 0 ∷ 0 ∷ 0 ∷ 0 ∷ 0 ∷ 0 ∷ 0 ∷ 0 ∷ 0 ∷ 0 ∷ 45 ∷ 49 ∷ 1 ∷ 0 ∷ 0 ∷ 0 ∷ 0 ∷ 0 ∷ 0 ∷ 0 ∷ 0 ∷ 0 ∷ 0 ∷ 0 ∷
    0 ∷ 128 ∷ 105 ∷ 103 ∷ 255 ∷ 255 ∷ 255 ∷ 255 ∷ 255 ∷ 0 ∷ 0 ∷ 0 ∷ 0 ∷ 0 ∷ 0 ∷ 0 ∷ 0 ∷ []

-- the four lines that document 01 shows
abbrev k10_text : List ℕ
k10_text =
    100 ∷ 97 ∷ 121 ∷ 32 ∷ 49 ∷ 10 ∷ 55 ∷ 32 ∷ 51 ∷ 32 ∷ 73 ∷ 78 ∷ 74 ∷ 32 ∷ 50 ∷ 32 ∷ 48 ∷ 32 ∷ 50 ∷ 48 ∷ 48 ∷ 48 ∷ 48
    ∷ 48 ∷ 48 ∷ 48 ∷ 32 ∷ 48 ∷ 32 ∷ 45 ∷ 49 ∷ 48 ∷ 48 ∷ 48 ∷ 48 ∷ 48 ∷ 48 ∷ 48 ∷ 32 ∷ 48 ∷ 10 ∷ 116 ∷ 111 ∷ 116 ∷ 97 ∷
    108 ∷ 32 ∷ 48 ∷ 32 ∷ 50 ∷ 48 ∷ 48 ∷ 48 ∷ 48 ∷ 48 ∷ 48 ∷ 48 ∷ 32 ∷ 48 ∷ 32 ∷ 45 ∷ 49 ∷ 48 ∷ 48 ∷ 48 ∷ 48 ∷ 48 ∷ 48
    ∷ 48 ∷ 32 ∷ 48 ∷ 10 ∷ 97 ∷ 100 ∷ 106 ∷ 117 ∷ 115 ∷ 116 ∷ 101 ∷ 100 ∷ 32 ∷ 48 ∷ 32 ∷ 49 ∷ 48 ∷ 48 ∷ 48 ∷ 48 ∷ 48 ∷
    48 ∷ 48 ∷ 32 ∷ 48 ∷ 32 ∷ 48 ∷ 32 ∷ 48 ∷ 10 ∷ []

-- price and flag of the step that ends at u
abbrev priced : ℕ → ℕ → List ℕ
priced s u = price table_line s u ∷ flag table_line s u ∷ []

-- AGINO(5) on a step from l to u, with FD Table 7's operating total and effective actual
abbrev last_agino_on : ℕ → ℕ → ℕ
last_agino_on l u = last_agino (replicate 4 0 ++ (allocated (table_total (operating_table table_line) 4) l u ∷ [])) (allocated (table_actual (operating_table table_line) table_line) l u)

abbrev adjusted_of : List ℤ → List ℕ
adjusted_of t = map bits64 (five (adjusted t))

abbrev k6 : List ℕ
k6 = 10 ∷ 20 ∷ 30 ∷ 40 ∷ 50 ∷ []

abbrev k7 : List ℕ
k7 = 3 ∷ 5 ∷ 2 ∷ 4 ∷ 1 ∷ []

abbrev cases : List Case
cases =
    -- K1
    record { found = ends table_line; expected = 15 ∷ 16 ∷ 17 ∷ 30 ∷ 32 ∷ 34 ∷ 37 ∷ 45 ∷ 48 ∷ 51 ∷ 60 ∷ 64 ∷ 68 ∷ 75 ∷ [] }
    -- K2
    ∷ record { found = priced 1 64 ++ priced 1 68; expected = 36000 ∷ 0 ∷ 36000 ∷ 1 ∷ [] }
    -- K3
    ∷ record { found = five (pricing_total table_line); expected = 15 ∷ 31 ∷ 40 ∷ 44 ∷ 45 ∷ [] }
    -- K4
    ∷ record { found = allocated (pricing_total table_line 1) 30 32 ∷ []; expected = 1 ∷ [] }
    -- K5
    ∷ record { found = table_actual (operating_table table_line) table_line ∷ table_total (operating_table table_line) 4 ∷ []; expected = 47 ∷ 50 ∷ [] }
    ∷ record { found = last_agino_on 45 48 ∷ last_agino_on 48 51 ∷ []; expected = 1 ∷ 2 ∷ [] }
    -- K6, where O(5) - A is 45
    ∷ record { found = five (agino k6 5); expected = 5 ∷ 15 ∷ 25 ∷ 35 ∷ 45 ∷ [] }
    -- K7: m(1,2); m(1,3) m(2,3); m(1,4) m(2,4) m(3,4); m(1,5) m(2,5) m(3,5) m(4,5)
    ∷ record { found = ten_matches k7; expected = 0 ∷ 1 ∷ 2 ∷ 0 ∷ 0 ∷ 0 ∷ 1 ∷ 0 ∷ 0 ∷ 2 ∷ [] }
    -- K8, K9
    ∷ record { found = adjusted_of (pos 5 ∷ negsuc 1 ∷ pos 4 ∷ negsuc 2 ∷ pos 0 ∷ []); expected = map bits64 (pos 3 ∷ pos 0 ∷ pos 1 ∷ pos 0 ∷ pos 0 ∷ []) }
    ∷ record { found = adjusted_of (pos 5 ∷ negsuc 7 ∷ pos 4 ∷ pos 0 ∷ pos 0 ∷ []); expected = map bits64 (pos 0 ∷ negsuc 2 ∷ pos 4 ∷ pos 0 ∷ pos 0 ∷ []) }
    -- K10: a lent book of just its length, and the report
    ∷ record { found = book_after k10_day (replicate 152 170); expected = k10_book }
    ∷ record { found = report_text k10_day; expected = k10_text }
    ∷ []

-- it names the lemma of the small lines, so that where that is refused this is not computed
pub figures : every cases ≡ true
unfolding opened
figures = let k = small_lines in refl
