-- Document 02, F-5: the second layout and the refusals 3, 12 and 19 to 21, on both sides of their boundaries. The numbers expected are those of the
-- documents.
use Rattle.std.specs.Prelude.{ℕ, ◌+◌, ◌*◌, List, [], ◌∷◌, ◌++◌, replicate, take, drop, set}
use Rattle.rules.specs.Layout.{line_at}
use Rattle.rules.specs.Refusals.{header_fault, total_fault, day_fault, settle_fault, view_fault, line_part_fault, line_part, cut_fault}
use Rattle.rules.specs.InForce.{table_in_force}
use Rattle.rules.specs.Viewing.{view_answer}
use Rattle.rules.proofs.Worked.Cases.{Case, concat, bytes_of, lines_of, bid, number, view_fields, booked, printed}
use Rattle.rules.proofs.Worked.Refused.{changed}

-- a market table at its limits; a line of point p with bids of one step, so that M is 10, and v in its operating row 1
unfoldable pub market_words : List ℕ
market_words = replicate 5 10000000 ++ replicate 5 1 ++ (10000000 ∷ 1 ∷ [])

unfoldable pub line_words : ℕ → ℕ → List ℕ
line_words p v =
    concat
    ((7 ∷ p ∷ 0 ∷ 1 ∷ 0 ∷ [])
    ∷ bid (10 ∷ []) (5 ∷ []) ∷ bid (10 ∷ []) (5 ∷ []) ∷ bid (10 ∷ []) (5 ∷ []) ∷ bid (10 ∷ []) (5 ∷ []) ∷ bid (10 ∷ []) (5 ∷ [])
    ∷ replicate 15 0 ∷ (0 ∷ 0 ∷ 0 ∷ 0 ∷ v ∷ []) ∷ replicate 25 0 ∷ [])

-- a file of one line with c records r. Words: header 0 to 5; market 6 to 17 (marks from 11, APC 16, switch 17); the line from 18 (side 20), its
-- operating rows from 153, 158, 163, 168 and 173; the records from 183, 191, 199, each a line, a schedule, an order number and five quantities
unfoldable pub file_words : ℕ → ℕ → List ℕ → List ℕ
file_words v c r = concat ((1 ∷ 24 ∷ 72 ∷ (732 + 32 * c) ∷ c ∷ 732 ∷ []) ∷ market_words ∷ line_words 3 v ∷ r ∷ [])

-- three records: order numbers 0 and 5 for schedule 1 and 4294967295 for schedule 5. Above M + 1,000 are the own row 1 and the record with the
-- order number 0, which are not in force
unfoldable pub three_words : List ℕ
three_words =
    file_words 1011 3
    (concat
    ((0 ∷ 1 ∷ 0 ∷ replicate 5 4294967295)
    ∷ (0 ∷ 5 ∷ 4294967295 ∷ 0 ∷ 0 ∷ 0 ∷ 0 ∷ 0 ∷ [])
    ∷ (0 ∷ 1 ∷ 5 ∷ 0 ∷ 0 ∷ 0 ∷ 0 ∷ 0 ∷ [])
    ∷ []))

-- none; and the same line in a file of the old layout
unfoldable pub none_words : List ℕ
none_words = file_words 0 0 []

unfoldable pub old_words : List ℕ
old_words = concat ((1 ∷ 16 ∷ 64 ∷ 724 ∷ []) ∷ market_words ∷ line_words 3 0 ∷ [])

-- two lines, each with a record of one schedule and order number
unfoldable pub two_lines : List ℕ
two_lines =
    concat
    ((2 ∷ 24 ∷ 72 ∷ 1456 ∷ 2 ∷ 1392 ∷ []) ∷ market_words ∷ line_words 3 1011 ∷ line_words 4 0
    ∷ (0 ∷ 1 ∷ 5 ∷ 0 ∷ 0 ∷ 0 ∷ 0 ∷ 0 ∷ []) ∷ (1 ∷ 1 ∷ 5 ∷ 0 ∷ 0 ∷ 0 ∷ 0 ∷ 0 ∷ [])
    ∷ [])

-- c records of zeros, which name no schedule
unfoldable pub empty_records : ℕ → List ℕ
empty_records c = file_words 0 c (replicate (8 * c) 0)

-- accepted: no records, three; the old layout as far as its header; records of two lines, up to a line that is refused with 6. 1 and 2 as in the
-- old layout
abbrev accepted_cases : List Case
accepted_cases =
    number (day_fault (bytes_of none_words)) 0
    ∷ number (day_fault (bytes_of three_words)) 0
    ∷ number (header_fault (bytes_of old_words)) 0
    ∷ number (day_fault (changed two_lines 20 2)) 6
    ∷ number (day_fault (take 63 (bytes_of none_words))) 1
    ∷ number (day_fault (changed none_words 0 0)) 2
    ∷ number (day_fault (changed none_words 0 65)) 2
    ∷ []

-- 3: the offsets of market table, lines and records, the last with and without records; the length word; the real length; counts that the length
-- doesn't bear out, of which 32 times the last two are 2^32 more
abbrev layout_cases : List Case
layout_cases =
    number (day_fault (changed three_words 1 16)) 3
    ∷ number (day_fault (changed three_words 1 17)) 3
    ∷ number (day_fault (changed three_words 2 64)) 3
    ∷ number (day_fault (changed three_words 5 728)) 3
    ∷ number (day_fault (changed three_words 5 736)) 3
    ∷ number (day_fault (changed none_words 5 728)) 3
    ∷ number (day_fault (changed none_words 5 736)) 3
    ∷ number (day_fault (changed none_words 5 0)) 3
    ∷ number (day_fault (changed three_words 3 732)) 3
    ∷ number (day_fault (changed three_words 3 827)) 3
    ∷ number (day_fault (changed three_words 3 829)) 3
    ∷ number (day_fault (take 827 (bytes_of three_words))) 3
    ∷ number (day_fault (bytes_of three_words ++ (0 ∷ []))) 3
    ∷ number (day_fault (take 64 (bytes_of three_words))) 3
    ∷ number (day_fault (changed three_words 4 2)) 3
    ∷ number (day_fault (changed three_words 4 4)) 3
    ∷ number (day_fault (changed three_words 4 0)) 3
    ∷ number (day_fault (changed three_words 4 65)) 3
    ∷ number (day_fault (changed three_words 4 134217731)) 3
    ∷ number (day_fault (changed none_words 4 134217728)) 3
    ∷ number (day_fault (changed old_words 1 17)) 3
    ∷ number (day_fault (changed old_words 1 24)) 3
    ∷ number (day_fault (changed (set old_words 1 24) 2 72)) 3
    ∷ []

-- 19: 65 records, before 4 and before what the records hold; 64 records, and 4, and 20. The line part: 19 before 16
abbrev count_cases : List Case
count_cases =
    number (day_fault (bytes_of (empty_records 65))) 19
    ∷ number (day_fault (changed (empty_records 65) 6 10000001)) 19
    ∷ number (line_part_fault (bytes_of (empty_records 65)) 0) 19
    ∷ number (line_part_fault (bytes_of (empty_records 65)) 1) 19
    ∷ number (view_fault (bytes_of (empty_records 65)) 1 0) 19
    ∷ number (header_fault (bytes_of (empty_records 64))) 0
    ∷ number (day_fault (changed (empty_records 64) 6 10000001)) 4
    ∷ number (day_fault (bytes_of (empty_records 64))) 20
    ∷ number (line_part_fault (bytes_of (empty_records 64)) 0) 0
    ∷ number (line_part_fault (bytes_of (empty_records 64)) 1) 16
    ∷ []

-- 4 and 5 where the market table stands
abbrev market_cases : List Case
market_cases =
    number (day_fault (changed three_words 6 10000001)) 4
    ∷ number (day_fault (changed three_words 10 10000001)) 4
    ∷ number (day_fault (changed three_words 16 10000001)) 4
    ∷ number (day_fault (changed three_words 11 2)) 5
    ∷ number (day_fault (changed three_words 15 2)) 5
    ∷ number (day_fault (changed three_words 17 2)) 5
    ∷ []

-- 20: a line not in the file, of one and of two lines; schedules 0 and 6; each in the last record. 4 and 5 before 20, 20 before 6 and, of the last
-- record, before 21 of the first two
abbrev named_cases : List Case
named_cases =
    number (day_fault (changed three_words 183 1)) 20
    ∷ number (day_fault (changed three_words 199 1)) 20
    ∷ number (day_fault (changed three_words 199 4294967295)) 20
    ∷ number (day_fault (changed two_lines 356 2)) 20
    ∷ number (day_fault (changed three_words 184 0)) 20
    ∷ number (day_fault (changed three_words 200 0)) 20
    ∷ number (day_fault (changed three_words 200 6)) 20
    ∷ number (day_fault (changed three_words 200 4294967295)) 20
    ∷ number (day_fault (changed (set three_words 200 6) 6 10000001)) 4
    ∷ number (day_fault (changed (set three_words 200 6) 17 2)) 5
    ∷ number (day_fault (changed (set three_words 200 6) 20 2)) 20
    ∷ number (day_fault (changed (set (set three_words 192 1) 193 0) 200 6)) 20
    ∷ number (line_part_fault (changed three_words 200 6) 0) 0
    ∷ []

-- 21: the first two records, the last two, first and last, though their quantities differ; of two lines. The order number of another schedule, with
-- a line that is refused with 6, is no 21, nor is that of another line (two lines, above). 21 before 6
abbrev twin_cases : List Case
twin_cases =
    number (day_fault (changed (set three_words 192 1) 193 0)) 21
    ∷ number (day_fault (changed (set three_words 192 1) 193 5)) 21
    ∷ number (day_fault (changed three_words 201 0)) 21
    ∷ number (day_fault (changed two_lines 356 0)) 21
    ∷ number (day_fault (changed (set three_words 193 5) 20 2)) 6
    ∷ number (day_fault (changed (set three_words 201 0) 20 2)) 21
    ∷ number (line_part_fault (changed three_words 201 0) 0) 0
    ∷ []

-- refusal 12 in schedule s (from 0) of the file with three records, with word i changed to v
unfoldable pub total_in : ℕ → ℕ → ℕ → ℕ
total_in s i v = total_fault (table_in_force (changed three_words i v) 0) (line_at (changed three_words i v) 0) s

-- 12: M + 1,000 and M + 1,001 in the row of the order number 5, of 4294967295, and in an own row in force; the record with the order number 0 once
-- its number is the highest, and where schedule 1 has no other. Of the day: the view's number; an own row with no record, and with one for the
-- other line, where 21 comes first. The cutter's number
abbrev in_force_cases : List Case
in_force_cases =
    number (total_in 0 206 1010) 0
    ∷ number (total_in 0 206 1011) 12
    ∷ number (total_in 4 198 1010) 0
    ∷ number (total_in 4 198 1011) 12
    ∷ number (total_in 1 158 1010) 0
    ∷ number (total_in 1 158 1011) 12
    ∷ number (total_in 0 185 6) 12
    ∷ number (total_in 0 200 2) 12
    ∷ number (view_fault (changed three_words 206 1011) 0 0) 12
    ∷ number (day_fault (bytes_of (file_words 1011 0 []))) 12
    ∷ number (day_fault (changed (set two_lines 348 1) 350 6)) 12
    ∷ number (day_fault (changed two_lines 348 1)) 21
    ∷ number (cut_fault (take 660 (drop 72 (bytes_of three_words)))) 12
    ∷ []

-- what a refused file is answered with, and the line's bytes where they stand
unfoldable pub named_answers : List ℕ → List Case
named_answers d =
    number (settle_fault d 0) 20
    ∷ booked d (replicate 152 170) (replicate 152 170)
    ∷ printed d (lines_of ("refused 20" ∷ []))
    ∷ record { found = view_fields (view_answer d 0 0); expected = 20 ∷ replicate 79 0 }
    ∷ record { found = line_part d 0; expected = take 660 (drop 72 d) }
    ∷ []

unfoldable pub ad_hoc_refused_cases : List Case
ad_hoc_refused_cases =
    accepted_cases ++ layout_cases ++ count_cases ++ market_cases ++ named_cases ++ twin_cases ++ in_force_cases ++ named_answers (changed three_words 200 6)

-- all of this file, opened
unfoldable pub ad_hoc_refused_opened : ℕ
unfolding changed line_part market_words line_words file_words three_words none_words old_words two_lines empty_records total_in named_answers ad_hoc_refused_cases
ad_hoc_refused_opened = 0
