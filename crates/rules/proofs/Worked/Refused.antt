-- Each refusal of document 01's table on both sides of its boundary. The numbers expected are the table's own.
use Rattle.std.specs.Prelude.{ℕ, List, [], ◌∷◌, ◌++◌, replicate, take, drop, set}
use Rattle.rules.specs.Layout.{operating_table}
use Rattle.rules.specs.Refusals.{total_fault, day_fault, settle_fault, view_fault, line_part_fault, cut_fault}
use Rattle.rules.specs.Viewing.{view_answer}
use Rattle.rules.specs.Cutting.{cut_answer}
use Rattle.rules.proofs.Worked.Cases.{Case, concat, bytes_of, lines_of, bid, number, view_fields, cut_fields, booked, printed}

-- A day at every limit, which is accepted: prices and APC 10,000,000, marks and switch 1, an injection with 11 equal prices of 10,000,000 in its
-- first bid and one step in each other, M = 200,000,000, and hedge, every pricing and operating total and every actual 200,000,000 too.
-- Words: market 4 to 15 (marks from 9, APC 14, switch 15); the line from 16 (side 18, accreditation 19, hedge 20); bids from 21, 44, 67, 90 and 113,
-- each a count, breaks from 1 and prices from 12 on; pricing from 136, operating from 151, actuals from 176
unfoldable pub limit_words : List ℕ
limit_words =
    concat
    ((1 ∷ 16 ∷ 64 ∷ 724 ∷ [])
    ∷ replicate 5 10000000 ∷ replicate 5 1 ∷ (10000000 ∷ 1 ∷ [])
    ∷ (7 ∷ 3 ∷ 0 ∷ 1 ∷ 200000000 ∷ [])
    ∷ bid (1 ∷ 2 ∷ 3 ∷ 4 ∷ 5 ∷ 6 ∷ 7 ∷ 8 ∷ 9 ∷ 10 ∷ 200000000 ∷ []) (replicate 11 10000000)
    ∷ bid (1 ∷ []) (5 ∷ []) ∷ bid (1 ∷ []) (5 ∷ []) ∷ bid (1 ∷ []) (5 ∷ []) ∷ bid (1 ∷ []) (5 ∷ [])
    ∷ (200000000 ∷ 0 ∷ 0 ∷ 0 ∷ 0 ∷ []) ∷ replicate 10 0
    ∷ (200000000 ∷ 0 ∷ 0 ∷ 0 ∷ 0 ∷ []) ∷ (0 ∷ 200000000 ∷ 0 ∷ 0 ∷ 0 ∷ []) ∷ (0 ∷ 0 ∷ 200000000 ∷ 0 ∷ 0 ∷ [])
    ∷ (0 ∷ 0 ∷ 0 ∷ 200000000 ∷ 0 ∷ []) ∷ (0 ∷ 0 ∷ 0 ∷ 0 ∷ 200000000 ∷ [])
    ∷ replicate 5 200000000
    ∷ [])

unfoldable pub limit_day : List ℕ
limit_day = bytes_of limit_words

-- the day of these words with word i changed to v
unfoldable pub changed : List ℕ → ℕ → ℕ → List ℕ
changed w i v = bytes_of (set w i v)

-- two lines with equal keys; the days of Base1 and Base3 have lines that differ in participant, point or side alone
unfoldable pub two_words : List ℕ
two_words = concat ((2 ∷ 16 ∷ 64 ∷ 1384 ∷ []) ∷ take 12 (drop 4 limit_words) ∷ drop 16 limit_words ∷ drop 16 limit_words ∷ [])

-- the header, and the market
abbrev header_cases : List Case
header_cases =
    number (day_fault (take 63 limit_day)) 1
    ∷ number (day_fault (take 64 limit_day)) 3
    ∷ number (day_fault (changed limit_words 0 0)) 2
    ∷ number (day_fault (changed limit_words 0 65)) 2
    ∷ number (day_fault (changed limit_words 0 64)) 3
    ∷ number (day_fault (changed limit_words 1 17)) 3
    ∷ number (day_fault (changed limit_words 2 65)) 3
    ∷ number (day_fault (changed limit_words 3 725)) 3
    ∷ number (day_fault (take 723 limit_day)) 3
    ∷ number (day_fault (limit_day ++ (0 ∷ []))) 3
    ∷ number (day_fault (changed limit_words 4 10000001)) 4
    ∷ number (day_fault (changed limit_words 8 10000001)) 4
    ∷ number (day_fault (changed limit_words 14 10000001)) 4
    ∷ number (day_fault (changed limit_words 9 2)) 5
    ∷ number (day_fault (changed limit_words 13 2)) 5
    ∷ number (day_fault (changed limit_words 15 2)) 5
    ∷ []

-- a line: side, accreditation; the first bid's count, breaks and prices; the second bid's unused slots
abbrev bid_cases : List Case
bid_cases =
    number (day_fault (changed limit_words 18 2)) 6
    ∷ number (day_fault (changed limit_words 19 2)) 6
    ∷ number (day_fault (changed limit_words 21 12)) 7
    ∷ number (day_fault (changed limit_words 21 0)) 7
    ∷ number (day_fault (changed limit_words 22 0)) 8
    ∷ number (day_fault (changed limit_words 23 1)) 8
    ∷ number (day_fault (changed limit_words 32 200000001)) 8
    ∷ number (day_fault (changed limit_words 43 10000001)) 9
    ∷ number (day_fault (changed limit_words 34 9999999)) 9
    ∷ number (day_fault (changed limit_words 46 2)) 10
    ∷ number (day_fault (changed limit_words 57 5)) 10
    ∷ []

-- two faults, of which the first met counts: 4 and 5, 5 and 6, 6 and 7, 7 and 8, 8 and 9, 9 and 10 (each of the whole bid), 10 and in the next
-- bid 7, 6 and 14
abbrev order_cases : List Case
order_cases =
    number (day_fault (changed (set limit_words 14 10000001) 9 2)) 4
    ∷ number (day_fault (changed (set limit_words 15 2) 18 2)) 5
    ∷ number (day_fault (changed (set limit_words 19 2) 21 0)) 6
    ∷ number (day_fault (changed (set limit_words 21 12) 22 0)) 7
    ∷ number (day_fault (changed (set limit_words 32 200000001) 33 10000001)) 8
    ∷ number (day_fault (changed (set limit_words 56 10000001) 46 2)) 9
    ∷ number (day_fault (changed (set limit_words 46 2) 67 12)) 10
    ∷ number (day_fault (changed two_words 19 2)) 6
    ∷ []

-- the cutter, on the day's line, by its length before anything else; and what a refused day is answered with by every call
unfoldable pub cutter_cases : List ℕ → List Case
cutter_cases w =
    number (cut_fault (take 659 w)) 18
    ∷ number (cut_fault (w ++ (0 ∷ []))) 18
    ∷ number (cut_fault (take 659 (drop 64 (changed limit_words 18 2)))) 18
    ∷ number (cut_fault (drop 64 (changed limit_words 18 2))) 6
    ∷ record { found = cut_fields (cut_answer (take 659 w)); expected = 18 ∷ replicate 348 0 }
    ∷ []

unfoldable pub answer_cases : List ℕ → List Case
answer_cases d =
    number (settle_fault d 0) 4
    ∷ number (view_fault d 9 9) 4
    ∷ number (line_part_fault d 0) 0
    ∷ number (line_part_fault (take 63 d) 9) 1
    ∷ booked d (replicate 152 170) (replicate 152 170)
    ∷ printed d (lines_of ("refused 4" ∷ []))
    ∷ record { found = view_fields (view_answer d 0 0); expected = 4 ∷ replicate 79 0 }
    ∷ []

-- what is met before a line's last bid
unfoldable pub refused_cases : List Case
refused_cases = header_cases ++ bid_cases ++ order_cases ++ cutter_cases (drop 64 limit_day) ++ answer_cases (changed limit_words 4 10000001)

-- what is met behind it: the day at every limit, accepted; the last bid's last slot; a greatest break one lower, so that the hedge is M + 1; a
-- withdrawal with a hedge; a pricing total of M + 1,001; an operating one, and 13; an actual; equal keys
unfoldable pub limit_cases : List Case
limit_cases =
    number (day_fault limit_day) 0
    ∷ number (day_fault (changed limit_words 135 5)) 10
    ∷ number (day_fault (changed limit_words 32 199999999)) 11
    ∷ number (day_fault (changed limit_words 18 1)) 11
    ∷ number (day_fault (changed limit_words 150 1001)) 12
    ∷ number (day_fault (changed (set limit_words 174 1001) 180 200000001)) 12
    ∷ number (day_fault (changed limit_words 180 200000001)) 13
    ∷ number (day_fault (bytes_of two_words)) 14
    ∷ []

-- document 02, F-7: 6 on both sides of 31 | 32 and 63 | 64, and of a set whose word has a further bit (2^31 + 33); the cutter's and the view's number
unfoldable pub accreditation_cases : List Case
accreditation_cases =
    number (day_fault (changed limit_words 19 31)) 6
    ∷ number (day_fault (changed limit_words 19 32)) 0
    ∷ number (day_fault (changed limit_words 19 63)) 0
    ∷ number (day_fault (changed limit_words 19 64)) 6
    ∷ number (day_fault (changed limit_words 19 2147483681)) 6
    ∷ number (cut_fault (drop 64 (changed limit_words 19 31))) 6
    ∷ number (cut_fault (drop 64 (changed limit_words 19 32))) 0
    ∷ number (view_fault (changed limit_words 19 64) 0 0) 6
    ∷ []

-- document 02, F-6: the day at every limit with the bids of schedules 2 to 5 pulled; and the first one too
unfoldable pub pulled_words : List ℕ
pulled_words = concat (take 44 limit_words ∷ bid [] [] ∷ bid [] [] ∷ bid [] [] ∷ bid [] [] ∷ drop 136 limit_words ∷ [])

unfoldable pub all_pulled : List ℕ
all_pulled = concat (take 21 pulled_words ∷ bid [] [] ∷ drop 44 pulled_words ∷ [])

-- accepted; refused with no bid in schedule 1; 12 steps in schedule 3; of a pulled bid the first and last slots of breaks and of prices; an unused
-- slot, and 7 in the next bid; M is that of the bids that are there, for hedge and total; the cutter's and the view's number
unfoldable pub pulled_cases : List Case
pulled_cases =
    number (day_fault (bytes_of pulled_words)) 0
    ∷ number (day_fault (bytes_of all_pulled)) 7
    ∷ number (day_fault (changed pulled_words 67 12)) 7
    ∷ number (day_fault (changed pulled_words 45 1)) 10
    ∷ number (day_fault (changed pulled_words 55 1)) 10
    ∷ number (day_fault (changed pulled_words 56 1)) 10
    ∷ number (day_fault (changed pulled_words 135 1)) 10
    ∷ number (day_fault (changed (set pulled_words 66 1) 67 12)) 10
    ∷ number (day_fault (changed pulled_words 32 199999999)) 11
    ∷ number (day_fault (changed (set pulled_words 20 0) 32 199998999)) 12
    ∷ number (cut_fault (drop 64 (bytes_of pulled_words))) 0
    ∷ number (cut_fault (drop 64 (bytes_of all_pulled))) 7
    ∷ number (view_fault (changed pulled_words 45 1) 0 0) 10
    ∷ []

-- document 02, F-2, on the day at every limit, where M is the quantity limit: refusal 12 in schedule s (from 0) with word i of the day changed to v
unfoldable pub total_at : ℕ → ℕ → ℕ → ℕ
total_at s i v = total_fault (operating_table (drop 64 (changed limit_words i v))) (drop 64 (changed limit_words i v)) s

-- each pricing total, then each operating one, at M + 1,000 and at M + 1,001; of the day: both, entries above the quantity limit, five words that
-- add up to 2^32, 12 before 13; the cutter's and the view's number
unfoldable pub excess_cases : List Case
excess_cases =
    number (total_at 0 137 1000) 0
    ∷ number (total_at 0 137 1001) 12
    ∷ number (total_at 1 142 1000) 0
    ∷ number (total_at 1 142 1001) 12
    ∷ number (total_at 2 146 1000) 0
    ∷ number (total_at 2 146 1001) 12
    ∷ number (total_at 3 149 1000) 0
    ∷ number (total_at 3 149 1001) 12
    ∷ number (total_at 4 150 1000) 0
    ∷ number (total_at 4 150 1001) 12
    ∷ number (total_at 0 152 1000) 0
    ∷ number (total_at 0 152 1001) 12
    ∷ number (total_at 1 156 1000) 0
    ∷ number (total_at 1 156 1001) 12
    ∷ number (total_at 2 161 1000) 0
    ∷ number (total_at 2 161 1001) 12
    ∷ number (total_at 3 166 1000) 0
    ∷ number (total_at 3 166 1001) 12
    ∷ number (total_at 4 171 1000) 0
    ∷ number (total_at 4 171 1001) 12
    ∷ number (day_fault (changed (set limit_words 171 1000) 150 1000)) 0
    ∷ number (day_fault (changed limit_words 136 200001000)) 0
    ∷ number (day_fault (changed limit_words 136 200001001)) 12
    ∷ number (day_fault (changed limit_words 175 200001000)) 0
    ∷ number (day_fault (changed limit_words 175 200001001)) 12
    ∷ number (day_fault (changed limit_words 137 4094967296)) 12
    ∷ number (day_fault (changed limit_words 171 4094967296)) 12
    ∷ number (day_fault (changed (set limit_words 171 1001) 176 200000001)) 12
    ∷ number (cut_fault (drop 64 (changed limit_words 171 1001))) 12
    ∷ number (view_fault (changed limit_words 150 1001) 0 0) 12
    ∷ []

-- all of this file, opened
unfoldable pub refused_opened : ℕ
unfolding limit_words limit_day changed two_words cutter_cases answer_cases refused_cases limit_cases accreditation_cases pulled_words all_pulled pulled_cases total_at excess_cases
refused_opened = 0
