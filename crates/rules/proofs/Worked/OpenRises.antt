-- The seventh worked day of docs/RULES.md (examples/open_rises_lem.day), worked out by hand there: open rises beside the running sum of modified
-- payments, on both sides. Lines 0 and 1 are paid in all five schedules, line 0 by the full set. Each has a fall where its bid is pulled, for
-- which modified takes back at the rates of several rises, and then one at a rate of 0. Line 2 is paid in schedule 2 alone. Line 0 has an excess
-- in schedule 2.
use Rattle.std.specs.Prelude.{ℕ, List, [], ◌∷◌, ◌++◌, replicate}
use Rattle.rules.proofs.Worked.Cases.{Case, concat, bytes_of, lines_of, bid, neg, row, number, booked, printed, viewed, viewed_over, cut_into}
use Rattle.rules.specs.Refusals.{day_fault}

unfoldable pub open_rises_words : List ℕ
open_rises_words =
    concat
    ((3 ∷ 16 ∷ 64 ∷ 2044 ∷ [])
    -- market prices, cap marks, APC, clawback
    ∷ (40000 ∷ 40000 ∷ 50000 ∷ 100000 ∷ 40000 ∷ []) ∷ (0 ∷ 0 ∷ 0 ∷ 0 ∷ 0 ∷ []) ∷ (400000 ∷ 1 ∷ [])
    -- line 0: participant, point, side, accreditation, hedge; bids; pricing rows; operating rows; actuals
    ∷ (71 ∷ 1 ∷ 0 ∷ 63 ∷ 0 ∷ [])
    ∷ bid (30000 ∷ []) (70000 ∷ [])
    ∷ bid (30000 ∷ []) (80000 ∷ [])
    ∷ bid [] []
    ∷ bid (30000 ∷ []) (90000 ∷ [])
    ∷ bid (30000 ∷ []) (60000 ∷ [])
    ∷ (0 ∷ 0 ∷ 0 ∷ 0 ∷ 0 ∷ []) ∷ (0 ∷ 0 ∷ 0 ∷ 0 ∷ []) ∷ (0 ∷ 0 ∷ 0 ∷ []) ∷ (0 ∷ 0 ∷ []) ∷ (0 ∷ [])
    ∷ (0 ∷ 0 ∷ 0 ∷ 0 ∷ 12000 ∷ []) ∷ (0 ∷ 0 ∷ 0 ∷ 0 ∷ 30400 ∷ []) ∷ (0 ∷ 0 ∷ 0 ∷ 0 ∷ 8000 ∷ []) ∷ (0 ∷ 0 ∷ 0 ∷ 0 ∷ 3000 ∷ []) ∷ (0 ∷ 0 ∷ 0 ∷ 0 ∷ 10000 ∷ [])
    ∷ (0 ∷ 0 ∷ 0 ∷ 0 ∷ 10000 ∷ [])
    -- line 1: participant, point, side, accreditation, hedge; bids; pricing rows; operating rows; actuals
    ∷ (72 ∷ 2 ∷ 1 ∷ 1 ∷ 0 ∷ [])
    ∷ bid (25000 ∷ []) (30000 ∷ [])
    ∷ bid (25000 ∷ []) (20000 ∷ [])
    ∷ bid (25000 ∷ []) (20000 ∷ [])
    ∷ bid [] []
    ∷ bid (25000 ∷ []) (50000 ∷ [])
    ∷ (0 ∷ 0 ∷ 0 ∷ 0 ∷ 0 ∷ []) ∷ (0 ∷ 0 ∷ 0 ∷ 0 ∷ []) ∷ (0 ∷ 0 ∷ 0 ∷ []) ∷ (0 ∷ 0 ∷ []) ∷ (0 ∷ [])
    ∷ (0 ∷ 0 ∷ 0 ∷ 0 ∷ 5000 ∷ []) ∷ (0 ∷ 0 ∷ 0 ∷ 0 ∷ 8000 ∷ []) ∷ (0 ∷ 0 ∷ 0 ∷ 0 ∷ 20000 ∷ []) ∷ (0 ∷ 0 ∷ 0 ∷ 0 ∷ 6000 ∷ []) ∷ (0 ∷ 0 ∷ 0 ∷ 0 ∷ 1000 ∷ [])
    ∷ (0 ∷ 0 ∷ 0 ∷ 0 ∷ 1000 ∷ [])
    -- line 2: participant, point, side, accreditation, hedge; bids; pricing rows; operating rows; actuals
    ∷ (73 ∷ 1 ∷ 0 ∷ 34 ∷ 0 ∷ [])
    ∷ bid (20000 ∷ []) (60000 ∷ [])
    ∷ bid (20000 ∷ []) (60000 ∷ [])
    ∷ bid (20000 ∷ []) (60000 ∷ [])
    ∷ bid (20000 ∷ []) (60000 ∷ [])
    ∷ bid (20000 ∷ []) (60000 ∷ [])
    ∷ (0 ∷ 0 ∷ 0 ∷ 0 ∷ 0 ∷ []) ∷ (0 ∷ 0 ∷ 0 ∷ 0 ∷ []) ∷ (0 ∷ 0 ∷ 0 ∷ []) ∷ (0 ∷ 0 ∷ []) ∷ (0 ∷ [])
    ∷ (0 ∷ 0 ∷ 0 ∷ 0 ∷ 10000 ∷ []) ∷ (0 ∷ 0 ∷ 0 ∷ 0 ∷ 4000 ∷ []) ∷ (0 ∷ 0 ∷ 0 ∷ 0 ∷ 4000 ∷ []) ∷ (0 ∷ 0 ∷ 0 ∷ 0 ∷ 4000 ∷ []) ∷ (0 ∷ 0 ∷ 0 ∷ 0 ∷ 4000 ∷ [])
    ∷ (0 ∷ 0 ∷ 0 ∷ 0 ∷ 4000 ∷ [])
    ∷ [])

unfoldable pub open_rises_day : List ℕ
open_rises_day = bytes_of open_rises_words

-- the book, as words: n, 16, 96, 96 + 56n; five pairs t, a; of each line participant, point, side, count and payments, low word first
unfoldable pub open_rises_book : List ℕ
open_rises_book =
    bytes_of
    (concat
    ((3 ∷ 16 ∷ 96 ∷ 264 ∷ [])
    ∷ (410000000 ∷ 0 ∷ 190000000 ∷ 0 ∷ 660000000 ∷ 0 ∷ 0 ∷ 0 ∷ 3814967296 ∷ 4294967295 ∷ 0 ∷ 0 ∷ 3894967296 ∷ 4294967295 ∷ 0 ∷ 0 ∷ 140000000 ∷ 0 ∷ 140000000 ∷ 0 ∷ [])
    ∷ (71 ∷ 1 ∷ 0 ∷ 1 ∷ 360000000 ∷ 0 ∷ 720000000 ∷ 0 ∷ 3454967296 ∷ 4294967295 ∷ 0 ∷ 0 ∷ 140000000 ∷ 0 ∷ [])
    ∷ (72 ∷ 2 ∷ 1 ∷ 1 ∷ 50000000 ∷ 0 ∷ 60000000 ∷ 0 ∷ 360000000 ∷ 0 ∷ 3894967296 ∷ 4294967295 ∷ 0 ∷ 0 ∷ [])
    ∷ (73 ∷ 1 ∷ 0 ∷ 1 ∷ 0 ∷ 0 ∷ 4174967296 ∷ 4294967295 ∷ 0 ∷ 0 ∷ 0 ∷ 0 ∷ 0 ∷ 0 ∷ [])
    ∷ []))

unfoldable pub open_rises_text : List ℕ
open_rises_text =
    lines_of
    ("day 3"
    ∷ "71 1 INJ 1 360000000 720000000 -840000000 0 140000000"
    ∷ "72 2 WDR 1 50000000 60000000 360000000 -400000000 0"
    ∷ "73 1 INJ 1 0 -120000000 0 0 0"
    ∷ "total 410000000 660000000 -480000000 -400000000 140000000"
    ∷ "adjusted 190000000 0 0 0 140000000"
    ∷ [])

-- each step: line, step; end, width, A; five rows of price, flag, O, E, AGINO, MSIQ, C, initial, revised, modified, final; the ten matches;
-- where the line has an excess, that of pricing, of operating and of the effective actual
unfoldable pub open_rises_views_on : List ℕ → List Case
open_rises_views_on d =
    viewed_over d 0 0 (30000 ∷ 30000 ∷ 10000 ∷ [])
    (row 70000 0 12000 0 0 0 12000 360000000 360000000 360000000 360000000
    ∷ row 80000 0 30000 0 0 0 30000 720000000 720000000 720000000 720000000
    ∷ row 80000 1 8000 0 0 0 8000 (neg 660000000) (neg 620000000) (neg 840000000) (neg 840000000)
    ∷ row 90000 0 3000 0 0 0 3000 0 0 0 0
    ∷ row 60000 0 10000 0 0 0 10000 140000000 140000000 140000000 140000000 ∷ [])
    (0 ∷ 4000 ∷ 18000 ∷ 5000 ∷ 0 ∷ 0 ∷ 0 ∷ 0 ∷ 0 ∷ 0 ∷ [])
    (0 ∷ 0 ∷ 0 ∷ 0 ∷ 0 ∷ []) (0 ∷ 400 ∷ 0 ∷ 0 ∷ 0 ∷ []) 0
    ∷ viewed d 1 0 (25000 ∷ 25000 ∷ 1000 ∷ [])
    (row 30000 0 5000 0 0 0 5000 50000000 50000000 50000000 50000000
    ∷ row 20000 0 8000 0 0 0 8000 60000000 60000000 60000000 60000000
    ∷ row 20000 0 20000 0 0 0 20000 360000000 360000000 360000000 360000000
    ∷ row 20000 1 6000 0 0 0 6000 (neg 1120000000) (neg 1120000000) (neg 400000000) (neg 400000000)
    ∷ row 50000 0 1000 0 0 0 1000 0 0 0 0 ∷ [])
    (0 ∷ 0 ∷ 0 ∷ 0 ∷ 2000 ∷ 12000 ∷ 4000 ∷ 1000 ∷ 0 ∷ 0 ∷ [])
    ∷ viewed d 2 0 (20000 ∷ 20000 ∷ 4000 ∷ [])
    (row 60000 0 10000 0 0 0 10000 0 0 0 0
    ∷ row 60000 0 4000 0 0 0 4000 (neg 120000000) (neg 120000000) (neg 120000000) (neg 120000000)
    ∷ row 60000 0 4000 0 0 0 4000 0 0 0 0
    ∷ row 60000 0 4000 0 0 0 4000 0 0 0 0
    ∷ row 60000 0 4000 0 0 0 4000 0 0 0 0 ∷ [])
    (6000 ∷ 0 ∷ 0 ∷ 0 ∷ 0 ∷ 0 ∷ 0 ∷ 0 ∷ 0 ∷ 0 ∷ [])
    ∷ []

-- each line of the cutter: ends; five rows of uncapped prices; words of flags; how many are set
unfoldable pub open_rises_cuts_on : List ℕ → List Case
open_rises_cuts_on d =
    cut_into d 0 (30000 ∷ [])
    ((70000 ∷ []) ∷ (80000 ∷ []) ∷ (80000 ∷ [])
    ∷ (90000 ∷ []) ∷ (60000 ∷ []) ∷ [])
    (0 ∷ 0 ∷ 1 ∷ 0 ∷ 0 ∷ []) (0 ∷ 0 ∷ 1 ∷ 0 ∷ 0 ∷ [])
    ∷ cut_into d 1 (25000 ∷ [])
    ((30000 ∷ []) ∷ (20000 ∷ []) ∷ (20000 ∷ [])
    ∷ (20000 ∷ []) ∷ (50000 ∷ []) ∷ [])
    (0 ∷ 0 ∷ 0 ∷ 1 ∷ 0 ∷ []) (0 ∷ 0 ∷ 0 ∷ 1 ∷ 0 ∷ [])
    ∷ cut_into d 2 (20000 ∷ [])
    ((60000 ∷ []) ∷ (60000 ∷ []) ∷ (60000 ∷ [])
    ∷ (60000 ∷ []) ∷ (60000 ∷ []) ∷ [])
    (0 ∷ 0 ∷ 0 ∷ 0 ∷ 0 ∷ []) (0 ∷ 0 ∷ 0 ∷ 0 ∷ 0 ∷ [])
    ∷ []

-- it is accepted; its book, in a lent one a byte longer; its report; every step of every line; every line
unfoldable pub open_rises_cases_on : List ℕ → List Case
open_rises_cases_on d =
    number (day_fault d) 0 ∷ booked d (replicate 265 170) (open_rises_book ++ (170 ∷ []))
    ∷ printed d open_rises_text ∷ (open_rises_views_on d ++ open_rises_cuts_on d)

unfoldable pub open_rises_cases : List Case
open_rises_cases = open_rises_cases_on open_rises_day

-- all of this file, opened
unfoldable pub open_rises_opened : ℕ
unfolding open_rises_words open_rises_day open_rises_book open_rises_text open_rises_views_on open_rises_cuts_on open_rises_cases_on open_rises_cases
open_rises_opened = 0
