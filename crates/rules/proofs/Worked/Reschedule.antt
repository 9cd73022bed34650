-- The second worked day of docs/RULES.md (examples/accreditation.day), worked out by hand there: points that gain or lose accreditation at a
-- reschedule. The rises of lines 0 and 3 in schedule 1 are unpaid and their falls in schedules 3 and 2 are charged; line 2's rise in schedule 3 is
-- unpaid and not counted in B.
use Rattle.std.specs.Prelude.{ℕ, List, [], ◌∷◌, ◌++◌, replicate}
use Rattle.rules.proofs.Worked.Cases.{Case, concat, bytes_of, lines_of, bid, neg, row, number, booked, printed, viewed, cut_into}
use Rattle.rules.specs.Refusals.{day_fault}

unfoldable pub reschedule_words : List ℕ
reschedule_words =
    concat
    ((4 ∷ 16 ∷ 64 ∷ 2704 ∷ [])
    -- market prices, cap marks, APC, clawback
    ∷ (40000 ∷ 40000 ∷ 40000 ∷ 40000 ∷ 40000 ∷ []) ∷ (0 ∷ 0 ∷ 0 ∷ 0 ∷ 0 ∷ []) ∷ (400000 ∷ 1 ∷ [])
    -- line 0: participant, point, side, accreditation, hedge; bids; pricing rows; operating rows; actuals
    ∷ (21 ∷ 1 ∷ 0 ∷ 60 ∷ 0 ∷ [])
    ∷ bid (30000 ∷ []) (70000 ∷ [])
    ∷ bid (30000 ∷ []) (70000 ∷ [])
    ∷ bid (30000 ∷ []) (90000 ∷ [])
    ∷ bid (30000 ∷ []) (90000 ∷ [])
    ∷ bid (30000 ∷ []) (90000 ∷ [])
    ∷ (0 ∷ 0 ∷ 0 ∷ 0 ∷ 0 ∷ []) ∷ (0 ∷ 0 ∷ 0 ∷ 0 ∷ []) ∷ (0 ∷ 0 ∷ 0 ∷ []) ∷ (0 ∷ 0 ∷ []) ∷ (0 ∷ [])
    ∷ (0 ∷ 0 ∷ 0 ∷ 0 ∷ 30000 ∷ []) ∷ (0 ∷ 0 ∷ 0 ∷ 0 ∷ 30000 ∷ []) ∷ (0 ∷ 0 ∷ 0 ∷ 0 ∷ 10000 ∷ []) ∷ (0 ∷ 0 ∷ 0 ∷ 0 ∷ 20000 ∷ []) ∷ (0 ∷ 0 ∷ 0 ∷ 0 ∷ 20000 ∷ [])
    ∷ (0 ∷ 0 ∷ 0 ∷ 0 ∷ 20000 ∷ [])
    -- line 1: participant, point, side, accreditation, hedge; bids; pricing rows; operating rows; actuals
    ∷ (22 ∷ 1 ∷ 0 ∷ 1 ∷ 0 ∷ [])
    ∷ bid (40000 ∷ []) (70000 ∷ [])
    ∷ bid (40000 ∷ []) (70000 ∷ [])
    ∷ bid (40000 ∷ []) (70000 ∷ [])
    ∷ bid (40000 ∷ []) (70000 ∷ [])
    ∷ bid (40000 ∷ []) (70000 ∷ [])
    ∷ (0 ∷ 0 ∷ 0 ∷ 0 ∷ 0 ∷ []) ∷ (0 ∷ 0 ∷ 0 ∷ 0 ∷ []) ∷ (0 ∷ 0 ∷ 0 ∷ []) ∷ (0 ∷ 0 ∷ []) ∷ (0 ∷ [])
    ∷ (0 ∷ 0 ∷ 0 ∷ 0 ∷ 10000 ∷ []) ∷ (0 ∷ 0 ∷ 0 ∷ 0 ∷ 10000 ∷ []) ∷ (0 ∷ 0 ∷ 0 ∷ 0 ∷ 35000 ∷ []) ∷ (0 ∷ 0 ∷ 0 ∷ 0 ∷ 35000 ∷ []) ∷ (0 ∷ 0 ∷ 0 ∷ 0 ∷ 35000 ∷ [])
    ∷ (0 ∷ 0 ∷ 0 ∷ 0 ∷ 35000 ∷ [])
    -- line 2: participant, point, side, accreditation, hedge; bids; pricing rows; operating rows; actuals
    ∷ (23 ∷ 1 ∷ 0 ∷ 35 ∷ 0 ∷ [])
    ∷ bid (50000 ∷ []) (80000 ∷ [])
    ∷ bid (50000 ∷ []) (80000 ∷ [])
    ∷ bid (50000 ∷ []) (80000 ∷ [])
    ∷ bid (50000 ∷ []) (80000 ∷ [])
    ∷ bid (50000 ∷ []) (80000 ∷ [])
    ∷ (0 ∷ 0 ∷ 0 ∷ 0 ∷ 0 ∷ []) ∷ (0 ∷ 0 ∷ 0 ∷ 0 ∷ []) ∷ (0 ∷ 0 ∷ 0 ∷ []) ∷ (0 ∷ 0 ∷ []) ∷ (0 ∷ [])
    ∷ (0 ∷ 0 ∷ 0 ∷ 0 ∷ 0 ∷ []) ∷ (0 ∷ 0 ∷ 0 ∷ 0 ∷ 0 ∷ []) ∷ (0 ∷ 0 ∷ 0 ∷ 0 ∷ 25000 ∷ []) ∷ (0 ∷ 0 ∷ 0 ∷ 0 ∷ 25000 ∷ []) ∷ (0 ∷ 0 ∷ 0 ∷ 0 ∷ 25000 ∷ [])
    ∷ (0 ∷ 0 ∷ 0 ∷ 0 ∷ 25000 ∷ [])
    -- line 3: participant, point, side, accreditation, hedge; bids; pricing rows; operating rows; actuals
    ∷ (24 ∷ 2 ∷ 1 ∷ 62 ∷ 0 ∷ [])
    ∷ bid (100000 ∷ []) (20000 ∷ [])
    ∷ bid (100000 ∷ []) (20000 ∷ [])
    ∷ bid (100000 ∷ []) (20000 ∷ [])
    ∷ bid (100000 ∷ []) (20000 ∷ [])
    ∷ bid (100000 ∷ []) (20000 ∷ [])
    ∷ (0 ∷ 0 ∷ 0 ∷ 0 ∷ 0 ∷ []) ∷ (0 ∷ 0 ∷ 0 ∷ 0 ∷ []) ∷ (0 ∷ 0 ∷ 0 ∷ []) ∷ (0 ∷ 0 ∷ []) ∷ (0 ∷ [])
    ∷ (0 ∷ 0 ∷ 0 ∷ 0 ∷ 100000 ∷ []) ∷ (0 ∷ 0 ∷ 0 ∷ 0 ∷ 0 ∷ []) ∷ (0 ∷ 0 ∷ 0 ∷ 0 ∷ 0 ∷ []) ∷ (0 ∷ 0 ∷ 0 ∷ 0 ∷ 0 ∷ []) ∷ (0 ∷ 0 ∷ 0 ∷ 0 ∷ 0 ∷ [])
    ∷ (0 ∷ 0 ∷ 0 ∷ 0 ∷ 0 ∷ [])
    ∷ [])

unfoldable pub reschedule_day : List ℕ
reschedule_day = bytes_of reschedule_words

-- the book, as words: n, 16, 96, 96 + 56n; five pairs t, a; of each line participant, point, side, count and payments, low word first
unfoldable pub reschedule_book : List ℕ
reschedule_book =
    bytes_of
    (concat
    ((4 ∷ 16 ∷ 96 ∷ 320 ∷ [])
    ∷ (300000000 ∷ 0 ∷ 0 ∷ 0 ∷ 2294967296 ∷ 4294967295 ∷ 2594967296 ∷ 4294967295 ∷ 30000000 ∷ 0 ∷ 30000000 ∷ 0 ∷ 500000000 ∷ 0 ∷ 500000000 ∷ 0 ∷ 0 ∷ 0 ∷ 0 ∷ 0 ∷ [])
    ∷ (21 ∷ 1 ∷ 0 ∷ 1 ∷ 0 ∷ 0 ∷ 0 ∷ 0 ∷ 3574967296 ∷ 4294967295 ∷ 500000000 ∷ 0 ∷ 0 ∷ 0 ∷ [])
    ∷ (22 ∷ 1 ∷ 0 ∷ 1 ∷ 300000000 ∷ 0 ∷ 0 ∷ 0 ∷ 750000000 ∷ 0 ∷ 0 ∷ 0 ∷ 0 ∷ 0 ∷ [])
    ∷ (23 ∷ 1 ∷ 0 ∷ 1 ∷ 0 ∷ 0 ∷ 0 ∷ 0 ∷ 0 ∷ 0 ∷ 0 ∷ 0 ∷ 0 ∷ 0 ∷ [])
    ∷ (24 ∷ 2 ∷ 1 ∷ 1 ∷ 0 ∷ 0 ∷ 2294967296 ∷ 4294967295 ∷ 0 ∷ 0 ∷ 0 ∷ 0 ∷ 0 ∷ 0 ∷ [])
    ∷ []))

unfoldable pub reschedule_text : List ℕ
reschedule_text =
    lines_of
    ("day 4"
    ∷ "21 1 INJ 1 0 0 -720000000 500000000 0"
    ∷ "22 1 INJ 1 300000000 0 750000000 0 0"
    ∷ "23 1 INJ 1 0 0 0 0 0"
    ∷ "24 2 WDR 1 0 -2000000000 0 0 0"
    ∷ "total 300000000 -2000000000 30000000 500000000 0"
    ∷ "adjusted 0 -1700000000 30000000 500000000 0"
    ∷ [])

-- each step: line, step; end, width, A; five rows of price, flag, O, E, AGINO, MSIQ, C, initial, revised, modified, final; the ten matches
unfoldable pub reschedule_views_on : List ℕ → List Case
reschedule_views_on d =
    viewed d 0 0 (30000 ∷ 30000 ∷ 20000 ∷ [])
    (row 70000 0 30000 0 0 0 30000 0 0 0 0
    ∷ row 70000 0 30000 0 0 0 30000 0 0 0 0
    ∷ row 90000 0 10000 0 0 0 10000 (neg 1000000000) (neg 600000000) (neg 600000000) (neg 720000000)
    ∷ row 90000 0 20000 0 0 0 20000 500000000 500000000 500000000 500000000
    ∷ row 90000 0 20000 0 0 0 20000 0 0 0 0 ∷ [])
    (0 ∷ 20000 ∷ 0 ∷ 0 ∷ 0 ∷ 0 ∷ 0 ∷ 0 ∷ 0 ∷ 0 ∷ [])
    ∷ viewed d 1 0 (40000 ∷ 40000 ∷ 35000 ∷ [])
    (row 70000 0 10000 0 0 0 10000 300000000 300000000 300000000 300000000
    ∷ row 70000 0 10000 0 0 0 10000 0 0 0 0
    ∷ row 70000 0 35000 0 0 0 35000 750000000 750000000 750000000 750000000
    ∷ row 70000 0 35000 0 0 0 35000 0 0 0 0
    ∷ row 70000 0 35000 0 0 0 35000 0 0 0 0 ∷ [])
    (0 ∷ 0 ∷ 0 ∷ 0 ∷ 0 ∷ 0 ∷ 0 ∷ 0 ∷ 0 ∷ 0 ∷ [])
    ∷ viewed d 2 0 (50000 ∷ 50000 ∷ 25000 ∷ [])
    (row 80000 0 0 0 0 0 0 0 0 0 0
    ∷ row 80000 0 0 0 0 0 0 0 0 0 0
    ∷ row 80000 0 25000 0 0 0 25000 0 0 0 0
    ∷ row 80000 0 25000 0 0 0 25000 0 0 0 0
    ∷ row 80000 0 25000 0 0 0 25000 0 0 0 0 ∷ [])
    (0 ∷ 0 ∷ 0 ∷ 0 ∷ 0 ∷ 0 ∷ 0 ∷ 0 ∷ 0 ∷ 0 ∷ [])
    ∷ viewed d 3 0 (100000 ∷ 100000 ∷ 0 ∷ [])
    (row 20000 0 100000 0 0 0 100000 0 0 0 0
    ∷ row 20000 0 0 0 0 0 0 (neg 2000000000) (neg 2000000000) (neg 2000000000) (neg 2000000000)
    ∷ row 20000 0 0 0 0 0 0 0 0 0 0
    ∷ row 20000 0 0 0 0 0 0 0 0 0 0
    ∷ row 20000 0 0 0 0 0 0 0 0 0 0 ∷ [])
    (100000 ∷ 0 ∷ 0 ∷ 0 ∷ 0 ∷ 0 ∷ 0 ∷ 0 ∷ 0 ∷ 0 ∷ [])
    ∷ []

-- each line of the cutter: ends; five rows of uncapped prices; words of flags; how many are set
unfoldable pub reschedule_cuts_on : List ℕ → List Case
reschedule_cuts_on d =
    cut_into d 0 (30000 ∷ [])
    ((70000 ∷ []) ∷ (70000 ∷ []) ∷ (90000 ∷ [])
    ∷ (90000 ∷ []) ∷ (90000 ∷ []) ∷ [])
    (0 ∷ 0 ∷ 0 ∷ 0 ∷ 0 ∷ []) (0 ∷ 0 ∷ 0 ∷ 0 ∷ 0 ∷ [])
    ∷ cut_into d 1 (40000 ∷ [])
    ((70000 ∷ []) ∷ (70000 ∷ []) ∷ (70000 ∷ [])
    ∷ (70000 ∷ []) ∷ (70000 ∷ []) ∷ [])
    (0 ∷ 0 ∷ 0 ∷ 0 ∷ 0 ∷ []) (0 ∷ 0 ∷ 0 ∷ 0 ∷ 0 ∷ [])
    ∷ cut_into d 2 (50000 ∷ [])
    ((80000 ∷ []) ∷ (80000 ∷ []) ∷ (80000 ∷ [])
    ∷ (80000 ∷ []) ∷ (80000 ∷ []) ∷ [])
    (0 ∷ 0 ∷ 0 ∷ 0 ∷ 0 ∷ []) (0 ∷ 0 ∷ 0 ∷ 0 ∷ 0 ∷ [])
    ∷ cut_into d 3 (100000 ∷ [])
    ((20000 ∷ []) ∷ (20000 ∷ []) ∷ (20000 ∷ [])
    ∷ (20000 ∷ []) ∷ (20000 ∷ []) ∷ [])
    (0 ∷ 0 ∷ 0 ∷ 0 ∷ 0 ∷ []) (0 ∷ 0 ∷ 0 ∷ 0 ∷ 0 ∷ [])
    ∷ []

-- it is accepted; its book, in a lent one a byte longer; its report; every step of every line; every line
unfoldable pub reschedule_cases_on : List ℕ → List Case
reschedule_cases_on d =
    number (day_fault d) 0 ∷ booked d (replicate 321 170) (reschedule_book ++ (170 ∷ []))
    ∷ printed d reschedule_text ∷ (reschedule_views_on d ++ reschedule_cuts_on d)

unfoldable pub reschedule_cases : List Case
reschedule_cases = reschedule_cases_on reschedule_day

-- all of this file, opened
unfoldable pub reschedule_opened : ℕ
unfolding reschedule_words reschedule_day reschedule_book reschedule_text reschedule_views_on reschedule_cuts_on reschedule_cases_on reschedule_cases
reschedule_opened = 0
