-- The third worked day of docs/RULES.md (examples/pulled.day), worked out by hand there: bids that are pulled at a reschedule, on both sides.
-- Line 0's fall in schedule 3 and line 2's in schedule 4 are flagged and taken back at the rates of their rises; the price that line 0 takes
-- over is capped in schedule 4.
use Rattle.std.specs.Prelude.{ℕ, List, [], ◌∷◌, ◌++◌, replicate}
use Rattle.rules.proofs.Worked.Cases.{Case, concat, bytes_of, lines_of, bid, neg, row, number, booked, printed, viewed, cut_into}
use Rattle.rules.specs.Refusals.{day_fault}

unfoldable pub pulled0_words : List ℕ
pulled0_words =
    concat
    ((3 ∷ 16 ∷ 64 ∷ 2044 ∷ [])
    -- market prices, cap marks, APC, clawback
    ∷ (40000 ∷ 40000 ∷ 50000 ∷ 40000 ∷ 40000 ∷ []) ∷ (0 ∷ 0 ∷ 0 ∷ 1 ∷ 0 ∷ []) ∷ (60000 ∷ 1 ∷ [])
    -- line 0: participant, point, side, accreditation, hedge; bids; pricing rows; operating rows; actuals
    ∷ (31 ∷ 1 ∷ 0 ∷ 1 ∷ 0 ∷ [])
    ∷ bid (20000 ∷ 60000 ∷ []) (50000 ∷ 70000 ∷ [])
    ∷ bid (20000 ∷ 50000 ∷ []) (50000 ∷ 80000 ∷ [])
    ∷ bid [] []
    ∷ bid [] []
    ∷ bid (60000 ∷ []) (60000 ∷ [])
    ∷ (0 ∷ 0 ∷ 0 ∷ 0 ∷ 0 ∷ []) ∷ (0 ∷ 0 ∷ 0 ∷ 0 ∷ []) ∷ (0 ∷ 0 ∷ 0 ∷ []) ∷ (0 ∷ 0 ∷ []) ∷ (0 ∷ [])
    ∷ (0 ∷ 0 ∷ 0 ∷ 0 ∷ 30000 ∷ []) ∷ (0 ∷ 0 ∷ 0 ∷ 0 ∷ 50000 ∷ []) ∷ (0 ∷ 0 ∷ 0 ∷ 0 ∷ 25000 ∷ []) ∷ (0 ∷ 0 ∷ 0 ∷ 0 ∷ 35000 ∷ []) ∷ (0 ∷ 0 ∷ 0 ∷ 0 ∷ 15000 ∷ [])
    ∷ (0 ∷ 0 ∷ 0 ∷ 0 ∷ 15000 ∷ [])
    -- line 1: participant, point, side, accreditation, hedge; bids; pricing rows; operating rows; actuals
    ∷ (32 ∷ 1 ∷ 0 ∷ 1 ∷ 0 ∷ [])
    ∷ bid (40000 ∷ []) (90000 ∷ [])
    ∷ bid (40000 ∷ []) (90000 ∷ [])
    ∷ bid (40000 ∷ []) (90000 ∷ [])
    ∷ bid (40000 ∷ []) (90000 ∷ [])
    ∷ bid (40000 ∷ []) (90000 ∷ [])
    ∷ (0 ∷ 0 ∷ 0 ∷ 0 ∷ 0 ∷ []) ∷ (0 ∷ 0 ∷ 0 ∷ 0 ∷ []) ∷ (0 ∷ 0 ∷ 0 ∷ []) ∷ (0 ∷ 0 ∷ []) ∷ (0 ∷ [])
    ∷ (0 ∷ 0 ∷ 0 ∷ 0 ∷ 0 ∷ []) ∷ (0 ∷ 0 ∷ 0 ∷ 0 ∷ 0 ∷ []) ∷ (0 ∷ 0 ∷ 0 ∷ 0 ∷ 30000 ∷ []) ∷ (0 ∷ 0 ∷ 0 ∷ 0 ∷ 30000 ∷ []) ∷ (0 ∷ 0 ∷ 0 ∷ 0 ∷ 30000 ∷ [])
    ∷ (0 ∷ 0 ∷ 0 ∷ 0 ∷ 30000 ∷ [])
    -- line 2: participant, point, side, accreditation, hedge; bids; pricing rows; operating rows; actuals
    ∷ (33 ∷ 2 ∷ 1 ∷ 1 ∷ 0 ∷ [])
    ∷ bid (30000 ∷ 80000 ∷ []) (30000 ∷ 10000 ∷ [])
    ∷ bid [] []
    ∷ bid (80000 ∷ []) (20000 ∷ [])
    ∷ bid [] []
    ∷ bid [] []
    ∷ (0 ∷ 0 ∷ 0 ∷ 0 ∷ 0 ∷ []) ∷ (0 ∷ 0 ∷ 0 ∷ 0 ∷ []) ∷ (0 ∷ 0 ∷ 0 ∷ []) ∷ (0 ∷ 0 ∷ []) ∷ (0 ∷ [])
    ∷ (0 ∷ 0 ∷ 0 ∷ 0 ∷ 30000 ∷ []) ∷ (0 ∷ 0 ∷ 0 ∷ 0 ∷ 70000 ∷ []) ∷ (0 ∷ 0 ∷ 0 ∷ 0 ∷ 70000 ∷ []) ∷ (0 ∷ 0 ∷ 0 ∷ 0 ∷ 40000 ∷ []) ∷ (0 ∷ 0 ∷ 0 ∷ 0 ∷ 40000 ∷ [])
    ∷ (0 ∷ 0 ∷ 0 ∷ 0 ∷ 40000 ∷ [])
    ∷ [])

unfoldable pub pulled0_day : List ℕ
pulled0_day = bytes_of pulled0_words

-- the book, as words: n, 16, 96, 96 + 56n; five pairs t, a; of each line participant, point, side, count and payments, low word first
unfoldable pub pulled0_book : List ℕ
pulled0_book =
    bytes_of
    (concat
    ((3 ∷ 16 ∷ 96 ∷ 264 ∷ [])
    ∷ (800000000 ∷ 0 ∷ 800000000 ∷ 0 ∷ 2000000000 ∷ 0 ∷ 1200000000 ∷ 0 ∷ 250000000 ∷ 0 ∷ 0 ∷ 0 ∷ 3594967296 ∷ 4294967295 ∷ 0 ∷ 0 ∷ 3944967296 ∷ 4294967295 ∷ 0 ∷ 0 ∷ [])
    ∷ (31 ∷ 1 ∷ 0 ∷ 3 ∷ 500000000 ∷ 0 ∷ 800000000 ∷ 0 ∷ 3344967296 ∷ 4294967295 ∷ 200000000 ∷ 0 ∷ 3944967296 ∷ 4294967295 ∷ [])
    ∷ (32 ∷ 1 ∷ 0 ∷ 1 ∷ 0 ∷ 0 ∷ 0 ∷ 0 ∷ 1200000000 ∷ 0 ∷ 0 ∷ 0 ∷ 0 ∷ 0 ∷ [])
    ∷ (33 ∷ 2 ∷ 1 ∷ 2 ∷ 300000000 ∷ 0 ∷ 1200000000 ∷ 0 ∷ 0 ∷ 0 ∷ 3394967296 ∷ 4294967295 ∷ 0 ∷ 0 ∷ [])
    ∷ []))

unfoldable pub pulled0_text : List ℕ
pulled0_text =
    lines_of
    ("day 3"
    ∷ "31 1 INJ 3 500000000 800000000 -950000000 200000000 -350000000"
    ∷ "32 1 INJ 1 0 0 1200000000 0 0"
    ∷ "33 2 WDR 2 300000000 1200000000 0 -900000000 0"
    ∷ "total 800000000 2000000000 250000000 -700000000 -350000000"
    ∷ "adjusted 800000000 1200000000 0 0 0"
    ∷ [])

-- each step: line, step; end, width, A; five rows of price, flag, O, E, AGINO, MSIQ, C, initial, revised, modified, final; the ten matches
unfoldable pub pulled0_views_on : List ℕ → List Case
pulled0_views_on d =
    viewed d 0 0 (20000 ∷ 20000 ∷ 15000 ∷ [])
    (row 50000 0 20000 0 0 0 20000 200000000 200000000 200000000 200000000
    ∷ row 50000 0 20000 0 0 0 20000 0 0 0 0
    ∷ row 80000 1 20000 0 0 0 20000 0 0 0 0
    ∷ row 60000 1 20000 0 0 0 20000 0 0 0 0
    ∷ row 60000 0 15000 0 0 0 15000 (neg 100000000) (neg 50000000) (neg 50000000) (neg 50000000) ∷ [])
    (0 ∷ 0 ∷ 0 ∷ 0 ∷ 0 ∷ 0 ∷ 5000 ∷ 0 ∷ 0 ∷ 0 ∷ [])
    ∷ viewed d 0 1 (50000 ∷ 30000 ∷ 0 ∷ [])
    (row 70000 0 10000 0 0 0 10000 300000000 300000000 300000000 300000000
    ∷ row 80000 0 30000 0 0 0 30000 800000000 800000000 800000000 800000000
    ∷ row 80000 1 5000 0 0 0 5000 (neg 750000000) (neg 700000000) (neg 950000000) (neg 950000000)
    ∷ row 60000 1 15000 0 0 0 15000 200000000 200000000 200000000 200000000
    ∷ row 60000 0 0 0 0 0 0 (neg 300000000) (neg 300000000) (neg 350000000) (neg 300000000) ∷ [])
    (0 ∷ 5000 ∷ 20000 ∷ 0 ∷ 0 ∷ 0 ∷ 5000 ∷ 0 ∷ 0 ∷ 10000 ∷ [])
    ∷ viewed d 0 2 (60000 ∷ 10000 ∷ 0 ∷ [])
    (row 70000 0 0 0 0 0 0 0 0 0 0
    ∷ row 80000 1 0 0 0 0 0 0 0 0 0
    ∷ row 80000 1 0 0 0 0 0 0 0 0 0
    ∷ row 60000 1 0 0 0 0 0 0 0 0 0
    ∷ row 60000 0 0 0 0 0 0 0 0 0 0 ∷ [])
    (0 ∷ 0 ∷ 0 ∷ 0 ∷ 0 ∷ 0 ∷ 0 ∷ 0 ∷ 0 ∷ 0 ∷ [])
    ∷ viewed d 1 0 (40000 ∷ 40000 ∷ 30000 ∷ [])
    (row 90000 0 0 0 0 0 0 0 0 0 0
    ∷ row 90000 0 0 0 0 0 0 0 0 0 0
    ∷ row 90000 0 30000 0 0 0 30000 1200000000 1200000000 1200000000 1200000000
    ∷ row 60000 0 30000 0 0 0 30000 0 0 0 0
    ∷ row 90000 0 30000 0 0 0 30000 0 0 0 0 ∷ [])
    (0 ∷ 0 ∷ 0 ∷ 0 ∷ 0 ∷ 0 ∷ 0 ∷ 0 ∷ 0 ∷ 0 ∷ [])
    ∷ viewed d 2 0 (30000 ∷ 30000 ∷ 30000 ∷ [])
    (row 30000 0 30000 0 0 0 30000 300000000 300000000 300000000 300000000
    ∷ row 10000 1 30000 0 0 0 30000 0 0 0 0
    ∷ row 20000 0 30000 0 0 0 30000 0 0 0 0
    ∷ row 20000 1 30000 0 0 0 30000 0 0 0 0
    ∷ row 20000 1 30000 0 0 0 30000 0 0 0 0 ∷ [])
    (0 ∷ 0 ∷ 0 ∷ 0 ∷ 0 ∷ 0 ∷ 0 ∷ 0 ∷ 0 ∷ 0 ∷ [])
    ∷ viewed d 2 1 (80000 ∷ 50000 ∷ 10000 ∷ [])
    (row 10000 0 0 0 0 0 0 0 0 0 0
    ∷ row 10000 1 40000 0 0 0 40000 1200000000 1200000000 1200000000 1200000000
    ∷ row 20000 0 40000 0 0 0 40000 0 0 0 0
    ∷ row 20000 1 10000 0 0 0 10000 (neg 600000000) (neg 600000000) (neg 900000000) (neg 900000000)
    ∷ row 20000 1 10000 0 0 0 10000 0 0 0 0 ∷ [])
    (0 ∷ 0 ∷ 0 ∷ 0 ∷ 30000 ∷ 0 ∷ 0 ∷ 0 ∷ 0 ∷ 0 ∷ [])
    ∷ []

-- each line of the cutter: ends; five rows of uncapped prices; words of flags; how many are set
unfoldable pub pulled0_cuts_on : List ℕ → List Case
pulled0_cuts_on d =
    cut_into d 0 (20000 ∷ 50000 ∷ 60000 ∷ [])
    ((50000 ∷ 70000 ∷ 70000 ∷ []) ∷ (50000 ∷ 80000 ∷ 80000 ∷ []) ∷ (80000 ∷ 80000 ∷ 80000 ∷ [])
    ∷ (80000 ∷ 80000 ∷ 80000 ∷ []) ∷ (60000 ∷ 60000 ∷ 60000 ∷ []) ∷ [])
    (0 ∷ 4 ∷ 7 ∷ 7 ∷ 0 ∷ []) (0 ∷ 1 ∷ 3 ∷ 3 ∷ 0 ∷ [])
    ∷ cut_into d 1 (40000 ∷ [])
    ((90000 ∷ []) ∷ (90000 ∷ []) ∷ (90000 ∷ [])
    ∷ (90000 ∷ []) ∷ (90000 ∷ []) ∷ [])
    (0 ∷ 0 ∷ 0 ∷ 0 ∷ 0 ∷ []) (0 ∷ 0 ∷ 0 ∷ 0 ∷ 0 ∷ [])
    ∷ cut_into d 2 (30000 ∷ 80000 ∷ [])
    ((30000 ∷ 10000 ∷ []) ∷ (10000 ∷ 10000 ∷ []) ∷ (20000 ∷ 20000 ∷ [])
    ∷ (20000 ∷ 20000 ∷ []) ∷ (20000 ∷ 20000 ∷ []) ∷ [])
    (0 ∷ 3 ∷ 0 ∷ 3 ∷ 3 ∷ []) (0 ∷ 2 ∷ 0 ∷ 2 ∷ 2 ∷ [])
    ∷ []

-- it is accepted; its book, in a lent one a byte longer; its report; every step of every line; every line
unfoldable pub pulled0_cases_on : List ℕ → List Case
pulled0_cases_on d =
    number (day_fault d) 0 ∷ booked d (replicate 265 170) (pulled0_book ++ (170 ∷ []))
    ∷ printed d pulled0_text ∷ (pulled0_views_on d ++ pulled0_cuts_on d)

unfoldable pub pulled0_cases : List Case
pulled0_cases = pulled0_cases_on pulled0_day

-- all of this file, opened
unfoldable pub pulled0_opened : ℕ
unfolding pulled0_words pulled0_day pulled0_book pulled0_text pulled0_views_on pulled0_cuts_on pulled0_cases_on pulled0_cases
pulled0_opened = 0
