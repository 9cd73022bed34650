-- Accredited 3: an injection that is accredited all day, one accredited in schedules 1 and 5 (49) and a withdrawal with all five schedules (63),
-- clawback on. The mark of schedule 4 with APC 0. By the third implementation.
use Rattle.std.specs.Prelude.{ℕ, List, [], ◌∷◌, ◌++◌, replicate}
use Rattle.rules.proofs.Worked.Cases.{Case, concat, bytes_of, lines_of, bid, neg, row, number, booked, printed, viewed, cut_into}
use Rattle.rules.specs.Refusals.{day_fault}

unfoldable pub accredited3_words : List ℕ
accredited3_words =
    concat
    ((3 ∷ 16 ∷ 64 ∷ 2044 ∷ [])
    -- market prices, cap marks, APC, clawback
    ∷ (3 ∷ 1 ∷ 5 ∷ 0 ∷ 3 ∷ []) ∷ (0 ∷ 0 ∷ 0 ∷ 1 ∷ 0 ∷ []) ∷ (0 ∷ 1 ∷ [])
    -- line 0: participant, point, side, accreditation, hedge; bids; pricing rows; operating rows; actuals
    ∷ (101 ∷ 3 ∷ 0 ∷ 1 ∷ 0 ∷ [])
    ∷ bid (2 ∷ 3 ∷ 10 ∷ []) (1 ∷ 2 ∷ 5 ∷ [])
    ∷ bid (2 ∷ 3 ∷ 10 ∷ []) (0 ∷ 4 ∷ 6 ∷ [])
    ∷ bid (2 ∷ 3 ∷ []) (0 ∷ 4 ∷ [])
    ∷ bid (2 ∷ 3 ∷ []) (0 ∷ 4 ∷ [])
    ∷ bid (6 ∷ 7 ∷ []) (0 ∷ 4 ∷ [])
    ∷ (0 ∷ 0 ∷ 0 ∷ 0 ∷ 0 ∷ []) ∷ (0 ∷ 0 ∷ 0 ∷ 0 ∷ []) ∷ (0 ∷ 0 ∷ 1 ∷ []) ∷ (0 ∷ 7 ∷ []) ∷ (0 ∷ [])
    ∷ (3 ∷ 0 ∷ 1 ∷ 1 ∷ 5 ∷ []) ∷ (0 ∷ 1 ∷ 1 ∷ 0 ∷ 0 ∷ []) ∷ (0 ∷ 0 ∷ 0 ∷ 0 ∷ 0 ∷ []) ∷ (0 ∷ 0 ∷ 0 ∷ 5 ∷ 0 ∷ []) ∷ (5 ∷ 2 ∷ 0 ∷ 3 ∷ 0 ∷ [])
    ∷ (5 ∷ 2 ∷ 0 ∷ 0 ∷ 8 ∷ [])
    -- line 1: participant, point, side, accreditation, hedge; bids; pricing rows; operating rows; actuals
    ∷ (1 ∷ 153 ∷ 0 ∷ 49 ∷ 0 ∷ [])
    ∷ bid (4 ∷ 10 ∷ []) (0 ∷ 6 ∷ [])
    ∷ bid (4 ∷ 10 ∷ []) (0 ∷ 3 ∷ [])
    ∷ bid (4 ∷ 10 ∷ []) (0 ∷ 3 ∷ [])
    ∷ bid (4 ∷ 10 ∷ []) (0 ∷ 3 ∷ [])
    ∷ bid (4 ∷ 10 ∷ []) (0 ∷ 3 ∷ [])
    ∷ (0 ∷ 0 ∷ 0 ∷ 0 ∷ 0 ∷ []) ∷ (0 ∷ 1 ∷ 0 ∷ 4 ∷ []) ∷ (0 ∷ 0 ∷ 0 ∷ []) ∷ (0 ∷ 3 ∷ []) ∷ (0 ∷ [])
    ∷ (0 ∷ 0 ∷ 1 ∷ 0 ∷ 2 ∷ []) ∷ (0 ∷ 1 ∷ 0 ∷ 0 ∷ 0 ∷ []) ∷ (0 ∷ 1 ∷ 0 ∷ 0 ∷ 0 ∷ []) ∷ (0 ∷ 1 ∷ 0 ∷ 0 ∷ 0 ∷ []) ∷ (0 ∷ 0 ∷ 1 ∷ 1 ∷ 2 ∷ [])
    ∷ (0 ∷ 0 ∷ 1 ∷ 0 ∷ 62 ∷ [])
    -- line 2: participant, point, side, accreditation, hedge; bids; pricing rows; operating rows; actuals
    ∷ (101 ∷ 2 ∷ 1 ∷ 63 ∷ 0 ∷ [])
    ∷ bid (4 ∷ 8 ∷ []) (5 ∷ 5 ∷ [])
    ∷ bid (7 ∷ 11 ∷ []) (5 ∷ 5 ∷ [])
    ∷ bid (11 ∷ 12 ∷ []) (5 ∷ 5 ∷ [])
    ∷ bid (11 ∷ []) (5 ∷ [])
    ∷ bid (4 ∷ 9 ∷ 10 ∷ 12 ∷ []) (5 ∷ 5 ∷ 4 ∷ 2 ∷ [])
    ∷ (0 ∷ 0 ∷ 0 ∷ 0 ∷ 0 ∷ []) ∷ (0 ∷ 0 ∷ 0 ∷ 0 ∷ []) ∷ (0 ∷ 0 ∷ 0 ∷ []) ∷ (0 ∷ 0 ∷ []) ∷ (0 ∷ [])
    ∷ (0 ∷ 0 ∷ 0 ∷ 0 ∷ 0 ∷ []) ∷ (0 ∷ 0 ∷ 0 ∷ 0 ∷ 0 ∷ []) ∷ (0 ∷ 0 ∷ 0 ∷ 0 ∷ 0 ∷ []) ∷ (2 ∷ 4 ∷ 3 ∷ 2 ∷ 1 ∷ []) ∷ (0 ∷ 0 ∷ 0 ∷ 0 ∷ 0 ∷ [])
    ∷ (0 ∷ 23 ∷ 0 ∷ 0 ∷ 0 ∷ [])
    ∷ [])

unfoldable pub accredited3_day : List ℕ
accredited3_day = bytes_of accredited3_words

-- the book, as words: n, 16, 96, 96 + 56n; five pairs t, a; of each line participant, point, side, count and payments, low word first
unfoldable pub accredited3_book : List ℕ
accredited3_book =
    bytes_of
    (concat
    ((3 ∷ 16 ∷ 96 ∷ 264 ∷ [])
    ∷ (14 ∷ 0 ∷ 0 ∷ 0 ∷ 4294967267 ∷ 4294967295 ∷ 4294967281 ∷ 4294967295 ∷ 0 ∷ 0 ∷ 0 ∷ 0 ∷ 0 ∷ 0 ∷ 0 ∷ 0 ∷ 4294967295 ∷ 4294967295 ∷ 4294967295 ∷ 4294967295 ∷ [])
    ∷ (101 ∷ 3 ∷ 0 ∷ 5 ∷ 14 ∷ 0 ∷ 4294967267 ∷ 4294967295 ∷ 0 ∷ 0 ∷ 0 ∷ 0 ∷ 1 ∷ 0 ∷ [])
    ∷ (1 ∷ 153 ∷ 0 ∷ 2 ∷ 0 ∷ 0 ∷ 0 ∷ 0 ∷ 0 ∷ 0 ∷ 0 ∷ 0 ∷ 0 ∷ 0 ∷ [])
    ∷ (101 ∷ 2 ∷ 1 ∷ 7 ∷ 0 ∷ 0 ∷ 0 ∷ 0 ∷ 0 ∷ 0 ∷ 0 ∷ 0 ∷ 4294967294 ∷ 4294967295 ∷ [])
    ∷ []))

unfoldable pub accredited3_text : List ℕ
accredited3_text =
    lines_of
    ("day 3"
    ∷ "101 3 INJ 5 14 -29 0 0 1"
    ∷ "1 153 INJ 2 0 0 0 0 0"
    ∷ "101 2 WDR 7 0 0 0 0 -2"
    ∷ "total 14 -29 0 0 -1"
    ∷ "adjusted 0 -15 0 0 -1"
    ∷ [])

-- each step: line, step; end, width, A; five rows of price, flag, O, E, AGINO, MSIQ, C, initial, revised, modified, final; the ten matches
unfoldable pub accredited3_views_on : List ℕ → List Case
accredited3_views_on d =
    viewed d 0 0 (2 ∷ 2 ∷ 2 ∷ [])
    (row 1 0 2 0 0 0 2 0 0 0 0
    ∷ row 0 0 2 0 0 0 2 0 0 0 0
    ∷ row 0 0 0 1 0 0 0 0 0 0 0
    ∷ row 0 0 2 2 0 0 2 0 0 0 0
    ∷ row 0 0 2 0 0 0 2 0 0 0 0 ∷ [])
    (0 ∷ 2 ∷ 0 ∷ 0 ∷ 0 ∷ 0 ∷ 0 ∷ 0 ∷ 0 ∷ 0 ∷ [])
    ∷ viewed d 0 1 (3 ∷ 1 ∷ 1 ∷ [])
    (row 2 0 1 0 0 0 1 0 0 0 0
    ∷ row 4 0 0 0 0 0 0 (neg 3) (neg 1) 0 (neg 1)
    ∷ row 4 0 0 0 0 0 0 0 0 0 0
    ∷ row 0 0 1 1 0 0 1 0 0 0 0
    ∷ row 0 0 1 0 0 0 1 0 0 0 0 ∷ [])
    (1 ∷ 0 ∷ 0 ∷ 0 ∷ 0 ∷ 0 ∷ 0 ∷ 0 ∷ 0 ∷ 0 ∷ [])
    ∷ viewed d 0 2 (6 ∷ 3 ∷ 3 ∷ [])
    (row 5 0 3 0 0 0 3 6 6 6 6
    ∷ row 6 0 0 0 0 0 0 (neg 15) (neg 12) (neg 6) (neg 12)
    ∷ row 4 1 0 0 0 0 0 0 0 0 0
    ∷ row 0 1 2 3 0 0 2 0 0 0 0
    ∷ row 0 0 3 0 0 0 3 0 0 0 0 ∷ [])
    (3 ∷ 0 ∷ 0 ∷ 0 ∷ 0 ∷ 0 ∷ 0 ∷ 0 ∷ 0 ∷ 0 ∷ [])
    ∷ viewed d 0 3 (7 ∷ 1 ∷ 1 ∷ [])
    (row 5 0 1 0 0 0 1 2 2 2 2
    ∷ row 6 0 0 0 0 0 0 (neg 5) (neg 4) (neg 2) (neg 4)
    ∷ row 4 1 0 0 0 0 0 0 0 0 0
    ∷ row 0 1 0 1 0 0 0 0 0 0 0
    ∷ row 4 0 1 0 0 0 1 1 1 1 1 ∷ [])
    (1 ∷ 0 ∷ 0 ∷ 0 ∷ 0 ∷ 0 ∷ 0 ∷ 0 ∷ 0 ∷ 0 ∷ [])
    ∷ viewed d 0 4 (10 ∷ 3 ∷ 0 ∷ [])
    (row 5 0 3 0 0 0 3 6 6 6 6
    ∷ row 6 0 0 0 0 0 0 (neg 15) (neg 12) (neg 6) (neg 12)
    ∷ row 4 1 0 0 0 0 0 0 0 0 0
    ∷ row 0 1 0 0 0 0 0 0 0 0 0
    ∷ row 4 1 3 0 3 0 0 0 0 0 0 ∷ [])
    (3 ∷ 0 ∷ 0 ∷ 0 ∷ 0 ∷ 0 ∷ 0 ∷ 0 ∷ 0 ∷ 0 ∷ [])
    ∷ viewed d 1 0 (4 ∷ 4 ∷ 3 ∷ [])
    (row 0 0 3 0 0 0 3 0 0 0 0
    ∷ row 0 0 1 4 0 0 1 0 0 0 0
    ∷ row 0 0 1 0 0 0 1 0 0 0 0
    ∷ row 0 0 1 3 0 0 1 0 0 0 0
    ∷ row 0 0 4 0 1 0 3 0 0 0 0 ∷ [])
    (2 ∷ 0 ∷ 0 ∷ 0 ∷ 0 ∷ 0 ∷ 0 ∷ 0 ∷ 0 ∷ 0 ∷ [])
    ∷ viewed d 1 1 (10 ∷ 6 ∷ 0 ∷ [])
    (row 6 0 0 0 0 0 0 0 0 0 0
    ∷ row 3 0 0 1 0 1 0 0 0 0 0
    ∷ row 3 0 0 0 0 0 0 0 0 0 0
    ∷ row 0 0 0 0 0 0 0 0 0 0 0
    ∷ row 3 0 0 0 0 0 0 0 0 0 0 ∷ [])
    (0 ∷ 0 ∷ 0 ∷ 0 ∷ 0 ∷ 0 ∷ 0 ∷ 0 ∷ 0 ∷ 0 ∷ [])
    ∷ viewed d 2 0 (4 ∷ 4 ∷ 0 ∷ [])
    (row 5 0 0 0 0 0 0 0 0 0 0
    ∷ row 5 0 0 0 0 0 0 0 0 0 0
    ∷ row 5 0 0 0 0 0 0 0 0 0 0
    ∷ row 0 0 4 0 0 0 4 0 0 0 0
    ∷ row 5 0 0 0 0 0 0 0 0 0 0 ∷ [])
    (0 ∷ 0 ∷ 0 ∷ 0 ∷ 0 ∷ 0 ∷ 0 ∷ 0 ∷ 0 ∷ 4 ∷ [])
    ∷ viewed d 2 1 (7 ∷ 3 ∷ 0 ∷ [])
    (row 5 0 0 0 0 0 0 0 0 0 0
    ∷ row 5 0 0 0 0 0 0 0 0 0 0
    ∷ row 5 0 0 0 0 0 0 0 0 0 0
    ∷ row 0 0 3 0 0 0 3 0 0 0 0
    ∷ row 5 0 0 0 0 0 0 0 0 0 0 ∷ [])
    (0 ∷ 0 ∷ 0 ∷ 0 ∷ 0 ∷ 0 ∷ 0 ∷ 0 ∷ 0 ∷ 3 ∷ [])
    ∷ viewed d 2 2 (8 ∷ 1 ∷ 0 ∷ [])
    (row 5 0 0 0 0 0 0 0 0 0 0
    ∷ row 5 0 0 0 0 0 0 0 0 0 0
    ∷ row 5 0 0 0 0 0 0 0 0 0 0
    ∷ row 0 0 1 0 0 0 1 0 0 0 0
    ∷ row 5 0 0 0 0 0 0 0 0 0 0 ∷ [])
    (0 ∷ 0 ∷ 0 ∷ 0 ∷ 0 ∷ 0 ∷ 0 ∷ 0 ∷ 0 ∷ 1 ∷ [])
    ∷ viewed d 2 3 (9 ∷ 1 ∷ 0 ∷ [])
    (row 5 1 0 0 0 0 0 0 0 0 0
    ∷ row 5 0 0 0 0 0 0 0 0 0 0
    ∷ row 5 0 0 0 0 0 0 0 0 0 0
    ∷ row 0 0 1 0 0 0 1 0 0 0 0
    ∷ row 5 0 0 0 0 0 0 0 0 0 0 ∷ [])
    (0 ∷ 0 ∷ 0 ∷ 0 ∷ 0 ∷ 0 ∷ 0 ∷ 0 ∷ 0 ∷ 1 ∷ [])
    ∷ viewed d 2 4 (10 ∷ 1 ∷ 0 ∷ [])
    (row 5 1 0 0 0 0 0 0 0 0 0
    ∷ row 5 0 0 0 0 0 0 0 0 0 0
    ∷ row 5 0 0 0 0 0 0 0 0 0 0
    ∷ row 0 0 1 0 0 0 1 0 0 0 0
    ∷ row 4 0 0 0 0 0 0 0 0 0 0 ∷ [])
    (0 ∷ 0 ∷ 0 ∷ 0 ∷ 0 ∷ 0 ∷ 0 ∷ 0 ∷ 0 ∷ 1 ∷ [])
    ∷ viewed d 2 5 (11 ∷ 1 ∷ 0 ∷ [])
    (row 5 1 0 0 0 0 0 0 0 0 0
    ∷ row 5 0 0 0 0 0 0 0 0 0 0
    ∷ row 5 0 0 0 0 0 0 0 0 0 0
    ∷ row 0 0 1 0 0 0 1 0 0 0 0
    ∷ row 2 0 0 0 0 0 0 (neg 1) (neg 1) 0 (neg 1) ∷ [])
    (0 ∷ 0 ∷ 0 ∷ 0 ∷ 0 ∷ 0 ∷ 0 ∷ 0 ∷ 0 ∷ 1 ∷ [])
    ∷ viewed d 2 6 (12 ∷ 1 ∷ 0 ∷ [])
    (row 5 1 0 0 0 0 0 0 0 0 0
    ∷ row 5 1 0 0 0 0 0 0 0 0 0
    ∷ row 5 0 0 0 0 0 0 0 0 0 0
    ∷ row 0 1 1 0 0 0 1 0 0 0 0
    ∷ row 2 0 0 0 0 0 0 (neg 1) (neg 1) 0 (neg 1) ∷ [])
    (0 ∷ 0 ∷ 0 ∷ 0 ∷ 0 ∷ 0 ∷ 0 ∷ 0 ∷ 0 ∷ 1 ∷ [])
    ∷ []

-- each line of the cutter: ends; five rows of uncapped prices; words of flags; how many are set. The uncapped prices are worked out from
-- the words above by document 01's sentence, since the third implementation's steps have capped ones
unfoldable pub accredited3_cuts_on : List ℕ → List Case
accredited3_cuts_on d =
    cut_into d 0 (2 ∷ 3 ∷ 6 ∷ 7 ∷ 10 ∷ [])
    ((1 ∷ 2 ∷ 5 ∷ 5 ∷ 5 ∷ []) ∷ (0 ∷ 4 ∷ 6 ∷ 6 ∷ 6 ∷ []) ∷ (0 ∷ 4 ∷ 4 ∷ 4 ∷ 4 ∷ [])
    ∷ (0 ∷ 4 ∷ 4 ∷ 4 ∷ 4 ∷ []) ∷ (0 ∷ 0 ∷ 0 ∷ 4 ∷ 4 ∷ []) ∷ [])
    (0 ∷ 0 ∷ 28 ∷ 28 ∷ 16 ∷ []) (0 ∷ 0 ∷ 3 ∷ 3 ∷ 1 ∷ [])
    ∷ cut_into d 1 (4 ∷ 10 ∷ [])
    ((0 ∷ 6 ∷ []) ∷ (0 ∷ 3 ∷ []) ∷ (0 ∷ 3 ∷ [])
    ∷ (0 ∷ 3 ∷ []) ∷ (0 ∷ 3 ∷ []) ∷ [])
    (0 ∷ 0 ∷ 0 ∷ 0 ∷ 0 ∷ []) (0 ∷ 0 ∷ 0 ∷ 0 ∷ 0 ∷ [])
    ∷ cut_into d 2 (4 ∷ 7 ∷ 8 ∷ 9 ∷ 10 ∷ 11 ∷ 12 ∷ [])
    ((5 ∷ 5 ∷ 5 ∷ 5 ∷ 5 ∷ 5 ∷ 5 ∷ []) ∷ (5 ∷ 5 ∷ 5 ∷ 5 ∷ 5 ∷ 5 ∷ 5 ∷ []) ∷ (5 ∷ 5 ∷ 5 ∷ 5 ∷ 5 ∷ 5 ∷ 5 ∷ [])
    ∷ (5 ∷ 5 ∷ 5 ∷ 5 ∷ 5 ∷ 5 ∷ 5 ∷ []) ∷ (5 ∷ 5 ∷ 5 ∷ 5 ∷ 4 ∷ 2 ∷ 2 ∷ []) ∷ [])
    (120 ∷ 64 ∷ 0 ∷ 64 ∷ 0 ∷ []) (4 ∷ 1 ∷ 0 ∷ 1 ∷ 0 ∷ [])
    ∷ []

-- it is accepted; its book, in a lent one a byte longer; its report; every step of every line; every line
unfoldable pub accredited3_cases_on : List ℕ → List Case
accredited3_cases_on d =
    number (day_fault d) 0 ∷ booked d (replicate 265 170) (accredited3_book ++ (170 ∷ []))
    ∷ printed d accredited3_text ∷ (accredited3_views_on d ++ accredited3_cuts_on d)

unfoldable pub accredited3_cases : List Case
accredited3_cases = accredited3_cases_on accredited3_day

-- all of this file, opened
unfoldable pub accredited3_opened : ℕ
unfolding accredited3_words accredited3_day accredited3_book accredited3_text accredited3_views_on accredited3_cuts_on accredited3_cases_on accredited3_cases
accredited3_opened = 0
