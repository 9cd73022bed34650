-- Pulled 3: an injection with a hedge whose bid is pulled in schedules 4 and 5, and two withdrawals, of which one is accredited in schedules
-- 2 and 4 (42), clawback on and schedule 2 capped. By the third implementation.
use Rattle.std.specs.Prelude.{ℕ, List, [], ◌∷◌, ◌++◌, replicate}
use Rattle.rules.proofs.Worked.Cases.{Case, concat, bytes_of, lines_of, bid, neg, row, number, booked, printed, viewed, cut_into}
use Rattle.rules.specs.Refusals.{day_fault}

unfoldable pub pulled3_words : List ℕ
pulled3_words =
    concat
    ((3 ∷ 16 ∷ 64 ∷ 2044 ∷ [])
    -- market prices, cap marks, APC, clawback
    ∷ (6 ∷ 6 ∷ 6 ∷ 0 ∷ 0 ∷ []) ∷ (0 ∷ 1 ∷ 0 ∷ 0 ∷ 0 ∷ []) ∷ (4 ∷ 1 ∷ [])
    -- line 0: participant, point, side, accreditation, hedge; bids; pricing rows; operating rows; actuals
    ∷ (101 ∷ 2 ∷ 1 ∷ 0 ∷ 0 ∷ [])
    ∷ bid (7 ∷ []) (5 ∷ [])
    ∷ bid (7 ∷ []) (5 ∷ [])
    ∷ bid (9 ∷ []) (5 ∷ [])
    ∷ bid (9 ∷ []) (1 ∷ [])
    ∷ bid (10 ∷ []) (1 ∷ [])
    ∷ (0 ∷ 0 ∷ 0 ∷ 0 ∷ 0 ∷ []) ∷ (0 ∷ 0 ∷ 0 ∷ 0 ∷ []) ∷ (0 ∷ 0 ∷ 0 ∷ []) ∷ (0 ∷ 0 ∷ []) ∷ (0 ∷ [])
    ∷ (0 ∷ 0 ∷ 0 ∷ 0 ∷ 0 ∷ []) ∷ (0 ∷ 0 ∷ 0 ∷ 0 ∷ 0 ∷ []) ∷ (0 ∷ 0 ∷ 0 ∷ 0 ∷ 0 ∷ []) ∷ (1 ∷ 1 ∷ 0 ∷ 6 ∷ 2 ∷ []) ∷ (0 ∷ 10 ∷ 0 ∷ 0 ∷ 0 ∷ [])
    ∷ (0 ∷ 0 ∷ 0 ∷ 0 ∷ 0 ∷ [])
    -- line 1: participant, point, side, accreditation, hedge; bids; pricing rows; operating rows; actuals
    ∷ (102 ∷ 4294967295 ∷ 0 ∷ 1 ∷ 4 ∷ [])
    ∷ bid (4 ∷ []) (2 ∷ [])
    ∷ bid (4 ∷ []) (6 ∷ [])
    ∷ bid (8 ∷ []) (6 ∷ [])
    ∷ bid [] []
    ∷ bid [] []
    ∷ (0 ∷ 0 ∷ 0 ∷ 0 ∷ 0 ∷ []) ∷ (0 ∷ 0 ∷ 1 ∷ 0 ∷ []) ∷ (0 ∷ 0 ∷ 0 ∷ []) ∷ (0 ∷ 0 ∷ []) ∷ (0 ∷ [])
    ∷ (0 ∷ 3 ∷ 1 ∷ 2 ∷ 2 ∷ []) ∷ (1 ∷ 1 ∷ 0 ∷ 0 ∷ 0 ∷ []) ∷ (0 ∷ 0 ∷ 0 ∷ 0 ∷ 0 ∷ []) ∷ (0 ∷ 1 ∷ 3 ∷ 0 ∷ 1 ∷ []) ∷ (0 ∷ 0 ∷ 0 ∷ 0 ∷ 0 ∷ [])
    ∷ (5 ∷ 0 ∷ 0 ∷ 0 ∷ 0 ∷ [])
    -- line 2: participant, point, side, accreditation, hedge; bids; pricing rows; operating rows; actuals
    ∷ (101 ∷ 3 ∷ 1 ∷ 42 ∷ 0 ∷ [])
    ∷ bid (1 ∷ []) (0 ∷ [])
    ∷ bid (1 ∷ 2 ∷ 8 ∷ 9 ∷ []) (6 ∷ 5 ∷ 3 ∷ 0 ∷ [])
    ∷ bid (1 ∷ 2 ∷ 8 ∷ 9 ∷ []) (5 ∷ 2 ∷ 1 ∷ 1 ∷ [])
    ∷ bid (1 ∷ 2 ∷ 8 ∷ 9 ∷ []) (6 ∷ 3 ∷ 3 ∷ 3 ∷ [])
    ∷ bid (1 ∷ 2 ∷ 8 ∷ []) (6 ∷ 3 ∷ 3 ∷ [])
    ∷ (0 ∷ 0 ∷ 0 ∷ 0 ∷ 0 ∷ []) ∷ (0 ∷ 0 ∷ 0 ∷ 0 ∷ []) ∷ (0 ∷ 0 ∷ 0 ∷ []) ∷ (0 ∷ 0 ∷ []) ∷ (4 ∷ [])
    ∷ (0 ∷ 3 ∷ 0 ∷ 4 ∷ 2 ∷ []) ∷ (0 ∷ 0 ∷ 0 ∷ 0 ∷ 0 ∷ []) ∷ (2 ∷ 1 ∷ 1 ∷ 1 ∷ 4 ∷ []) ∷ (2 ∷ 1 ∷ 1 ∷ 1 ∷ 4 ∷ []) ∷ (0 ∷ 0 ∷ 0 ∷ 0 ∷ 7 ∷ [])
    ∷ (0 ∷ 0 ∷ 0 ∷ 0 ∷ 99 ∷ [])
    ∷ [])

unfoldable pub pulled3_day : List ℕ
pulled3_day = bytes_of pulled3_words

-- the book, as words: n, 16, 96, 96 + 56n; five pairs t, a; of each line participant, point, side, count and payments, low word first
unfoldable pub pulled3_book : List ℕ
pulled3_book =
    bytes_of
    (concat
    ((3 ∷ 16 ∷ 96 ∷ 264 ∷ [])
    ∷ (0 ∷ 0 ∷ 0 ∷ 0 ∷ 4294967268 ∷ 4294967295 ∷ 4294967268 ∷ 4294967295 ∷ 0 ∷ 0 ∷ 0 ∷ 0 ∷ 6 ∷ 0 ∷ 0 ∷ 0 ∷ 4294967290 ∷ 4294967295 ∷ 0 ∷ 0 ∷ [])
    ∷ (101 ∷ 2 ∷ 1 ∷ 3 ∷ 0 ∷ 0 ∷ 0 ∷ 0 ∷ 0 ∷ 0 ∷ 0 ∷ 0 ∷ 0 ∷ 0 ∷ [])
    ∷ (102 ∷ 4294967295 ∷ 0 ∷ 2 ∷ 0 ∷ 0 ∷ 0 ∷ 0 ∷ 0 ∷ 0 ∷ 6 ∷ 0 ∷ 4294967290 ∷ 4294967295 ∷ [])
    ∷ (101 ∷ 3 ∷ 1 ∷ 4 ∷ 0 ∷ 0 ∷ 4294967268 ∷ 4294967295 ∷ 0 ∷ 0 ∷ 0 ∷ 0 ∷ 0 ∷ 0 ∷ [])
    ∷ []))

unfoldable pub pulled3_text : List ℕ
pulled3_text =
    lines_of
    ("day 3"
    ∷ "101 2 WDR 3 0 0 0 0 0"
    ∷ "102 4294967295 INJ 2 0 0 0 6 -6"
    ∷ "101 3 WDR 4 0 -28 0 0 0"
    ∷ "total 0 -28 0 6 -6"
    ∷ "adjusted 0 -28 0 0 0"
    ∷ [])

-- each step: line, step; end, width, A; five rows of price, flag, O, E, AGINO, MSIQ, C, initial, revised, modified, final; the ten matches
unfoldable pub pulled3_views_on : List ℕ → List Case
pulled3_views_on d =
    viewed d 0 0 (7 ∷ 7 ∷ 0 ∷ [])
    (row 5 0 0 0 0 0 0 0 0 0 0
    ∷ row 4 0 0 0 0 0 0 0 0 0 0
    ∷ row 5 0 0 0 0 0 0 0 0 0 0
    ∷ row 1 0 7 0 7 0 0 0 0 0 0
    ∷ row 1 0 7 0 7 0 0 0 0 0 0 ∷ [])
    (0 ∷ 0 ∷ 0 ∷ 0 ∷ 0 ∷ 0 ∷ 0 ∷ 0 ∷ 0 ∷ 0 ∷ [])
    ∷ viewed d 0 1 (9 ∷ 2 ∷ 0 ∷ [])
    (row 5 1 0 0 0 0 0 0 0 0 0
    ∷ row 4 1 0 0 0 0 0 0 0 0 0
    ∷ row 5 0 0 0 0 0 0 0 0 0 0
    ∷ row 1 0 2 0 2 0 0 0 0 0 0
    ∷ row 1 0 2 0 2 0 0 0 0 0 0 ∷ [])
    (0 ∷ 0 ∷ 0 ∷ 0 ∷ 0 ∷ 0 ∷ 0 ∷ 0 ∷ 0 ∷ 0 ∷ [])
    ∷ viewed d 0 2 (10 ∷ 1 ∷ 0 ∷ [])
    (row 5 1 0 0 0 0 0 0 0 0 0
    ∷ row 4 1 0 0 0 0 0 0 0 0 0
    ∷ row 5 1 0 0 0 0 0 0 0 0 0
    ∷ row 1 1 1 0 1 0 0 0 0 0 0
    ∷ row 1 0 1 0 1 0 0 0 0 0 0 ∷ [])
    (0 ∷ 0 ∷ 0 ∷ 0 ∷ 0 ∷ 0 ∷ 0 ∷ 0 ∷ 0 ∷ 0 ∷ [])
    ∷ viewed d 1 0 (4 ∷ 4 ∷ 0 ∷ [])
    (row 2 0 4 0 0 0 4 0 0 0 0
    ∷ row 4 0 2 1 0 0 2 0 0 0 0
    ∷ row 6 0 0 0 0 0 0 0 0 0 0
    ∷ row 6 1 4 0 0 0 4 0 0 0 0
    ∷ row 6 1 0 0 0 0 0 0 0 0 0 ∷ [])
    (2 ∷ 2 ∷ 0 ∷ 0 ∷ 0 ∷ 0 ∷ 0 ∷ 0 ∷ 0 ∷ 4 ∷ [])
    ∷ viewed d 1 1 (8 ∷ 4 ∷ 0 ∷ [])
    (row 2 1 4 0 0 0 4 0 0 0 0
    ∷ row 4 1 0 0 0 0 0 0 0 0 0
    ∷ row 6 0 0 0 0 0 0 0 0 0 0
    ∷ row 6 1 1 0 0 0 1 6 6 6 6
    ∷ row 6 1 0 0 0 0 0 (neg 6) (neg 6) (neg 6) (neg 6) ∷ [])
    (4 ∷ 0 ∷ 0 ∷ 0 ∷ 0 ∷ 0 ∷ 0 ∷ 0 ∷ 0 ∷ 1 ∷ [])
    ∷ viewed d 2 0 (1 ∷ 1 ∷ 1 ∷ [])
    (row 0 0 1 0 0 0 1 0 0 0 0
    ∷ row 4 0 0 0 0 0 0 (neg 2) (neg 2) (neg 6) (neg 2)
    ∷ row 5 0 1 0 0 0 1 0 0 0 0
    ∷ row 6 0 1 0 0 0 1 0 0 0 0
    ∷ row 6 0 1 1 0 1 0 0 0 0 0 ∷ [])
    (1 ∷ 0 ∷ 0 ∷ 0 ∷ 0 ∷ 0 ∷ 0 ∷ 0 ∷ 1 ∷ 0 ∷ [])
    ∷ viewed d 2 1 (2 ∷ 1 ∷ 1 ∷ [])
    (row 0 1 1 0 0 0 1 0 0 0 0
    ∷ row 4 0 0 0 0 0 0 (neg 2) (neg 2) (neg 6) (neg 2)
    ∷ row 2 0 1 0 0 0 1 0 0 0 0
    ∷ row 3 0 1 0 0 0 1 0 0 0 0
    ∷ row 3 0 1 1 0 1 0 0 0 0 0 ∷ [])
    (1 ∷ 0 ∷ 0 ∷ 0 ∷ 0 ∷ 0 ∷ 0 ∷ 0 ∷ 1 ∷ 0 ∷ [])
    ∷ viewed d 2 2 (8 ∷ 6 ∷ 5 ∷ [])
    (row 0 1 6 0 0 0 6 0 0 0 0
    ∷ row 3 0 0 0 0 0 0 (neg 18) (neg 18) (neg 36) (neg 18)
    ∷ row 1 0 6 0 0 0 6 0 0 0 0
    ∷ row 3 0 6 0 0 0 6 0 0 0 0
    ∷ row 3 0 5 2 0 2 3 0 0 0 0 ∷ [])
    (6 ∷ 0 ∷ 0 ∷ 0 ∷ 0 ∷ 0 ∷ 0 ∷ 0 ∷ 3 ∷ 0 ∷ [])
    ∷ viewed d 2 3 (9 ∷ 1 ∷ 0 ∷ [])
    (row 0 1 1 0 0 0 1 0 0 0 0
    ∷ row 0 0 0 0 0 0 0 (neg 6) (neg 6) (neg 6) (neg 6)
    ∷ row 1 0 1 0 0 0 1 0 0 0 0
    ∷ row 3 0 1 0 0 0 1 0 0 0 0
    ∷ row 3 1 0 0 0 0 0 0 0 0 0 ∷ [])
    (1 ∷ 0 ∷ 0 ∷ 0 ∷ 0 ∷ 0 ∷ 0 ∷ 0 ∷ 1 ∷ 0 ∷ [])
    ∷ []

-- each line of the cutter: ends; five rows of uncapped prices; words of flags; how many are set. The uncapped prices are worked out from
-- the words above by document 01's sentence, since the third implementation's steps have capped ones
unfoldable pub pulled3_cuts_on : List ℕ → List Case
pulled3_cuts_on d =
    cut_into d 0 (7 ∷ 9 ∷ 10 ∷ [])
    ((5 ∷ 5 ∷ 5 ∷ []) ∷ (5 ∷ 5 ∷ 5 ∷ []) ∷ (5 ∷ 5 ∷ 5 ∷ [])
    ∷ (1 ∷ 1 ∷ 1 ∷ []) ∷ (1 ∷ 1 ∷ 1 ∷ []) ∷ [])
    (6 ∷ 6 ∷ 4 ∷ 4 ∷ 0 ∷ []) (2 ∷ 2 ∷ 1 ∷ 1 ∷ 0 ∷ [])
    ∷ cut_into d 1 (4 ∷ 8 ∷ [])
    ((2 ∷ 2 ∷ []) ∷ (6 ∷ 6 ∷ []) ∷ (6 ∷ 6 ∷ [])
    ∷ (6 ∷ 6 ∷ []) ∷ (6 ∷ 6 ∷ []) ∷ [])
    (2 ∷ 2 ∷ 0 ∷ 3 ∷ 3 ∷ []) (1 ∷ 1 ∷ 0 ∷ 2 ∷ 2 ∷ [])
    ∷ cut_into d 2 (1 ∷ 2 ∷ 8 ∷ 9 ∷ [])
    ((0 ∷ 0 ∷ 0 ∷ 0 ∷ []) ∷ (6 ∷ 5 ∷ 3 ∷ 0 ∷ []) ∷ (5 ∷ 2 ∷ 1 ∷ 1 ∷ [])
    ∷ (6 ∷ 3 ∷ 3 ∷ 3 ∷ []) ∷ (6 ∷ 3 ∷ 3 ∷ 3 ∷ []) ∷ [])
    (14 ∷ 0 ∷ 0 ∷ 0 ∷ 8 ∷ []) (3 ∷ 0 ∷ 0 ∷ 0 ∷ 1 ∷ [])
    ∷ []

-- it is accepted; its book, in a lent one a byte longer; its report; every step of every line; every line
unfoldable pub pulled3_cases_on : List ℕ → List Case
pulled3_cases_on d =
    number (day_fault d) 0 ∷ booked d (replicate 265 170) (pulled3_book ++ (170 ∷ []))
    ∷ printed d pulled3_text ∷ (pulled3_views_on d ++ pulled3_cuts_on d)

unfoldable pub pulled3_cases : List Case
pulled3_cases = pulled3_cases_on pulled3_day

-- all of this file, opened
unfoldable pub pulled3_opened : ℕ
unfolding pulled3_words pulled3_day pulled3_book pulled3_text pulled3_views_on pulled3_cuts_on pulled3_cases_on pulled3_cases
pulled3_opened = 0
