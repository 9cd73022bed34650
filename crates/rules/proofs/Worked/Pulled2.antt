-- Pulled 2: two injections with one bid pulled each, in schedules 3 and 2, of which the first is accredited in schedules 1, 4 and 5 (57),
-- clawback on. By the third implementation.
use Rattle.std.specs.Prelude.{ℕ, List, [], ◌∷◌, ◌++◌, replicate}
use Rattle.rules.proofs.Worked.Cases.{Case, concat, bytes_of, lines_of, bid, neg, row, number, booked, printed, viewed, cut_into}
use Rattle.rules.specs.Refusals.{day_fault}

unfoldable pub pulled2_words : List ℕ
pulled2_words =
    concat
    ((3 ∷ 16 ∷ 64 ∷ 2044 ∷ [])
    -- market prices, cap marks, APC, clawback
    ∷ (6 ∷ 0 ∷ 0 ∷ 0 ∷ 6 ∷ []) ∷ (0 ∷ 0 ∷ 0 ∷ 0 ∷ 0 ∷ []) ∷ (6 ∷ 1 ∷ [])
    -- line 0: participant, point, side, accreditation, hedge; bids; pricing rows; operating rows; actuals
    ∷ (7 ∷ 0 ∷ 0 ∷ 57 ∷ 0 ∷ [])
    ∷ bid (6 ∷ 8 ∷ 10 ∷ 11 ∷ []) (0 ∷ 0 ∷ 0 ∷ 6 ∷ [])
    ∷ bid (6 ∷ 8 ∷ []) (0 ∷ 0 ∷ [])
    ∷ bid [] []
    ∷ bid (9 ∷ 11 ∷ []) (6 ∷ 6 ∷ [])
    ∷ bid (12 ∷ []) (6 ∷ [])
    ∷ (0 ∷ 0 ∷ 0 ∷ 0 ∷ 0 ∷ []) ∷ (0 ∷ 0 ∷ 0 ∷ 0 ∷ []) ∷ (0 ∷ 0 ∷ 0 ∷ []) ∷ (0 ∷ 0 ∷ []) ∷ (2 ∷ [])
    ∷ (0 ∷ 0 ∷ 2 ∷ 0 ∷ 0 ∷ []) ∷ (0 ∷ 0 ∷ 0 ∷ 0 ∷ 0 ∷ []) ∷ (2 ∷ 1 ∷ 8 ∷ 0 ∷ 0 ∷ []) ∷ (0 ∷ 1 ∷ 2 ∷ 2 ∷ 0 ∷ []) ∷ (1 ∷ 0 ∷ 2 ∷ 3 ∷ 0 ∷ [])
    ∷ (1 ∷ 0 ∷ 2 ∷ 3 ∷ 0 ∷ [])
    -- line 1: participant, point, side, accreditation, hedge; bids; pricing rows; operating rows; actuals
    ∷ (7 ∷ 3 ∷ 0 ∷ 1 ∷ 0 ∷ [])
    ∷ bid (1 ∷ 8 ∷ []) (4 ∷ 6 ∷ [])
    ∷ bid [] []
    ∷ bid (1 ∷ []) (4 ∷ [])
    ∷ bid (1 ∷ []) (4 ∷ [])
    ∷ bid (4 ∷ 6 ∷ 7 ∷ []) (1 ∷ 4 ∷ 5 ∷ [])
    ∷ (0 ∷ 0 ∷ 0 ∷ 0 ∷ 0 ∷ []) ∷ (0 ∷ 0 ∷ 0 ∷ 0 ∷ []) ∷ (0 ∷ 2 ∷ 0 ∷ []) ∷ (0 ∷ 0 ∷ []) ∷ (0 ∷ [])
    ∷ (2 ∷ 2 ∷ 4 ∷ 0 ∷ 0 ∷ []) ∷ (2 ∷ 2 ∷ 4 ∷ 0 ∷ 0 ∷ []) ∷ (0 ∷ 0 ∷ 0 ∷ 0 ∷ 0 ∷ []) ∷ (1 ∷ 3 ∷ 1 ∷ 3 ∷ 0 ∷ []) ∷ (1 ∷ 3 ∷ 1 ∷ 3 ∷ 0 ∷ [])
    ∷ (10 ∷ 3 ∷ 56 ∷ 3 ∷ 0 ∷ [])
    -- line 2: participant, point, side, accreditation, hedge; bids; pricing rows; operating rows; actuals
    ∷ (102 ∷ 1 ∷ 1 ∷ 32 ∷ 0 ∷ [])
    ∷ bid (9 ∷ []) (2 ∷ [])
    ∷ bid (9 ∷ []) (2 ∷ [])
    ∷ bid (9 ∷ []) (1 ∷ [])
    ∷ bid (9 ∷ []) (1 ∷ [])
    ∷ bid (9 ∷ []) (1 ∷ [])
    ∷ (0 ∷ 1 ∷ 1 ∷ 1 ∷ 0 ∷ []) ∷ (0 ∷ 4 ∷ 5 ∷ 0 ∷ []) ∷ (0 ∷ 3 ∷ 0 ∷ []) ∷ (0 ∷ 0 ∷ []) ∷ (2 ∷ [])
    ∷ (3 ∷ 1 ∷ 1 ∷ 4 ∷ 0 ∷ []) ∷ (0 ∷ 0 ∷ 0 ∷ 1 ∷ 1 ∷ []) ∷ (0 ∷ 3 ∷ 0 ∷ 2 ∷ 1 ∷ []) ∷ (1 ∷ 2 ∷ 0 ∷ 1 ∷ 5 ∷ []) ∷ (0 ∷ 1 ∷ 0 ∷ 0 ∷ 0 ∷ [])
    ∷ (5 ∷ 1 ∷ 0 ∷ 0 ∷ 0 ∷ [])
    ∷ [])

unfoldable pub pulled2_day : List ℕ
pulled2_day = bytes_of pulled2_words

-- the book, as words: n, 16, 96, 96 + 56n; five pairs t, a; of each line participant, point, side, count and payments, low word first
unfoldable pub pulled2_book : List ℕ
pulled2_book =
    bytes_of
    (concat
    ((3 ∷ 16 ∷ 96 ∷ 264 ∷ [])
    ∷ (0 ∷ 0 ∷ 0 ∷ 0 ∷ 0 ∷ 0 ∷ 0 ∷ 0 ∷ 4294967292 ∷ 4294967295 ∷ 4294967292 ∷ 4294967295 ∷ 8 ∷ 0 ∷ 8 ∷ 0 ∷ 0 ∷ 0 ∷ 0 ∷ 0 ∷ [])
    ∷ (7 ∷ 0 ∷ 0 ∷ 6 ∷ 0 ∷ 0 ∷ 0 ∷ 0 ∷ 0 ∷ 0 ∷ 4294967272 ∷ 4294967295 ∷ 0 ∷ 0 ∷ [])
    ∷ (7 ∷ 3 ∷ 0 ∷ 5 ∷ 0 ∷ 0 ∷ 0 ∷ 0 ∷ 4294967292 ∷ 4294967295 ∷ 32 ∷ 0 ∷ 0 ∷ 0 ∷ [])
    ∷ (102 ∷ 1 ∷ 1 ∷ 1 ∷ 0 ∷ 0 ∷ 0 ∷ 0 ∷ 0 ∷ 0 ∷ 0 ∷ 0 ∷ 0 ∷ 0 ∷ [])
    ∷ []))

unfoldable pub pulled2_text : List ℕ
pulled2_text =
    lines_of
    ("day 3"
    ∷ "7 0 INJ 6 0 0 0 -24 0"
    ∷ "7 3 INJ 5 0 0 -4 32 0"
    ∷ "102 1 WDR 1 0 0 0 0 0"
    ∷ "total 0 0 -4 8 0"
    ∷ "adjusted 0 0 -4 8 0"
    ∷ [])

-- each step: line, step; end, width, A; five rows of price, flag, O, E, AGINO, MSIQ, C, initial, revised, modified, final; the ten matches
unfoldable pub pulled2_views_on : List ℕ → List Case
pulled2_views_on d =
    viewed d 0 0 (6 ∷ 6 ∷ 6 ∷ [])
    (row 0 0 2 0 0 0 2 0 0 0 0
    ∷ row 0 0 0 0 0 0 0 0 0 0 0
    ∷ row 0 1 6 0 0 0 6 0 0 0 0
    ∷ row 6 0 5 0 0 0 5 (neg 6) 0 0 (neg 4)
    ∷ row 6 0 6 2 0 2 4 0 0 0 0 ∷ [])
    (2 ∷ 0 ∷ 0 ∷ 0 ∷ 0 ∷ 1 ∷ 0 ∷ 0 ∷ 1 ∷ 0 ∷ [])
    ∷ viewed d 0 1 (8 ∷ 2 ∷ 0 ∷ [])
    (row 0 0 0 0 0 0 0 0 0 0 0
    ∷ row 0 0 0 0 0 0 0 0 0 0 0
    ∷ row 0 1 2 0 0 0 2 0 0 0 0
    ∷ row 6 0 0 0 0 0 0 (neg 12) 0 0 (neg 8)
    ∷ row 6 0 0 0 0 0 0 0 0 0 0 ∷ [])
    (0 ∷ 0 ∷ 0 ∷ 0 ∷ 0 ∷ 2 ∷ 0 ∷ 0 ∷ 0 ∷ 0 ∷ [])
    ∷ viewed d 0 2 (9 ∷ 1 ∷ 0 ∷ [])
    (row 0 0 0 0 0 0 0 0 0 0 0
    ∷ row 0 1 0 0 0 0 0 0 0 0 0
    ∷ row 0 1 1 0 0 0 1 0 0 0 0
    ∷ row 6 0 0 0 0 0 0 (neg 6) 0 0 (neg 4)
    ∷ row 6 0 0 0 0 0 0 0 0 0 0 ∷ [])
    (0 ∷ 0 ∷ 0 ∷ 0 ∷ 0 ∷ 1 ∷ 0 ∷ 0 ∷ 0 ∷ 0 ∷ [])
    ∷ viewed d 0 3 (10 ∷ 1 ∷ 0 ∷ [])
    (row 0 0 0 0 0 0 0 0 0 0 0
    ∷ row 0 1 0 0 0 0 0 0 0 0 0
    ∷ row 0 1 1 0 0 0 1 0 0 0 0
    ∷ row 6 0 0 0 0 0 0 (neg 6) 0 0 (neg 4)
    ∷ row 6 0 0 0 0 0 0 0 0 0 0 ∷ [])
    (0 ∷ 0 ∷ 0 ∷ 0 ∷ 0 ∷ 1 ∷ 0 ∷ 0 ∷ 0 ∷ 0 ∷ [])
    ∷ viewed d 0 4 (11 ∷ 1 ∷ 0 ∷ [])
    (row 6 0 0 0 0 0 0 0 0 0 0
    ∷ row 0 1 0 0 0 0 0 0 0 0 0
    ∷ row 0 1 1 0 0 0 1 0 0 0 0
    ∷ row 6 0 0 0 0 0 0 (neg 6) 0 0 (neg 4)
    ∷ row 6 0 0 0 0 0 0 0 0 0 0 ∷ [])
    (0 ∷ 0 ∷ 0 ∷ 0 ∷ 0 ∷ 1 ∷ 0 ∷ 0 ∷ 0 ∷ 0 ∷ [])
    ∷ viewed d 0 5 (12 ∷ 1 ∷ 0 ∷ [])
    (row 6 1 0 0 0 0 0 0 0 0 0
    ∷ row 0 1 0 0 0 0 0 0 0 0 0
    ∷ row 0 1 0 0 0 0 0 0 0 0 0
    ∷ row 6 1 0 0 0 0 0 0 0 0 0
    ∷ row 6 0 0 0 0 0 0 0 0 0 0 ∷ [])
    (0 ∷ 0 ∷ 0 ∷ 0 ∷ 0 ∷ 0 ∷ 0 ∷ 0 ∷ 0 ∷ 0 ∷ [])
    ∷ viewed d 1 0 (1 ∷ 1 ∷ 1 ∷ [])
    (row 4 0 1 0 0 0 1 0 0 0 0
    ∷ row 6 1 1 0 0 0 1 0 0 0 0
    ∷ row 4 0 0 1 0 1 0 (neg 4) (neg 4) 0 (neg 4)
    ∷ row 4 0 1 0 0 0 1 4 4 4 4
    ∷ row 1 0 1 0 0 0 1 0 0 0 0 ∷ [])
    (0 ∷ 1 ∷ 0 ∷ 0 ∷ 0 ∷ 0 ∷ 0 ∷ 0 ∷ 0 ∷ 0 ∷ [])
    ∷ viewed d 1 1 (4 ∷ 3 ∷ 3 ∷ [])
    (row 6 0 3 0 0 0 3 0 0 0 0
    ∷ row 6 1 3 0 0 0 3 0 0 0 0
    ∷ row 4 1 0 1 0 1 0 (neg 12) (neg 12) 0 0
    ∷ row 4 1 3 0 0 0 3 12 12 12 12
    ∷ row 1 0 3 0 0 0 3 0 0 0 0 ∷ [])
    (0 ∷ 3 ∷ 0 ∷ 0 ∷ 0 ∷ 0 ∷ 0 ∷ 0 ∷ 0 ∷ 0 ∷ [])
    ∷ viewed d 1 2 (6 ∷ 2 ∷ 2 ∷ [])
    (row 6 0 2 0 0 0 2 0 0 0 0
    ∷ row 6 1 2 0 0 0 2 0 0 0 0
    ∷ row 4 1 0 0 0 0 0 (neg 8) (neg 8) 0 0
    ∷ row 4 1 2 0 0 0 2 8 8 8 8
    ∷ row 4 0 2 0 0 0 2 0 0 0 0 ∷ [])
    (0 ∷ 2 ∷ 0 ∷ 0 ∷ 0 ∷ 0 ∷ 0 ∷ 0 ∷ 0 ∷ 0 ∷ [])
    ∷ viewed d 1 3 (7 ∷ 1 ∷ 1 ∷ [])
    (row 6 0 1 0 0 0 1 0 0 0 0
    ∷ row 6 1 1 0 0 0 1 0 0 0 0
    ∷ row 4 1 0 0 0 0 0 (neg 4) (neg 4) 0 0
    ∷ row 4 1 1 0 0 0 1 4 4 4 4
    ∷ row 5 0 1 0 0 0 1 0 0 0 0 ∷ [])
    (0 ∷ 1 ∷ 0 ∷ 0 ∷ 0 ∷ 0 ∷ 0 ∷ 0 ∷ 0 ∷ 0 ∷ [])
    ∷ viewed d 1 4 (8 ∷ 1 ∷ 1 ∷ [])
    (row 6 0 1 0 0 0 1 0 0 0 0
    ∷ row 6 1 1 0 0 0 1 0 0 0 0
    ∷ row 4 1 0 0 0 0 0 (neg 4) (neg 4) 0 0
    ∷ row 4 1 1 0 0 0 1 4 4 4 4
    ∷ row 5 1 1 0 0 0 1 0 0 0 0 ∷ [])
    (0 ∷ 1 ∷ 0 ∷ 0 ∷ 0 ∷ 0 ∷ 0 ∷ 0 ∷ 0 ∷ 0 ∷ [])
    ∷ viewed d 2 0 (9 ∷ 9 ∷ 1 ∷ [])
    (row 2 0 9 3 0 3 6 0 0 0 0
    ∷ row 2 0 2 9 0 0 2 0 0 0 0
    ∷ row 1 0 6 3 0 0 6 0 0 0 0
    ∷ row 1 0 9 0 0 0 9 0 0 0 0
    ∷ row 1 0 1 2 0 2 0 0 0 0 0 ∷ [])
    (4 ∷ 0 ∷ 0 ∷ 0 ∷ 0 ∷ 0 ∷ 2 ∷ 0 ∷ 4 ∷ 3 ∷ [])
    ∷ []

-- each line of the cutter: ends; five rows of uncapped prices; words of flags; how many are set. The uncapped prices are worked out from
-- the words above by document 01's sentence, since the third implementation's steps have capped ones
unfoldable pub pulled2_cuts_on : List ℕ → List Case
pulled2_cuts_on d =
    cut_into d 0 (6 ∷ 8 ∷ 9 ∷ 10 ∷ 11 ∷ 12 ∷ [])
    ((0 ∷ 0 ∷ 0 ∷ 0 ∷ 6 ∷ 6 ∷ []) ∷ (0 ∷ 0 ∷ 0 ∷ 0 ∷ 0 ∷ 0 ∷ []) ∷ (0 ∷ 0 ∷ 0 ∷ 0 ∷ 0 ∷ 0 ∷ [])
    ∷ (6 ∷ 6 ∷ 6 ∷ 6 ∷ 6 ∷ 6 ∷ []) ∷ (6 ∷ 6 ∷ 6 ∷ 6 ∷ 6 ∷ 6 ∷ []) ∷ [])
    (32 ∷ 60 ∷ 63 ∷ 32 ∷ 0 ∷ []) (1 ∷ 4 ∷ 6 ∷ 1 ∷ 0 ∷ [])
    ∷ cut_into d 1 (1 ∷ 4 ∷ 6 ∷ 7 ∷ 8 ∷ [])
    ((4 ∷ 6 ∷ 6 ∷ 6 ∷ 6 ∷ []) ∷ (6 ∷ 6 ∷ 6 ∷ 6 ∷ 6 ∷ []) ∷ (4 ∷ 4 ∷ 4 ∷ 4 ∷ 4 ∷ [])
    ∷ (4 ∷ 4 ∷ 4 ∷ 4 ∷ 4 ∷ []) ∷ (1 ∷ 1 ∷ 4 ∷ 5 ∷ 5 ∷ []) ∷ [])
    (0 ∷ 31 ∷ 30 ∷ 30 ∷ 16 ∷ []) (0 ∷ 5 ∷ 4 ∷ 4 ∷ 1 ∷ [])
    ∷ cut_into d 2 (9 ∷ [])
    ((2 ∷ []) ∷ (2 ∷ []) ∷ (1 ∷ [])
    ∷ (1 ∷ []) ∷ (1 ∷ []) ∷ [])
    (0 ∷ 0 ∷ 0 ∷ 0 ∷ 0 ∷ []) (0 ∷ 0 ∷ 0 ∷ 0 ∷ 0 ∷ [])
    ∷ []

-- it is accepted; its book, in a lent one a byte longer; its report; every step of every line; every line
unfoldable pub pulled2_cases_on : List ℕ → List Case
pulled2_cases_on d =
    number (day_fault d) 0 ∷ booked d (replicate 265 170) (pulled2_book ++ (170 ∷ []))
    ∷ printed d pulled2_text ∷ (pulled2_views_on d ++ pulled2_cuts_on d)

unfoldable pub pulled2_cases : List Case
pulled2_cases = pulled2_cases_on pulled2_day

-- all of this file, opened
unfoldable pub pulled2_opened : ℕ
unfolding pulled2_words pulled2_day pulled2_book pulled2_text pulled2_views_on pulled2_cuts_on pulled2_cases_on pulled2_cases
pulled2_opened = 0
