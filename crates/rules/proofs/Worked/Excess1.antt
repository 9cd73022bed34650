-- Excess 1: operating totals above M on three of four lines, up to 1,000 MJ, on one of them with an effective actual above M; clawback on.
-- By the third implementation.
use Rattle.std.specs.Prelude.{ℕ, List, [], ◌∷◌, ◌++◌, replicate}
use Rattle.rules.proofs.Worked.Cases.{Case, concat, bytes_of, lines_of, bid, neg, row, number, booked, printed, viewed, viewed_over, cut_into}
use Rattle.rules.specs.Refusals.{day_fault}

unfoldable pub excess1_words : List ℕ
excess1_words =
    concat
    ((4 ∷ 16 ∷ 64 ∷ 2704 ∷ [])
    -- market prices, cap marks, APC, clawback
    ∷ (6 ∷ 6 ∷ 5 ∷ 5 ∷ 2 ∷ []) ∷ (0 ∷ 1 ∷ 0 ∷ 1 ∷ 0 ∷ []) ∷ (5 ∷ 1 ∷ [])
    -- line 0: participant, point, side, accreditation, hedge; bids; pricing rows; operating rows; actuals
    ∷ (1 ∷ 2 ∷ 1 ∷ 61 ∷ 0 ∷ [])
    ∷ bid (10 ∷ []) (1 ∷ [])
    ∷ bid [] []
    ∷ bid [] []
    ∷ bid [] []
    ∷ bid [] []
    ∷ (0 ∷ 0 ∷ 0 ∷ 0 ∷ 0 ∷ []) ∷ (0 ∷ 0 ∷ 0 ∷ 0 ∷ []) ∷ (0 ∷ 0 ∷ 0 ∷ []) ∷ (0 ∷ 0 ∷ []) ∷ (0 ∷ [])
    ∷ (0 ∷ 0 ∷ 0 ∷ 0 ∷ 0 ∷ []) ∷ (0 ∷ 0 ∷ 0 ∷ 0 ∷ 0 ∷ []) ∷ (0 ∷ 0 ∷ 0 ∷ 0 ∷ 0 ∷ []) ∷ (0 ∷ 0 ∷ 4 ∷ 4 ∷ 0 ∷ []) ∷ (0 ∷ 0 ∷ 0 ∷ 7 ∷ 0 ∷ [])
    ∷ (0 ∷ 5 ∷ 0 ∷ 7 ∷ 0 ∷ [])
    -- line 1: participant, point, side, accreditation, hedge; bids; pricing rows; operating rows; actuals
    ∷ (103 ∷ 161 ∷ 1 ∷ 63 ∷ 0 ∷ [])
    ∷ bid (1 ∷ 5 ∷ []) (4 ∷ 2 ∷ [])
    ∷ bid (4 ∷ 8 ∷ []) (4 ∷ 2 ∷ [])
    ∷ bid (4 ∷ 8 ∷ []) (6 ∷ 6 ∷ [])
    ∷ bid (4 ∷ 8 ∷ []) (6 ∷ 6 ∷ [])
    ∷ bid (4 ∷ 8 ∷ []) (4 ∷ 1 ∷ [])
    ∷ (0 ∷ 0 ∷ 0 ∷ 0 ∷ 0 ∷ []) ∷ (0 ∷ 0 ∷ 0 ∷ 0 ∷ []) ∷ (0 ∷ 0 ∷ 0 ∷ []) ∷ (2 ∷ 0 ∷ []) ∷ (0 ∷ [])
    ∷ (0 ∷ 3 ∷ 3 ∷ 1 ∷ 0 ∷ []) ∷ (1 ∷ 14 ∷ 25 ∷ 28 ∷ 38 ∷ []) ∷ (1 ∷ 0 ∷ 1 ∷ 6 ∷ 0 ∷ []) ∷ (0 ∷ 0 ∷ 1 ∷ 1 ∷ 0 ∷ []) ∷ (0 ∷ 1 ∷ 0 ∷ 0 ∷ 0 ∷ [])
    ∷ (1 ∷ 1 ∷ 0 ∷ 0 ∷ 0 ∷ [])
    -- line 2: participant, point, side, accreditation, hedge; bids; pricing rows; operating rows; actuals
    ∷ (7 ∷ 2 ∷ 0 ∷ 1 ∷ 0 ∷ [])
    ∷ bid (11 ∷ 12 ∷ []) (4 ∷ 6 ∷ [])
    ∷ bid [] []
    ∷ bid [] []
    ∷ bid [] []
    ∷ bid [] []
    ∷ (0 ∷ 7 ∷ 3 ∷ 1 ∷ 1 ∷ []) ∷ (0 ∷ 1 ∷ 0 ∷ 0 ∷ []) ∷ (0 ∷ 8 ∷ 0 ∷ []) ∷ (0 ∷ 2 ∷ []) ∷ (0 ∷ [])
    ∷ (0 ∷ 0 ∷ 0 ∷ 0 ∷ 12 ∷ []) ∷ (0 ∷ 0 ∷ 0 ∷ 1012 ∷ 0 ∷ []) ∷ (1012 ∷ 0 ∷ 0 ∷ 0 ∷ 0 ∷ []) ∷ (0 ∷ 0 ∷ 0 ∷ 0 ∷ 0 ∷ []) ∷ (4 ∷ 0 ∷ 0 ∷ 0 ∷ 0 ∷ [])
    ∷ (0 ∷ 0 ∷ 0 ∷ 0 ∷ 24 ∷ [])
    -- line 3: participant, point, side, accreditation, hedge; bids; pricing rows; operating rows; actuals
    ∷ (101 ∷ 2 ∷ 1 ∷ 1 ∷ 0 ∷ [])
    ∷ bid (4 ∷ []) (6 ∷ [])
    ∷ bid (8 ∷ []) (6 ∷ [])
    ∷ bid (8 ∷ []) (6 ∷ [])
    ∷ bid (1 ∷ 5 ∷ 8 ∷ 10 ∷ []) (4 ∷ 4 ∷ 3 ∷ 0 ∷ [])
    ∷ bid (1 ∷ 5 ∷ 8 ∷ 10 ∷ []) (4 ∷ 4 ∷ 3 ∷ 0 ∷ [])
    ∷ (0 ∷ 0 ∷ 0 ∷ 0 ∷ 0 ∷ []) ∷ (0 ∷ 0 ∷ 0 ∷ 0 ∷ []) ∷ (0 ∷ 0 ∷ 0 ∷ []) ∷ (0 ∷ 2 ∷ []) ∷ (0 ∷ [])
    ∷ (0 ∷ 0 ∷ 0 ∷ 0 ∷ 0 ∷ []) ∷ (14 ∷ 9 ∷ 112 ∷ 232 ∷ 642 ∷ []) ∷ (157 ∷ 113 ∷ 198 ∷ 10 ∷ 9 ∷ []) ∷ (0 ∷ 10 ∷ 0 ∷ 0 ∷ 0 ∷ []) ∷ (2 ∷ 2 ∷ 2 ∷ 4 ∷ 1 ∷ [])
    ∷ (2 ∷ 2 ∷ 2 ∷ 4 ∷ 1 ∷ [])
    ∷ [])

unfoldable pub excess1_day : List ℕ
excess1_day = bytes_of excess1_words

-- the book, as words: n, 16, 96, 96 + 56n; five pairs t, a; of each line participant, point, side, count and payments, low word first
unfoldable pub excess1_book : List ℕ
excess1_book =
    bytes_of
    (concat
    ((4 ∷ 16 ∷ 96 ∷ 320 ∷ [])
    ∷ (26 ∷ 0 ∷ 26 ∷ 0 ∷ 14 ∷ 0 ∷ 14 ∷ 0 ∷ 0 ∷ 0 ∷ 0 ∷ 0 ∷ 30 ∷ 0 ∷ 26 ∷ 0 ∷ 4294967292 ∷ 4294967295 ∷ 0 ∷ 0 ∷ [])
    ∷ (1 ∷ 2 ∷ 1 ∷ 1 ∷ 0 ∷ 0 ∷ 0 ∷ 0 ∷ 0 ∷ 0 ∷ 32 ∷ 0 ∷ 4294967292 ∷ 4294967295 ∷ [])
    ∷ (103 ∷ 161 ∷ 1 ∷ 4 ∷ 26 ∷ 0 ∷ 4 ∷ 0 ∷ 0 ∷ 0 ∷ 0 ∷ 0 ∷ 0 ∷ 0 ∷ [])
    ∷ (7 ∷ 2 ∷ 0 ∷ 2 ∷ 0 ∷ 0 ∷ 0 ∷ 0 ∷ 0 ∷ 0 ∷ 0 ∷ 0 ∷ 0 ∷ 0 ∷ [])
    ∷ (101 ∷ 2 ∷ 1 ∷ 5 ∷ 0 ∷ 0 ∷ 10 ∷ 0 ∷ 0 ∷ 0 ∷ 4294967294 ∷ 4294967295 ∷ 0 ∷ 0 ∷ [])
    ∷ []))

unfoldable pub excess1_text : List ℕ
excess1_text =
    lines_of
    ("day 4"
    ∷ "1 2 WDR 1 0 0 0 32 -4"
    ∷ "103 161 WDR 4 26 4 0 0 0"
    ∷ "7 2 INJ 2 0 0 0 0 0"
    ∷ "101 2 WDR 5 0 10 0 -2 0"
    ∷ "total 26 14 0 30 -4"
    ∷ "adjusted 26 14 0 26 0"
    ∷ [])

-- each step: line, step; end, width, A; five rows of price, flag, O, E, AGINO, MSIQ, C, initial, revised, modified, final; the ten matches;
-- where the line has an excess, that of pricing, of operating and of the effective actual
unfoldable pub excess1_views_on : List ℕ → List Case
excess1_views_on d =
    viewed d 0 0 (10 ∷ 10 ∷ 7 ∷ [])
    (row 1 0 0 0 0 0 0 0 0 0 0
    ∷ row 1 1 0 0 0 0 0 0 0 0 0
    ∷ row 1 1 0 0 0 0 0 0 0 0 0
    ∷ row 1 1 8 0 0 0 8 32 32 32 32
    ∷ row 1 1 7 0 0 0 7 (neg 1) (neg 1) (neg 4) (neg 4) ∷ [])
    (0 ∷ 0 ∷ 0 ∷ 0 ∷ 0 ∷ 0 ∷ 0 ∷ 0 ∷ 0 ∷ 1 ∷ [])
    ∷ viewed_over d 1 0 (1 ∷ 1 ∷ 1 ∷ [])
    (row 4 0 1 0 0 0 1 2 2 2 2
    ∷ row 4 0 1 0 0 0 1 0 0 0 0
    ∷ row 6 0 1 0 0 0 1 0 0 0 0
    ∷ row 5 0 1 1 0 1 0 0 0 0 0
    ∷ row 4 0 1 1 0 1 0 0 0 0 0 ∷ [])
    (0 ∷ 0 ∷ 0 ∷ 1 ∷ 0 ∷ 0 ∷ 0 ∷ 0 ∷ 0 ∷ 0 ∷ [])
    (0 ∷ 0 ∷ 0 ∷ 0 ∷ 0 ∷ []) (0 ∷ 98 ∷ 0 ∷ 0 ∷ 0 ∷ []) 0
    ∷ viewed_over d 1 1 (4 ∷ 3 ∷ 0 ∷ [])
    (row 2 0 3 0 0 0 3 12 12 12 12
    ∷ row 4 0 3 0 0 0 3 0 0 0 0
    ∷ row 6 0 3 0 0 0 3 0 0 0 0
    ∷ row 5 0 1 1 0 1 0 0 0 0 0
    ∷ row 4 0 0 1 0 1 0 0 0 0 0 ∷ [])
    (0 ∷ 0 ∷ 0 ∷ 3 ∷ 0 ∷ 0 ∷ 0 ∷ 0 ∷ 0 ∷ 0 ∷ [])
    (0 ∷ 0 ∷ 0 ∷ 0 ∷ 0 ∷ []) (0 ∷ 98 ∷ 0 ∷ 0 ∷ 0 ∷ []) 0
    ∷ viewed_over d 1 2 (5 ∷ 1 ∷ 0 ∷ [])
    (row 2 0 1 0 0 0 1 4 4 4 4
    ∷ row 2 0 1 0 0 0 1 0 0 0 0
    ∷ row 6 0 1 0 0 0 1 0 0 0 0
    ∷ row 5 0 0 0 0 0 0 0 0 0 0
    ∷ row 1 0 0 0 0 0 0 0 0 0 0 ∷ [])
    (0 ∷ 0 ∷ 0 ∷ 1 ∷ 0 ∷ 0 ∷ 0 ∷ 0 ∷ 0 ∷ 0 ∷ [])
    (0 ∷ 0 ∷ 0 ∷ 0 ∷ 0 ∷ []) (0 ∷ 98 ∷ 0 ∷ 0 ∷ 0 ∷ []) 0
    ∷ viewed_over d 1 3 (8 ∷ 3 ∷ 0 ∷ [])
    (row 2 1 2 0 0 0 2 8 8 8 8
    ∷ row 2 0 3 0 0 0 3 4 4 4 4
    ∷ row 6 0 3 0 0 0 3 0 0 0 0
    ∷ row 5 0 0 0 0 0 0 0 0 0 0
    ∷ row 1 0 0 0 0 0 0 0 0 0 0 ∷ [])
    (0 ∷ 0 ∷ 0 ∷ 2 ∷ 1 ∷ 0 ∷ 0 ∷ 0 ∷ 0 ∷ 0 ∷ [])
    (0 ∷ 0 ∷ 0 ∷ 0 ∷ 0 ∷ []) (0 ∷ 98 ∷ 0 ∷ 0 ∷ 0 ∷ []) 0
    ∷ viewed_over d 2 0 (11 ∷ 11 ∷ 0 ∷ [])
    (row 4 0 11 11 0 1 10 0 0 0 0
    ∷ row 5 1 11 1 0 1 10 0 0 0 0
    ∷ row 6 1 11 8 0 8 3 (neg 7) 0 0 0
    ∷ row 5 1 0 2 0 0 0 0 0 0 0
    ∷ row 6 1 4 0 4 0 0 0 0 0 0 ∷ [])
    (0 ∷ 7 ∷ 0 ∷ 3 ∷ 0 ∷ 0 ∷ 0 ∷ 0 ∷ 0 ∷ 0 ∷ [])
    (0 ∷ 0 ∷ 0 ∷ 0 ∷ 0 ∷ []) (0 ∷ 1000 ∷ 1000 ∷ 0 ∷ 0 ∷ []) 0
    ∷ viewed_over d 2 1 (12 ∷ 1 ∷ 0 ∷ [])
    (row 6 0 1 1 0 0 1 0 0 0 0
    ∷ row 5 1 1 0 0 0 1 0 0 0 0
    ∷ row 6 1 1 0 0 0 1 0 0 0 0
    ∷ row 5 1 0 0 0 0 0 0 0 0 0
    ∷ row 6 1 0 0 0 0 0 0 0 0 0 ∷ [])
    (0 ∷ 0 ∷ 0 ∷ 1 ∷ 0 ∷ 0 ∷ 0 ∷ 0 ∷ 0 ∷ 0 ∷ [])
    (0 ∷ 0 ∷ 0 ∷ 0 ∷ 0 ∷ []) (0 ∷ 1000 ∷ 1000 ∷ 0 ∷ 0 ∷ []) 0
    ∷ viewed_over d 3 0 (1 ∷ 1 ∷ 1 ∷ [])
    (row 6 0 0 0 0 0 0 0 0 0 0
    ∷ row 5 0 1 0 0 0 1 1 1 1 1
    ∷ row 6 0 1 0 0 0 1 0 0 0 0
    ∷ row 4 0 1 1 0 1 0 (neg 1) 0 (neg 1) (neg 1)
    ∷ row 4 0 1 0 0 0 1 0 0 0 0 ∷ [])
    (0 ∷ 0 ∷ 0 ∷ 0 ∷ 1 ∷ 0 ∷ 0 ∷ 0 ∷ 0 ∷ 0 ∷ [])
    (0 ∷ 0 ∷ 0 ∷ 0 ∷ 0 ∷ []) (0 ∷ 999 ∷ 477 ∷ 0 ∷ 1 ∷ []) 1
    ∷ viewed_over d 3 1 (4 ∷ 3 ∷ 3 ∷ [])
    (row 6 0 0 0 0 0 0 0 0 0 0
    ∷ row 5 0 3 0 0 0 3 3 3 3 3
    ∷ row 6 0 3 0 0 0 3 0 0 0 0
    ∷ row 4 0 3 1 0 1 2 (neg 1) 0 (neg 1) (neg 1)
    ∷ row 4 0 3 0 0 0 3 0 0 0 0 ∷ [])
    (0 ∷ 0 ∷ 0 ∷ 0 ∷ 1 ∷ 0 ∷ 0 ∷ 0 ∷ 0 ∷ 0 ∷ [])
    (0 ∷ 0 ∷ 0 ∷ 0 ∷ 0 ∷ []) (0 ∷ 999 ∷ 477 ∷ 0 ∷ 1 ∷ []) 1
    ∷ viewed_over d 3 2 (5 ∷ 1 ∷ 1 ∷ [])
    (row 6 1 0 0 0 0 0 0 0 0 0
    ∷ row 5 0 1 0 0 0 1 1 1 1 1
    ∷ row 6 0 1 0 0 0 1 0 0 0 0
    ∷ row 4 0 1 0 0 0 1 0 0 0 0
    ∷ row 4 0 1 0 0 0 1 0 0 0 0 ∷ [])
    (0 ∷ 0 ∷ 0 ∷ 0 ∷ 0 ∷ 0 ∷ 0 ∷ 0 ∷ 0 ∷ 0 ∷ [])
    (0 ∷ 0 ∷ 0 ∷ 0 ∷ 0 ∷ []) (0 ∷ 999 ∷ 477 ∷ 0 ∷ 1 ∷ []) 1
    ∷ viewed_over d 3 3 (8 ∷ 3 ∷ 3 ∷ [])
    (row 6 1 0 0 0 0 0 0 0 0 0
    ∷ row 5 0 3 0 0 0 3 3 3 3 3
    ∷ row 6 0 3 0 0 0 3 0 0 0 0
    ∷ row 3 0 3 0 0 0 3 0 0 0 0
    ∷ row 3 0 3 0 0 0 3 0 0 0 0 ∷ [])
    (0 ∷ 0 ∷ 0 ∷ 0 ∷ 0 ∷ 0 ∷ 0 ∷ 0 ∷ 0 ∷ 0 ∷ [])
    (0 ∷ 0 ∷ 0 ∷ 0 ∷ 0 ∷ []) (0 ∷ 999 ∷ 477 ∷ 0 ∷ 1 ∷ []) 1
    ∷ viewed_over d 3 4 (10 ∷ 2 ∷ 2 ∷ [])
    (row 6 1 0 0 0 0 0 0 0 0 0
    ∷ row 5 1 2 0 0 0 2 2 2 2 2
    ∷ row 6 1 2 0 0 0 2 0 0 0 0
    ∷ row 0 0 2 0 0 0 2 0 0 0 0
    ∷ row 0 0 2 0 0 0 2 0 0 0 0 ∷ [])
    (0 ∷ 0 ∷ 0 ∷ 0 ∷ 0 ∷ 0 ∷ 0 ∷ 0 ∷ 0 ∷ 0 ∷ [])
    (0 ∷ 0 ∷ 0 ∷ 0 ∷ 0 ∷ []) (0 ∷ 999 ∷ 477 ∷ 0 ∷ 1 ∷ []) 1
    ∷ []

-- each line of the cutter: ends; five rows of uncapped prices; words of flags; how many are set. The uncapped prices are worked out from
-- the words above by document 01's sentence, since the third implementation's steps have capped ones
unfoldable pub excess1_cuts_on : List ℕ → List Case
excess1_cuts_on d =
    cut_into d 0 (10 ∷ [])
    ((1 ∷ []) ∷ (1 ∷ []) ∷ (1 ∷ [])
    ∷ (1 ∷ []) ∷ (1 ∷ []) ∷ [])
    (0 ∷ 1 ∷ 1 ∷ 1 ∷ 1 ∷ []) (0 ∷ 1 ∷ 1 ∷ 1 ∷ 1 ∷ [])
    ∷ cut_into d 1 (1 ∷ 4 ∷ 5 ∷ 8 ∷ [])
    ((4 ∷ 2 ∷ 2 ∷ 2 ∷ []) ∷ (4 ∷ 4 ∷ 2 ∷ 2 ∷ []) ∷ (6 ∷ 6 ∷ 6 ∷ 6 ∷ [])
    ∷ (6 ∷ 6 ∷ 6 ∷ 6 ∷ []) ∷ (4 ∷ 4 ∷ 1 ∷ 1 ∷ []) ∷ [])
    (8 ∷ 0 ∷ 0 ∷ 0 ∷ 0 ∷ []) (1 ∷ 0 ∷ 0 ∷ 0 ∷ 0 ∷ [])
    ∷ cut_into d 2 (11 ∷ 12 ∷ [])
    ((4 ∷ 6 ∷ []) ∷ (6 ∷ 6 ∷ []) ∷ (6 ∷ 6 ∷ [])
    ∷ (6 ∷ 6 ∷ []) ∷ (6 ∷ 6 ∷ []) ∷ [])
    (0 ∷ 3 ∷ 3 ∷ 3 ∷ 3 ∷ []) (0 ∷ 2 ∷ 2 ∷ 2 ∷ 2 ∷ [])
    ∷ cut_into d 3 (1 ∷ 4 ∷ 5 ∷ 8 ∷ 10 ∷ [])
    ((6 ∷ 6 ∷ 6 ∷ 6 ∷ 6 ∷ []) ∷ (6 ∷ 6 ∷ 6 ∷ 6 ∷ 6 ∷ []) ∷ (6 ∷ 6 ∷ 6 ∷ 6 ∷ 6 ∷ [])
    ∷ (4 ∷ 4 ∷ 4 ∷ 3 ∷ 0 ∷ []) ∷ (4 ∷ 4 ∷ 4 ∷ 3 ∷ 0 ∷ []) ∷ [])
    (28 ∷ 16 ∷ 16 ∷ 0 ∷ 0 ∷ []) (3 ∷ 1 ∷ 1 ∷ 0 ∷ 0 ∷ [])
    ∷ []

-- it is accepted; its book, in a lent one a byte longer; its report; every step of every line; every line
unfoldable pub excess1_cases_on : List ℕ → List Case
excess1_cases_on d =
    number (day_fault d) 0 ∷ booked d (replicate 321 170) (excess1_book ++ (170 ∷ []))
    ∷ printed d excess1_text ∷ (excess1_views_on d ++ excess1_cuts_on d)

unfoldable pub excess1_cases : List Case
excess1_cases = excess1_cases_on excess1_day

-- all of this file, opened
unfoldable pub excess1_opened : ℕ
unfolding excess1_words excess1_day excess1_book excess1_text excess1_views_on excess1_cuts_on excess1_cases_on excess1_cases
excess1_opened = 0
