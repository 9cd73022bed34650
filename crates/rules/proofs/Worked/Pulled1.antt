-- Pulled 1: an injection whose bid is pulled in schedules 2 to 5, beside lines that bid in all, clawback on and schedule 3 capped.
-- The cap of schedule 3 is on the price that is taken over; line 0's rise in schedule 2 is flagged and paid at that price, and given back in 4.
-- By the third implementation.
use Rattle.std.specs.Prelude.{ℕ, List, [], ◌∷◌, ◌++◌, replicate}
use Rattle.rules.proofs.Worked.Cases.{Case, concat, bytes_of, lines_of, bid, neg, row, number, booked, printed, viewed, cut_into}
use Rattle.rules.specs.Refusals.{day_fault}

unfoldable pub pulled1_words : List ℕ
pulled1_words =
    concat
    ((4 ∷ 16 ∷ 64 ∷ 2704 ∷ [])
    -- market prices, cap marks, APC, clawback
    ∷ (6 ∷ 0 ∷ 3 ∷ 3 ∷ 3 ∷ []) ∷ (0 ∷ 0 ∷ 1 ∷ 0 ∷ 0 ∷ []) ∷ (2 ∷ 1 ∷ [])
    -- line 0: participant, point, side, accreditation, hedge; bids; pricing rows; operating rows; actuals
    ∷ (103 ∷ 100 ∷ 0 ∷ 63 ∷ 0 ∷ [])
    ∷ bid (5 ∷ 10 ∷ []) (3 ∷ 6 ∷ [])
    ∷ bid [] []
    ∷ bid [] []
    ∷ bid [] []
    ∷ bid [] []
    ∷ (0 ∷ 0 ∷ 0 ∷ 0 ∷ 10 ∷ []) ∷ (0 ∷ 0 ∷ 0 ∷ 0 ∷ []) ∷ (0 ∷ 0 ∷ 0 ∷ []) ∷ (0 ∷ 0 ∷ []) ∷ (10 ∷ [])
    ∷ (0 ∷ 0 ∷ 0 ∷ 0 ∷ 0 ∷ []) ∷ (0 ∷ 5 ∷ 0 ∷ 4 ∷ 0 ∷ []) ∷ (0 ∷ 3 ∷ 3 ∷ 2 ∷ 2 ∷ []) ∷ (0 ∷ 0 ∷ 0 ∷ 0 ∷ 0 ∷ []) ∷ (3 ∷ 1 ∷ 1 ∷ 0 ∷ 1 ∷ [])
    ∷ (0 ∷ 1 ∷ 1 ∷ 0 ∷ 0 ∷ [])
    -- line 1: participant, point, side, accreditation, hedge; bids; pricing rows; operating rows; actuals
    ∷ (102 ∷ 2 ∷ 1 ∷ 1 ∷ 0 ∷ [])
    ∷ bid (6 ∷ 8 ∷ 11 ∷ []) (5 ∷ 4 ∷ 1 ∷ [])
    ∷ bid (6 ∷ 8 ∷ []) (5 ∷ 4 ∷ [])
    ∷ bid (10 ∷ 12 ∷ []) (5 ∷ 4 ∷ [])
    ∷ bid (10 ∷ 12 ∷ []) (2 ∷ 1 ∷ [])
    ∷ bid (10 ∷ 12 ∷ []) (4 ∷ 2 ∷ [])
    ∷ (0 ∷ 1 ∷ 1 ∷ 2 ∷ 0 ∷ []) ∷ (0 ∷ 1 ∷ 1 ∷ 0 ∷ []) ∷ (0 ∷ 0 ∷ 0 ∷ []) ∷ (0 ∷ 1 ∷ []) ∷ (0 ∷ [])
    ∷ (5 ∷ 1 ∷ 1 ∷ 1 ∷ 4 ∷ []) ∷ (0 ∷ 2 ∷ 5 ∷ 3 ∷ 0 ∷ []) ∷ (0 ∷ 0 ∷ 1 ∷ 0 ∷ 0 ∷ []) ∷ (0 ∷ 0 ∷ 0 ∷ 0 ∷ 12 ∷ []) ∷ (4 ∷ 1 ∷ 2 ∷ 2 ∷ 3 ∷ [])
    ∷ (1 ∷ 0 ∷ 0 ∷ 0 ∷ 0 ∷ [])
    -- line 2: participant, point, side, accreditation, hedge; bids; pricing rows; operating rows; actuals
    ∷ (0 ∷ 1 ∷ 1 ∷ 32 ∷ 0 ∷ [])
    ∷ bid (3 ∷ 12 ∷ []) (6 ∷ 0 ∷ [])
    ∷ bid (3 ∷ []) (6 ∷ [])
    ∷ bid (6 ∷ []) (5 ∷ [])
    ∷ bid (6 ∷ []) (3 ∷ [])
    ∷ bid (6 ∷ []) (3 ∷ [])
    ∷ (0 ∷ 0 ∷ 0 ∷ 0 ∷ 0 ∷ []) ∷ (0 ∷ 11 ∷ 1 ∷ 0 ∷ []) ∷ (0 ∷ 0 ∷ 0 ∷ []) ∷ (0 ∷ 6 ∷ []) ∷ (0 ∷ [])
    ∷ (2 ∷ 1 ∷ 2 ∷ 0 ∷ 0 ∷ []) ∷ (0 ∷ 0 ∷ 2 ∷ 0 ∷ 0 ∷ []) ∷ (0 ∷ 0 ∷ 0 ∷ 0 ∷ 0 ∷ []) ∷ (1 ∷ 1 ∷ 1 ∷ 1 ∷ 3 ∷ []) ∷ (0 ∷ 0 ∷ 0 ∷ 5 ∷ 0 ∷ [])
    ∷ (0 ∷ 0 ∷ 5 ∷ 5 ∷ 0 ∷ [])
    -- line 3: participant, point, side, accreditation, hedge; bids; pricing rows; operating rows; actuals
    ∷ (103 ∷ 3 ∷ 0 ∷ 63 ∷ 0 ∷ [])
    ∷ bid (6 ∷ 9 ∷ 10 ∷ 12 ∷ []) (1 ∷ 3 ∷ 3 ∷ 5 ∷ [])
    ∷ bid (6 ∷ 9 ∷ 10 ∷ 12 ∷ []) (0 ∷ 1 ∷ 3 ∷ 4 ∷ [])
    ∷ bid (6 ∷ 9 ∷ 10 ∷ 12 ∷ []) (0 ∷ 1 ∷ 3 ∷ 4 ∷ [])
    ∷ bid (6 ∷ 9 ∷ 10 ∷ 12 ∷ []) (0 ∷ 1 ∷ 3 ∷ 4 ∷ [])
    ∷ bid (6 ∷ []) (0 ∷ [])
    ∷ (0 ∷ 0 ∷ 0 ∷ 0 ∷ 0 ∷ []) ∷ (0 ∷ 0 ∷ 0 ∷ 0 ∷ []) ∷ (0 ∷ 0 ∷ 1 ∷ []) ∷ (0 ∷ 0 ∷ []) ∷ (1 ∷ [])
    ∷ (0 ∷ 0 ∷ 1 ∷ 11 ∷ 0 ∷ []) ∷ (0 ∷ 0 ∷ 1 ∷ 11 ∷ 0 ∷ []) ∷ (0 ∷ 0 ∷ 1 ∷ 11 ∷ 0 ∷ []) ∷ (0 ∷ 0 ∷ 0 ∷ 0 ∷ 0 ∷ []) ∷ (0 ∷ 2 ∷ 1 ∷ 0 ∷ 0 ∷ [])
    ∷ (0 ∷ 2 ∷ 1 ∷ 0 ∷ 4 ∷ [])
    ∷ [])

unfoldable pub pulled1_day : List ℕ
pulled1_day = bytes_of pulled1_words

-- the book, as words: n, 16, 96, 96 + 56n; five pairs t, a; of each line participant, point, side, count and payments, low word first
unfoldable pub pulled1_book : List ℕ
pulled1_book =
    bytes_of
    (concat
    ((4 ∷ 16 ∷ 96 ∷ 320 ∷ [])
    ∷ (26 ∷ 0 ∷ 22 ∷ 0 ∷ 54 ∷ 0 ∷ 0 ∷ 0 ∷ 4294967294 ∷ 4294967295 ∷ 0 ∷ 0 ∷ 4294967240 ∷ 4294967295 ∷ 0 ∷ 0 ∷ 0 ∷ 0 ∷ 0 ∷ 0 ∷ [])
    ∷ (103 ∷ 100 ∷ 0 ∷ 2 ∷ 0 ∷ 0 ∷ 54 ∷ 0 ∷ 0 ∷ 0 ∷ 4294967242 ∷ 4294967295 ∷ 0 ∷ 0 ∷ [])
    ∷ (102 ∷ 2 ∷ 1 ∷ 5 ∷ 26 ∷ 0 ∷ 0 ∷ 0 ∷ 4294967294 ∷ 4294967295 ∷ 0 ∷ 0 ∷ 0 ∷ 0 ∷ [])
    ∷ (0 ∷ 1 ∷ 1 ∷ 3 ∷ 0 ∷ 0 ∷ 0 ∷ 0 ∷ 0 ∷ 0 ∷ 0 ∷ 0 ∷ 0 ∷ 0 ∷ [])
    ∷ (103 ∷ 3 ∷ 0 ∷ 4 ∷ 0 ∷ 0 ∷ 0 ∷ 0 ∷ 0 ∷ 0 ∷ 4294967294 ∷ 4294967295 ∷ 0 ∷ 0 ∷ [])
    ∷ []))

unfoldable pub pulled1_text : List ℕ
pulled1_text =
    lines_of
    ("day 4"
    ∷ "103 100 INJ 2 0 54 0 -54 0"
    ∷ "102 2 WDR 5 26 0 -2 0 0"
    ∷ "0 1 WDR 3 0 0 0 0 0"
    ∷ "103 3 INJ 4 0 0 0 -2 0"
    ∷ "total 26 54 -2 -56 0"
    ∷ "adjusted 22 0 0 0 0"
    ∷ [])

-- each step: line, step; end, width, A; five rows of price, flag, O, E, AGINO, MSIQ, C, initial, revised, modified, final; the ten matches
unfoldable pub pulled1_views_on : List ℕ → List Case
pulled1_views_on d =
    viewed d 0 0 (5 ∷ 5 ∷ 2 ∷ [])
    (row 3 0 0 5 0 0 0 0 0 0 0
    ∷ row 6 1 5 0 0 0 5 30 30 30 30
    ∷ row 2 1 5 0 0 0 5 0 0 0 0
    ∷ row 6 1 0 0 0 0 0 (neg 15) (neg 15) (neg 30) (neg 30)
    ∷ row 6 1 5 5 3 5 0 0 0 0 0 ∷ [])
    (0 ∷ 0 ∷ 0 ∷ 0 ∷ 5 ∷ 0 ∷ 0 ∷ 0 ∷ 0 ∷ 0 ∷ [])
    ∷ viewed d 0 1 (10 ∷ 5 ∷ 0 ∷ [])
    (row 6 0 0 5 0 0 0 0 0 0 0
    ∷ row 6 1 4 0 0 0 4 24 24 24 24
    ∷ row 2 1 5 0 0 0 5 0 0 0 0
    ∷ row 6 1 0 0 0 0 0 (neg 15) (neg 12) (neg 24) (neg 24)
    ∷ row 6 1 1 5 1 5 0 0 0 0 0 ∷ [])
    (0 ∷ 0 ∷ 0 ∷ 0 ∷ 4 ∷ 1 ∷ 0 ∷ 0 ∷ 0 ∷ 0 ∷ [])
    ∷ viewed d 1 0 (6 ∷ 6 ∷ 1 ∷ [])
    (row 5 0 6 4 0 4 2 2 2 2 2
    ∷ row 5 0 6 2 0 0 6 0 0 0 0
    ∷ row 2 0 1 0 0 0 1 (neg 5) 0 (neg 1) 0
    ∷ row 2 0 6 1 5 1 0 (neg 1) 0 (neg 1) 0
    ∷ row 4 0 6 0 5 0 1 0 0 0 0 ∷ [])
    (0 ∷ 1 ∷ 4 ∷ 1 ∷ 0 ∷ 0 ∷ 0 ∷ 0 ∷ 0 ∷ 0 ∷ [])
    ∷ viewed d 1 1 (8 ∷ 2 ∷ 0 ∷ [])
    (row 4 0 2 0 0 0 2 4 4 4 4
    ∷ row 4 0 2 0 0 0 2 0 0 0 0
    ∷ row 2 0 0 0 0 0 0 (neg 2) 0 (neg 4) 0
    ∷ row 2 0 2 0 2 0 0 0 0 0 0
    ∷ row 4 0 2 0 2 0 0 0 0 0 0 ∷ [])
    (0 ∷ 2 ∷ 0 ∷ 0 ∷ 0 ∷ 0 ∷ 0 ∷ 0 ∷ 0 ∷ 0 ∷ [])
    ∷ viewed d 1 2 (10 ∷ 2 ∷ 0 ∷ [])
    (row 1 0 2 0 0 0 2 10 10 10 10
    ∷ row 4 1 2 0 0 0 2 0 0 0 0
    ∷ row 2 0 0 0 0 0 0 (neg 2) (neg 2) (neg 10) (neg 2)
    ∷ row 2 0 2 0 2 0 0 0 0 0 0
    ∷ row 4 0 2 0 2 0 0 0 0 0 0 ∷ [])
    (0 ∷ 2 ∷ 0 ∷ 0 ∷ 0 ∷ 0 ∷ 0 ∷ 0 ∷ 0 ∷ 0 ∷ [])
    ∷ viewed d 1 3 (11 ∷ 1 ∷ 0 ∷ [])
    (row 1 0 1 0 0 0 1 5 5 5 5
    ∷ row 4 1 0 0 0 0 0 0 0 0 0
    ∷ row 2 0 0 0 0 0 0 0 0 0 0
    ∷ row 1 0 1 0 1 0 0 0 0 0 0
    ∷ row 2 0 1 0 1 0 0 0 0 0 0 ∷ [])
    (1 ∷ 0 ∷ 0 ∷ 0 ∷ 0 ∷ 0 ∷ 0 ∷ 0 ∷ 0 ∷ 0 ∷ [])
    ∷ viewed d 1 4 (12 ∷ 1 ∷ 0 ∷ [])
    (row 1 1 1 0 0 0 1 5 5 5 5
    ∷ row 4 1 0 0 0 0 0 0 0 0 0
    ∷ row 2 0 0 0 0 0 0 0 0 0 0
    ∷ row 1 0 1 0 1 0 0 0 0 0 0
    ∷ row 2 0 1 0 1 0 0 0 0 0 0 ∷ [])
    (1 ∷ 0 ∷ 0 ∷ 0 ∷ 0 ∷ 0 ∷ 0 ∷ 0 ∷ 0 ∷ 0 ∷ [])
    ∷ viewed d 2 0 (3 ∷ 3 ∷ 3 ∷ [])
    (row 6 0 3 0 0 0 3 0 0 0 0
    ∷ row 6 0 2 3 0 0 2 0 0 0 0
    ∷ row 2 0 0 0 0 0 0 0 0 0 0
    ∷ row 3 0 3 3 0 0 3 0 0 0 0
    ∷ row 3 0 3 0 0 0 3 0 0 0 0 ∷ [])
    (1 ∷ 2 ∷ 0 ∷ 0 ∷ 0 ∷ 0 ∷ 0 ∷ 0 ∷ 0 ∷ 0 ∷ [])
    ∷ viewed d 2 1 (6 ∷ 3 ∷ 2 ∷ [])
    (row 0 0 2 0 0 0 2 0 0 0 0
    ∷ row 6 1 0 3 0 0 0 0 0 0 0
    ∷ row 2 0 0 0 0 0 0 0 0 0 0
    ∷ row 3 0 3 3 0 0 3 0 0 0 0
    ∷ row 3 0 2 0 0 0 2 0 0 0 0 ∷ [])
    (2 ∷ 0 ∷ 0 ∷ 0 ∷ 0 ∷ 0 ∷ 0 ∷ 0 ∷ 0 ∷ 1 ∷ [])
    ∷ viewed d 2 2 (12 ∷ 6 ∷ 0 ∷ [])
    (row 0 0 0 0 0 0 0 0 0 0 0
    ∷ row 6 1 0 6 0 0 0 0 0 0 0
    ∷ row 2 1 0 0 0 0 0 0 0 0 0
    ∷ row 3 1 1 0 0 0 1 0 0 0 0
    ∷ row 3 1 0 0 0 0 0 0 0 0 0 ∷ [])
    (0 ∷ 0 ∷ 0 ∷ 0 ∷ 0 ∷ 0 ∷ 0 ∷ 0 ∷ 0 ∷ 1 ∷ [])
    ∷ viewed d 3 0 (6 ∷ 6 ∷ 3 ∷ [])
    (row 1 0 6 0 0 0 6 0 0 0 0
    ∷ row 0 0 6 0 0 0 6 0 0 0 0
    ∷ row 0 0 6 1 0 0 6 0 0 0 0
    ∷ row 0 0 0 0 0 0 0 0 0 0 0
    ∷ row 0 0 3 1 0 1 2 0 0 0 0 ∷ [])
    (0 ∷ 0 ∷ 0 ∷ 6 ∷ 0 ∷ 0 ∷ 0 ∷ 0 ∷ 0 ∷ 0 ∷ [])
    ∷ viewed d 3 1 (9 ∷ 3 ∷ 0 ∷ [])
    (row 3 0 3 0 0 0 3 0 0 0 0
    ∷ row 1 0 3 0 0 0 3 0 0 0 0
    ∷ row 1 0 3 0 0 0 3 0 0 0 0
    ∷ row 1 0 0 0 0 0 0 0 0 0 0
    ∷ row 0 1 0 0 0 0 0 0 0 0 0 ∷ [])
    (0 ∷ 0 ∷ 0 ∷ 3 ∷ 0 ∷ 0 ∷ 0 ∷ 0 ∷ 0 ∷ 0 ∷ [])
    ∷ viewed d 3 2 (10 ∷ 1 ∷ 0 ∷ [])
    (row 3 0 1 0 0 0 1 0 0 0 0
    ∷ row 3 0 1 0 0 0 1 0 0 0 0
    ∷ row 2 0 1 0 0 0 1 0 0 0 0
    ∷ row 3 0 0 0 0 0 0 0 0 0 0
    ∷ row 0 1 0 0 0 0 0 0 0 0 0 ∷ [])
    (0 ∷ 0 ∷ 0 ∷ 1 ∷ 0 ∷ 0 ∷ 0 ∷ 0 ∷ 0 ∷ 0 ∷ [])
    ∷ viewed d 3 3 (12 ∷ 2 ∷ 0 ∷ [])
    (row 5 0 2 0 0 0 2 0 0 0 0
    ∷ row 4 0 2 0 0 0 2 0 0 0 0
    ∷ row 2 0 2 0 0 0 2 0 0 0 0
    ∷ row 4 0 0 0 0 0 0 (neg 2) (neg 2) 0 (neg 2)
    ∷ row 0 1 0 0 0 0 0 0 0 0 0 ∷ [])
    (0 ∷ 0 ∷ 0 ∷ 2 ∷ 0 ∷ 0 ∷ 0 ∷ 0 ∷ 0 ∷ 0 ∷ [])
    ∷ []

-- each line of the cutter: ends; five rows of uncapped prices; words of flags; how many are set. The uncapped prices are worked out from
-- the words above by document 01's sentence, since the third implementation's steps have capped ones
unfoldable pub pulled1_cuts_on : List ℕ → List Case
pulled1_cuts_on d =
    cut_into d 0 (5 ∷ 10 ∷ [])
    ((3 ∷ 6 ∷ []) ∷ (6 ∷ 6 ∷ []) ∷ (6 ∷ 6 ∷ [])
    ∷ (6 ∷ 6 ∷ []) ∷ (6 ∷ 6 ∷ []) ∷ [])
    (0 ∷ 3 ∷ 3 ∷ 3 ∷ 3 ∷ []) (0 ∷ 2 ∷ 2 ∷ 2 ∷ 2 ∷ [])
    ∷ cut_into d 1 (6 ∷ 8 ∷ 10 ∷ 11 ∷ 12 ∷ [])
    ((5 ∷ 4 ∷ 1 ∷ 1 ∷ 1 ∷ []) ∷ (5 ∷ 4 ∷ 4 ∷ 4 ∷ 4 ∷ []) ∷ (5 ∷ 5 ∷ 5 ∷ 4 ∷ 4 ∷ [])
    ∷ (2 ∷ 2 ∷ 2 ∷ 1 ∷ 1 ∷ []) ∷ (4 ∷ 4 ∷ 4 ∷ 2 ∷ 2 ∷ []) ∷ [])
    (16 ∷ 28 ∷ 0 ∷ 0 ∷ 0 ∷ []) (1 ∷ 3 ∷ 0 ∷ 0 ∷ 0 ∷ [])
    ∷ cut_into d 2 (3 ∷ 6 ∷ 12 ∷ [])
    ((6 ∷ 0 ∷ 0 ∷ []) ∷ (6 ∷ 6 ∷ 6 ∷ []) ∷ (5 ∷ 5 ∷ 5 ∷ [])
    ∷ (3 ∷ 3 ∷ 3 ∷ []) ∷ (3 ∷ 3 ∷ 3 ∷ []) ∷ [])
    (0 ∷ 6 ∷ 4 ∷ 4 ∷ 4 ∷ []) (0 ∷ 2 ∷ 1 ∷ 1 ∷ 1 ∷ [])
    ∷ cut_into d 3 (6 ∷ 9 ∷ 10 ∷ 12 ∷ [])
    ((1 ∷ 3 ∷ 3 ∷ 5 ∷ []) ∷ (0 ∷ 1 ∷ 3 ∷ 4 ∷ []) ∷ (0 ∷ 1 ∷ 3 ∷ 4 ∷ [])
    ∷ (0 ∷ 1 ∷ 3 ∷ 4 ∷ []) ∷ (0 ∷ 0 ∷ 0 ∷ 0 ∷ []) ∷ [])
    (0 ∷ 0 ∷ 0 ∷ 0 ∷ 14 ∷ []) (0 ∷ 0 ∷ 0 ∷ 0 ∷ 3 ∷ [])
    ∷ []

-- it is accepted; its book, in a lent one a byte longer; its report; every step of every line; every line
unfoldable pub pulled1_cases_on : List ℕ → List Case
pulled1_cases_on d =
    number (day_fault d) 0 ∷ booked d (replicate 321 170) (pulled1_book ++ (170 ∷ []))
    ∷ printed d pulled1_text ∷ (pulled1_views_on d ++ pulled1_cuts_on d)

unfoldable pub pulled1_cases : List Case
pulled1_cases = pulled1_cases_on pulled1_day

-- all of this file, opened
unfoldable pub pulled1_opened : ℕ
unfolding pulled1_words pulled1_day pulled1_book pulled1_text pulled1_views_on pulled1_cuts_on pulled1_cases_on pulled1_cases
pulled1_opened = 0
