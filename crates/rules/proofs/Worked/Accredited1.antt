-- Accredited 1: an injection and a withdrawal that are accredited all day, and a withdrawal that is accredited in schedules 2 to 4 (46), clawback on.
-- The mark of schedule 4 with APC 0 makes prices 0. The falls of line 1 in schedule 4 have a share of the pool (T 20, B 9).
-- By the third implementation.
use Rattle.std.specs.Prelude.{ℕ, List, [], ◌∷◌, ◌++◌, replicate}
use Rattle.rules.proofs.Worked.Cases.{Case, concat, bytes_of, lines_of, bid, neg, row, number, booked, printed, viewed, cut_into}
use Rattle.rules.specs.Refusals.{day_fault}

unfoldable pub accredited1_words : List ℕ
accredited1_words =
    concat
    ((3 ∷ 16 ∷ 64 ∷ 2044 ∷ [])
    -- market prices, cap marks, APC, clawback
    ∷ (1 ∷ 0 ∷ 5 ∷ 4 ∷ 1 ∷ []) ∷ (0 ∷ 0 ∷ 0 ∷ 1 ∷ 0 ∷ []) ∷ (0 ∷ 1 ∷ [])
    -- line 0: participant, point, side, accreditation, hedge; bids; pricing rows; operating rows; actuals
    ∷ (101 ∷ 3 ∷ 0 ∷ 1 ∷ 0 ∷ [])
    ∷ bid (12 ∷ []) (1 ∷ [])
    ∷ bid (12 ∷ []) (5 ∷ [])
    ∷ bid (12 ∷ []) (5 ∷ [])
    ∷ bid (12 ∷ []) (3 ∷ [])
    ∷ bid (12 ∷ []) (3 ∷ [])
    ∷ (0 ∷ 10 ∷ 2 ∷ 0 ∷ 0 ∷ []) ∷ (0 ∷ 0 ∷ 1 ∷ 1 ∷ []) ∷ (0 ∷ 0 ∷ 0 ∷ []) ∷ (0 ∷ 12 ∷ []) ∷ (0 ∷ [])
    ∷ (0 ∷ 1 ∷ 0 ∷ 4 ∷ 0 ∷ []) ∷ (0 ∷ 1 ∷ 0 ∷ 4 ∷ 0 ∷ []) ∷ (0 ∷ 0 ∷ 2 ∷ 5 ∷ 5 ∷ []) ∷ (0 ∷ 0 ∷ 2 ∷ 5 ∷ 5 ∷ []) ∷ (0 ∷ 0 ∷ 0 ∷ 0 ∷ 0 ∷ [])
    ∷ (0 ∷ 75 ∷ 17 ∷ 66 ∷ 0 ∷ [])
    -- line 1: participant, point, side, accreditation, hedge; bids; pricing rows; operating rows; actuals
    ∷ (1 ∷ 4294967295 ∷ 1 ∷ 46 ∷ 0 ∷ [])
    ∷ bid (5 ∷ 9 ∷ 10 ∷ 11 ∷ []) (6 ∷ 6 ∷ 6 ∷ 0 ∷ [])
    ∷ bid (5 ∷ 9 ∷ 10 ∷ []) (6 ∷ 6 ∷ 6 ∷ [])
    ∷ bid (8 ∷ 12 ∷ []) (6 ∷ 6 ∷ [])
    ∷ bid (8 ∷ 12 ∷ []) (6 ∷ 6 ∷ [])
    ∷ bid (8 ∷ []) (6 ∷ [])
    ∷ (0 ∷ 0 ∷ 0 ∷ 0 ∷ 0 ∷ []) ∷ (0 ∷ 3 ∷ 0 ∷ 1 ∷ []) ∷ (0 ∷ 0 ∷ 0 ∷ []) ∷ (0 ∷ 0 ∷ []) ∷ (0 ∷ [])
    ∷ (0 ∷ 0 ∷ 0 ∷ 0 ∷ 0 ∷ []) ∷ (0 ∷ 1 ∷ 2 ∷ 1 ∷ 2 ∷ []) ∷ (0 ∷ 7 ∷ 2 ∷ 3 ∷ 0 ∷ []) ∷ (0 ∷ 0 ∷ 1 ∷ 2 ∷ 0 ∷ []) ∷ (0 ∷ 1 ∷ 2 ∷ 1 ∷ 0 ∷ [])
    ∷ (0 ∷ 1 ∷ 0 ∷ 1 ∷ 0 ∷ [])
    -- line 2: participant, point, side, accreditation, hedge; bids; pricing rows; operating rows; actuals
    ∷ (100 ∷ 3 ∷ 1 ∷ 1 ∷ 0 ∷ [])
    ∷ bid (1 ∷ 12 ∷ []) (6 ∷ 5 ∷ [])
    ∷ bid (1 ∷ 12 ∷ []) (6 ∷ 5 ∷ [])
    ∷ bid (1 ∷ 12 ∷ []) (6 ∷ 5 ∷ [])
    ∷ bid (1 ∷ []) (4 ∷ [])
    ∷ bid (1 ∷ []) (4 ∷ [])
    ∷ (0 ∷ 0 ∷ 0 ∷ 0 ∷ 0 ∷ []) ∷ (0 ∷ 0 ∷ 0 ∷ 0 ∷ []) ∷ (0 ∷ 0 ∷ 0 ∷ []) ∷ (0 ∷ 0 ∷ []) ∷ (0 ∷ [])
    ∷ (0 ∷ 0 ∷ 1 ∷ 0 ∷ 0 ∷ []) ∷ (0 ∷ 0 ∷ 0 ∷ 0 ∷ 0 ∷ []) ∷ (0 ∷ 0 ∷ 0 ∷ 0 ∷ 0 ∷ []) ∷ (0 ∷ 0 ∷ 0 ∷ 0 ∷ 5 ∷ []) ∷ (0 ∷ 0 ∷ 0 ∷ 0 ∷ 0 ∷ [])
    ∷ (0 ∷ 0 ∷ 1 ∷ 0 ∷ 0 ∷ [])
    ∷ [])

unfoldable pub accredited1_day : List ℕ
accredited1_day = bytes_of accredited1_words

-- the book, as words: n, 16, 96, 96 + 56n; five pairs t, a; of each line participant, point, side, count and payments, low word first
unfoldable pub accredited1_book : List ℕ
accredited1_book =
    bytes_of
    (concat
    ((3 ∷ 16 ∷ 96 ∷ 264 ∷ [])
    ∷ (0 ∷ 0 ∷ 0 ∷ 0 ∷ 0 ∷ 0 ∷ 0 ∷ 0 ∷ 0 ∷ 0 ∷ 0 ∷ 0 ∷ 2 ∷ 0 ∷ 0 ∷ 0 ∷ 4294967278 ∷ 4294967295 ∷ 4294967280 ∷ 4294967295 ∷ [])
    ∷ (101 ∷ 3 ∷ 0 ∷ 1 ∷ 0 ∷ 0 ∷ 0 ∷ 0 ∷ 0 ∷ 0 ∷ 0 ∷ 0 ∷ 4294967278 ∷ 4294967295 ∷ [])
    ∷ (1 ∷ 4294967295 ∷ 1 ∷ 6 ∷ 0 ∷ 0 ∷ 0 ∷ 0 ∷ 0 ∷ 0 ∷ 4294967278 ∷ 4294967295 ∷ 0 ∷ 0 ∷ [])
    ∷ (100 ∷ 3 ∷ 1 ∷ 2 ∷ 0 ∷ 0 ∷ 0 ∷ 0 ∷ 0 ∷ 0 ∷ 20 ∷ 0 ∷ 0 ∷ 0 ∷ [])
    ∷ []))

unfoldable pub accredited1_text : List ℕ
accredited1_text =
    lines_of
    ("day 3"
    ∷ "101 3 INJ 1 0 0 0 0 -18"
    ∷ "1 4294967295 WDR 6 0 0 0 -18 0"
    ∷ "100 3 WDR 2 0 0 0 20 0"
    ∷ "total 0 0 0 2 -18"
    ∷ "adjusted 0 0 0 0 -16"
    ∷ [])

-- each step: line, step; end, width, A; five rows of price, flag, O, E, AGINO, MSIQ, C, initial, revised, modified, final; the ten matches
unfoldable pub accredited1_views_on : List ℕ → List Case
accredited1_views_on d =
    viewed d 0 0 (12 ∷ 12 ∷ 0 ∷ [])
    (row 1 0 5 12 0 2 3 0 0 0 0
    ∷ row 5 0 5 2 0 2 3 0 0 0 0
    ∷ row 5 0 12 0 0 0 12 0 0 0 0
    ∷ row 0 0 12 12 0 0 12 0 0 0 0
    ∷ row 3 0 0 0 0 0 0 (neg 24) (neg 18) 0 (neg 18) ∷ [])
    (0 ∷ 0 ∷ 0 ∷ 0 ∷ 0 ∷ 0 ∷ 3 ∷ 0 ∷ 9 ∷ 0 ∷ [])
    ∷ viewed d 1 0 (5 ∷ 5 ∷ 2 ∷ [])
    (row 6 0 0 0 0 0 0 0 0 0 0
    ∷ row 6 0 5 4 1 0 4 0 0 0 0
    ∷ row 6 0 5 0 1 0 4 0 0 0 0
    ∷ row 0 0 3 0 1 0 2 (neg 8) 0 0 (neg 4)
    ∷ row 6 0 4 0 2 0 2 0 0 0 0 ∷ [])
    (0 ∷ 0 ∷ 0 ∷ 0 ∷ 2 ∷ 0 ∷ 0 ∷ 0 ∷ 0 ∷ 0 ∷ [])
    ∷ viewed d 1 1 (8 ∷ 3 ∷ 0 ∷ [])
    (row 6 0 0 0 0 0 0 0 0 0 0
    ∷ row 6 0 1 0 0 0 1 0 0 0 0
    ∷ row 6 0 3 0 0 0 3 0 0 0 0
    ∷ row 0 0 0 0 0 0 0 (neg 12) 0 0 (neg 6)
    ∷ row 6 0 0 0 0 0 0 0 0 0 0 ∷ [])
    (0 ∷ 0 ∷ 0 ∷ 0 ∷ 1 ∷ 2 ∷ 0 ∷ 0 ∷ 0 ∷ 0 ∷ [])
    ∷ viewed d 1 2 (9 ∷ 1 ∷ 0 ∷ [])
    (row 6 0 0 0 0 0 0 0 0 0 0
    ∷ row 6 0 0 0 0 0 0 0 0 0 0
    ∷ row 6 0 1 0 0 0 1 0 0 0 0
    ∷ row 0 0 0 0 0 0 0 (neg 4) 0 0 (neg 2)
    ∷ row 6 1 0 0 0 0 0 0 0 0 0 ∷ [])
    (0 ∷ 0 ∷ 0 ∷ 0 ∷ 0 ∷ 1 ∷ 0 ∷ 0 ∷ 0 ∷ 0 ∷ [])
    ∷ viewed d 1 3 (10 ∷ 1 ∷ 0 ∷ [])
    (row 6 0 0 0 0 0 0 0 0 0 0
    ∷ row 6 0 0 0 0 0 0 0 0 0 0
    ∷ row 6 0 1 0 0 0 1 0 0 0 0
    ∷ row 0 0 0 0 0 0 0 (neg 4) 0 0 (neg 2)
    ∷ row 6 1 0 0 0 0 0 0 0 0 0 ∷ [])
    (0 ∷ 0 ∷ 0 ∷ 0 ∷ 0 ∷ 1 ∷ 0 ∷ 0 ∷ 0 ∷ 0 ∷ [])
    ∷ viewed d 1 4 (11 ∷ 1 ∷ 0 ∷ [])
    (row 0 0 0 0 0 0 0 0 0 0 0
    ∷ row 6 1 0 0 0 0 0 0 0 0 0
    ∷ row 6 0 1 0 0 0 1 0 0 0 0
    ∷ row 0 0 0 0 0 0 0 (neg 4) 0 0 (neg 2)
    ∷ row 6 1 0 0 0 0 0 0 0 0 0 ∷ [])
    (0 ∷ 0 ∷ 0 ∷ 0 ∷ 0 ∷ 1 ∷ 0 ∷ 0 ∷ 0 ∷ 0 ∷ [])
    ∷ viewed d 1 5 (12 ∷ 1 ∷ 0 ∷ [])
    (row 0 1 0 0 0 0 0 0 0 0 0
    ∷ row 6 1 0 0 0 0 0 0 0 0 0
    ∷ row 6 0 1 0 0 0 1 0 0 0 0
    ∷ row 0 0 0 0 0 0 0 (neg 4) 0 0 (neg 2)
    ∷ row 6 1 0 0 0 0 0 0 0 0 0 ∷ [])
    (0 ∷ 0 ∷ 0 ∷ 0 ∷ 0 ∷ 1 ∷ 0 ∷ 0 ∷ 0 ∷ 0 ∷ [])
    ∷ viewed d 2 0 (1 ∷ 1 ∷ 0 ∷ [])
    (row 6 0 1 0 0 0 1 0 0 0 0
    ∷ row 6 0 0 0 0 0 0 0 0 0 0
    ∷ row 6 0 0 0 0 0 0 0 0 0 0
    ∷ row 0 0 1 0 0 0 1 4 4 4 4
    ∷ row 4 0 0 0 0 0 0 0 0 0 0 ∷ [])
    (1 ∷ 0 ∷ 0 ∷ 0 ∷ 0 ∷ 0 ∷ 0 ∷ 0 ∷ 0 ∷ 1 ∷ [])
    ∷ viewed d 2 1 (12 ∷ 11 ∷ 0 ∷ [])
    (row 5 0 0 0 0 0 0 0 0 0 0
    ∷ row 5 0 0 0 0 0 0 0 0 0 0
    ∷ row 5 0 0 0 0 0 0 0 0 0 0
    ∷ row 0 1 4 0 0 0 4 16 16 16 16
    ∷ row 4 1 0 0 0 0 0 0 0 0 0 ∷ [])
    (0 ∷ 0 ∷ 0 ∷ 0 ∷ 0 ∷ 0 ∷ 0 ∷ 0 ∷ 0 ∷ 4 ∷ [])
    ∷ []

-- each line of the cutter: ends; five rows of uncapped prices; words of flags; how many are set. The uncapped prices are worked out from
-- the words above by document 01's sentence, since the third implementation's steps have capped ones
unfoldable pub accredited1_cuts_on : List ℕ → List Case
accredited1_cuts_on d =
    cut_into d 0 (12 ∷ [])
    ((1 ∷ []) ∷ (5 ∷ []) ∷ (5 ∷ [])
    ∷ (3 ∷ []) ∷ (3 ∷ []) ∷ [])
    (0 ∷ 0 ∷ 0 ∷ 0 ∷ 0 ∷ []) (0 ∷ 0 ∷ 0 ∷ 0 ∷ 0 ∷ [])
    ∷ cut_into d 1 (5 ∷ 8 ∷ 9 ∷ 10 ∷ 11 ∷ 12 ∷ [])
    ((6 ∷ 6 ∷ 6 ∷ 6 ∷ 0 ∷ 0 ∷ []) ∷ (6 ∷ 6 ∷ 6 ∷ 6 ∷ 6 ∷ 6 ∷ []) ∷ (6 ∷ 6 ∷ 6 ∷ 6 ∷ 6 ∷ 6 ∷ [])
    ∷ (6 ∷ 6 ∷ 6 ∷ 6 ∷ 6 ∷ 6 ∷ []) ∷ (6 ∷ 6 ∷ 6 ∷ 6 ∷ 6 ∷ 6 ∷ []) ∷ [])
    (32 ∷ 48 ∷ 0 ∷ 0 ∷ 60 ∷ []) (1 ∷ 2 ∷ 0 ∷ 0 ∷ 4 ∷ [])
    ∷ cut_into d 2 (1 ∷ 12 ∷ [])
    ((6 ∷ 5 ∷ []) ∷ (6 ∷ 5 ∷ []) ∷ (6 ∷ 5 ∷ [])
    ∷ (4 ∷ 4 ∷ []) ∷ (4 ∷ 4 ∷ []) ∷ [])
    (0 ∷ 0 ∷ 0 ∷ 2 ∷ 2 ∷ []) (0 ∷ 0 ∷ 0 ∷ 1 ∷ 1 ∷ [])
    ∷ []

-- it is accepted; its book, in a lent one a byte longer; its report; every step of every line; every line
unfoldable pub accredited1_cases_on : List ℕ → List Case
accredited1_cases_on d =
    number (day_fault d) 0 ∷ booked d (replicate 265 170) (accredited1_book ++ (170 ∷ []))
    ∷ printed d accredited1_text ∷ (accredited1_views_on d ++ accredited1_cuts_on d)

unfoldable pub accredited1_cases : List Case
accredited1_cases = accredited1_cases_on accredited1_day

-- all of this file, opened
unfoldable pub accredited1_opened : ℕ
unfolding accredited1_words accredited1_day accredited1_book accredited1_text accredited1_views_on accredited1_cuts_on accredited1_cases_on accredited1_cases
accredited1_opened = 0
