-- Excess 2: an operating total above M in schedule 4 on an injection, beside a withdrawal with a fall. By the third implementation.
use Rattle.std.specs.Prelude.{ℕ, List, [], ◌∷◌, ◌++◌, replicate}
use Rattle.rules.proofs.Worked.Cases.{Case, concat, bytes_of, lines_of, bid, neg, row, number, booked, printed, viewed, viewed_over, cut_into}
use Rattle.rules.specs.Refusals.{day_fault}

unfoldable pub excess2_words : List ℕ
excess2_words =
    concat
    ((2 ∷ 16 ∷ 64 ∷ 1384 ∷ [])
    -- market prices, cap marks, APC, clawback
    ∷ (3 ∷ 6 ∷ 2 ∷ 4 ∷ 6 ∷ []) ∷ (0 ∷ 0 ∷ 0 ∷ 0 ∷ 0 ∷ []) ∷ (4 ∷ 1 ∷ [])
    -- line 0: participant, point, side, accreditation, hedge; bids; pricing rows; operating rows; actuals
    ∷ (7 ∷ 2 ∷ 1 ∷ 42 ∷ 0 ∷ [])
    ∷ bid (1 ∷ 3 ∷ 5 ∷ 8 ∷ 10 ∷ 11 ∷ []) (6 ∷ 4 ∷ 3 ∷ 2 ∷ 1 ∷ 1 ∷ [])
    ∷ bid (3 ∷ 5 ∷ 7 ∷ 10 ∷ 12 ∷ []) (6 ∷ 4 ∷ 3 ∷ 2 ∷ 1 ∷ [])
    ∷ bid [] []
    ∷ bid (3 ∷ 5 ∷ 7 ∷ 10 ∷ 12 ∷ []) (6 ∷ 5 ∷ 2 ∷ 0 ∷ 0 ∷ [])
    ∷ bid (3 ∷ 5 ∷ 7 ∷ 10 ∷ 12 ∷ []) (6 ∷ 5 ∷ 2 ∷ 0 ∷ 0 ∷ [])
    ∷ (0 ∷ 0 ∷ 0 ∷ 0 ∷ 0 ∷ []) ∷ (0 ∷ 1 ∷ 2 ∷ 0 ∷ []) ∷ (0 ∷ 0 ∷ 2 ∷ []) ∷ (0 ∷ 9 ∷ []) ∷ (0 ∷ [])
    ∷ (0 ∷ 5 ∷ 0 ∷ 2 ∷ 3 ∷ []) ∷ (0 ∷ 0 ∷ 2 ∷ 0 ∷ 0 ∷ []) ∷ (0 ∷ 0 ∷ 2 ∷ 0 ∷ 0 ∷ []) ∷ (0 ∷ 2 ∷ 0 ∷ 0 ∷ 0 ∷ []) ∷ (1 ∷ 5 ∷ 0 ∷ 3 ∷ 3 ∷ [])
    ∷ (0 ∷ 73 ∷ 0 ∷ 3 ∷ 3 ∷ [])
    -- line 1: participant, point, side, accreditation, hedge; bids; pricing rows; operating rows; actuals
    ∷ (101 ∷ 4294967295 ∷ 0 ∷ 58 ∷ 12 ∷ [])
    ∷ bid (3 ∷ 5 ∷ 8 ∷ 9 ∷ 10 ∷ 12 ∷ []) (0 ∷ 0 ∷ 0 ∷ 6 ∷ 6 ∷ 6 ∷ [])
    ∷ bid [] []
    ∷ bid [] []
    ∷ bid [] []
    ∷ bid [] []
    ∷ (0 ∷ 0 ∷ 3 ∷ 0 ∷ 0 ∷ []) ∷ (0 ∷ 2 ∷ 1 ∷ 0 ∷ []) ∷ (0 ∷ 0 ∷ 0 ∷ []) ∷ (0 ∷ 0 ∷ []) ∷ (1 ∷ [])
    ∷ (0 ∷ 1 ∷ 1 ∷ 1 ∷ 1 ∷ []) ∷ (0 ∷ 1 ∷ 1 ∷ 0 ∷ 2 ∷ []) ∷ (0 ∷ 0 ∷ 0 ∷ 0 ∷ 0 ∷ []) ∷ (29 ∷ 3 ∷ 8 ∷ 25 ∷ 3 ∷ []) ∷ (0 ∷ 10 ∷ 0 ∷ 0 ∷ 0 ∷ [])
    ∷ (0 ∷ 4 ∷ 0 ∷ 0 ∷ 0 ∷ [])
    ∷ [])

unfoldable pub excess2_day : List ℕ
excess2_day = bytes_of excess2_words

-- the book, as words: n, 16, 96, 96 + 56n; five pairs t, a; of each line participant, point, side, count and payments, low word first
unfoldable pub excess2_book : List ℕ
excess2_book =
    bytes_of
    (concat
    ((2 ∷ 16 ∷ 96 ∷ 208 ∷ [])
    ∷ (0 ∷ 0 ∷ 0 ∷ 0 ∷ 4294967274 ∷ 4294967295 ∷ 4294967274 ∷ 4294967295 ∷ 0 ∷ 0 ∷ 0 ∷ 0 ∷ 0 ∷ 0 ∷ 0 ∷ 0 ∷ 0 ∷ 0 ∷ 0 ∷ 0 ∷ [])
    ∷ (7 ∷ 2 ∷ 1 ∷ 8 ∷ 0 ∷ 0 ∷ 4294967274 ∷ 4294967295 ∷ 0 ∷ 0 ∷ 0 ∷ 0 ∷ 0 ∷ 0 ∷ [])
    ∷ (101 ∷ 4294967295 ∷ 0 ∷ 6 ∷ 0 ∷ 0 ∷ 0 ∷ 0 ∷ 0 ∷ 0 ∷ 0 ∷ 0 ∷ 0 ∷ 0 ∷ [])
    ∷ []))

unfoldable pub excess2_text : List ℕ
excess2_text =
    lines_of
    ("day 2"
    ∷ "7 2 WDR 8 0 -22 0 0 0"
    ∷ "101 4294967295 INJ 6 0 0 0 0 0"
    ∷ "total 0 -22 0 0 0"
    ∷ "adjusted 0 -22 0 0 0"
    ∷ [])

-- each step: line, step; end, width, A; five rows of price, flag, O, E, AGINO, MSIQ, C, initial, revised, modified, final; the ten matches;
-- where the line has an excess, that of pricing, of operating and of the effective actual
unfoldable pub excess2_views_on : List ℕ → List Case
excess2_views_on d =
    viewed d 0 0 (1 ∷ 1 ∷ 1 ∷ [])
    (row 6 0 1 0 0 0 1 0 0 0 0
    ∷ row 6 0 1 1 0 1 0 0 0 0 0
    ∷ row 1 1 1 1 0 1 0 0 0 0 0
    ∷ row 6 0 1 1 0 0 1 0 0 0 0
    ∷ row 6 0 1 0 0 0 1 0 0 0 0 ∷ [])
    (1 ∷ 0 ∷ 0 ∷ 0 ∷ 0 ∷ 0 ∷ 0 ∷ 0 ∷ 0 ∷ 0 ∷ [])
    ∷ viewed d 0 1 (3 ∷ 2 ∷ 2 ∷ [])
    (row 4 0 2 0 0 0 2 0 0 0 0
    ∷ row 6 0 1 2 0 1 0 0 0 0 0
    ∷ row 1 1 1 1 0 1 0 0 0 0 0
    ∷ row 6 0 1 2 0 0 1 0 0 0 0
    ∷ row 6 0 2 0 0 0 2 0 0 0 0 ∷ [])
    (2 ∷ 0 ∷ 0 ∷ 0 ∷ 0 ∷ 0 ∷ 0 ∷ 0 ∷ 0 ∷ 0 ∷ [])
    ∷ viewed d 0 2 (5 ∷ 2 ∷ 2 ∷ [])
    (row 3 0 2 0 0 0 2 0 0 0 0
    ∷ row 4 0 0 0 0 0 0 (neg 4) (neg 4) 0 (neg 4)
    ∷ row 1 1 0 0 0 0 0 0 0 0 0
    ∷ row 5 0 0 2 0 0 0 0 0 0 0
    ∷ row 5 0 2 0 0 0 2 0 0 0 0 ∷ [])
    (2 ∷ 0 ∷ 0 ∷ 0 ∷ 0 ∷ 0 ∷ 0 ∷ 0 ∷ 0 ∷ 0 ∷ [])
    ∷ viewed d 0 3 (7 ∷ 2 ∷ 2 ∷ [])
    (row 2 0 2 0 0 0 2 0 0 0 0
    ∷ row 3 0 0 0 0 0 0 (neg 6) (neg 6) (neg 2) (neg 6)
    ∷ row 1 1 0 0 0 0 0 0 0 0 0
    ∷ row 2 0 0 2 0 2 0 0 0 0 0
    ∷ row 2 0 2 0 0 0 2 0 0 0 0 ∷ [])
    (2 ∷ 0 ∷ 0 ∷ 0 ∷ 0 ∷ 0 ∷ 0 ∷ 0 ∷ 0 ∷ 0 ∷ [])
    ∷ viewed d 0 4 (8 ∷ 1 ∷ 1 ∷ [])
    (row 2 0 1 0 0 0 1 0 0 0 0
    ∷ row 2 0 0 0 0 0 0 (neg 4) (neg 4) (neg 1) (neg 4)
    ∷ row 1 1 0 0 0 0 0 0 0 0 0
    ∷ row 0 0 0 1 0 1 0 0 0 0 0
    ∷ row 0 0 1 0 0 0 1 0 0 0 0 ∷ [])
    (1 ∷ 0 ∷ 0 ∷ 0 ∷ 0 ∷ 0 ∷ 0 ∷ 0 ∷ 0 ∷ 0 ∷ [])
    ∷ viewed d 0 5 (10 ∷ 2 ∷ 2 ∷ [])
    (row 1 0 2 0 0 0 2 0 0 0 0
    ∷ row 2 0 0 0 0 0 0 (neg 8) (neg 8) (neg 4) (neg 8)
    ∷ row 1 1 0 0 0 0 0 0 0 0 0
    ∷ row 0 0 0 1 0 1 0 0 0 0 0
    ∷ row 0 0 2 0 0 0 2 0 0 0 0 ∷ [])
    (2 ∷ 0 ∷ 0 ∷ 0 ∷ 0 ∷ 0 ∷ 0 ∷ 0 ∷ 0 ∷ 0 ∷ [])
    ∷ viewed d 0 6 (11 ∷ 1 ∷ 1 ∷ [])
    (row 1 0 0 0 0 0 0 0 0 0 0
    ∷ row 1 0 0 0 0 0 0 0 0 0 0
    ∷ row 1 1 0 0 0 0 0 0 0 0 0
    ∷ row 0 0 0 0 0 0 0 0 0 0 0
    ∷ row 0 0 1 0 0 0 1 0 0 0 0 ∷ [])
    (0 ∷ 0 ∷ 0 ∷ 0 ∷ 0 ∷ 0 ∷ 0 ∷ 0 ∷ 0 ∷ 0 ∷ [])
    ∷ viewed d 0 7 (12 ∷ 1 ∷ 0 ∷ [])
    (row 1 1 0 0 0 0 0 0 0 0 0
    ∷ row 1 0 0 0 0 0 0 0 0 0 0
    ∷ row 1 1 0 0 0 0 0 0 0 0 0
    ∷ row 0 0 0 0 0 0 0 0 0 0 0
    ∷ row 0 0 1 0 1 0 0 0 0 0 0 ∷ [])
    (0 ∷ 0 ∷ 0 ∷ 0 ∷ 0 ∷ 0 ∷ 0 ∷ 0 ∷ 0 ∷ 0 ∷ [])
    ∷ viewed_over d 1 0 (3 ∷ 3 ∷ 3 ∷ [])
    (row 0 0 3 3 0 0 3 0 0 0 0
    ∷ row 6 1 3 3 0 0 3 0 0 0 0
    ∷ row 6 1 0 0 0 0 0 0 0 0 0
    ∷ row 6 1 3 0 0 0 3 0 0 0 0
    ∷ row 6 1 3 1 0 1 2 0 0 0 0 ∷ [])
    (0 ∷ 3 ∷ 0 ∷ 0 ∷ 0 ∷ 0 ∷ 0 ∷ 0 ∷ 0 ∷ 1 ∷ [])
    (0 ∷ 0 ∷ 0 ∷ 0 ∷ 0 ∷ []) (0 ∷ 0 ∷ 0 ∷ 56 ∷ 0 ∷ []) 0
    ∷ viewed_over d 1 1 (5 ∷ 2 ∷ 1 ∷ [])
    (row 0 0 1 0 0 0 1 0 0 0 0
    ∷ row 6 1 1 0 0 0 1 0 0 0 0
    ∷ row 6 1 0 0 0 0 0 0 0 0 0
    ∷ row 6 1 2 0 1 0 1 0 0 0 0
    ∷ row 6 1 2 0 1 0 1 0 0 0 0 ∷ [])
    (0 ∷ 1 ∷ 0 ∷ 0 ∷ 0 ∷ 0 ∷ 0 ∷ 0 ∷ 0 ∷ 0 ∷ [])
    (0 ∷ 0 ∷ 0 ∷ 0 ∷ 0 ∷ []) (0 ∷ 0 ∷ 0 ∷ 56 ∷ 0 ∷ []) 0
    ∷ viewed_over d 1 2 (8 ∷ 3 ∷ 0 ∷ [])
    (row 0 0 0 0 0 0 0 0 0 0 0
    ∷ row 6 1 0 0 0 0 0 0 0 0 0
    ∷ row 6 1 0 0 0 0 0 0 0 0 0
    ∷ row 6 1 3 0 3 0 0 0 0 0 0
    ∷ row 6 1 3 0 3 0 0 0 0 0 0 ∷ [])
    (0 ∷ 0 ∷ 0 ∷ 0 ∷ 0 ∷ 0 ∷ 0 ∷ 0 ∷ 0 ∷ 0 ∷ [])
    (0 ∷ 0 ∷ 0 ∷ 0 ∷ 0 ∷ []) (0 ∷ 0 ∷ 0 ∷ 56 ∷ 0 ∷ []) 0
    ∷ viewed_over d 1 3 (9 ∷ 1 ∷ 0 ∷ [])
    (row 6 0 0 0 0 0 0 0 0 0 0
    ∷ row 6 1 0 0 0 0 0 0 0 0 0
    ∷ row 6 1 0 0 0 0 0 0 0 0 0
    ∷ row 6 1 1 0 1 0 0 0 0 0 0
    ∷ row 6 1 1 0 1 0 0 0 0 0 0 ∷ [])
    (0 ∷ 0 ∷ 0 ∷ 0 ∷ 0 ∷ 0 ∷ 0 ∷ 0 ∷ 0 ∷ 0 ∷ [])
    (0 ∷ 0 ∷ 0 ∷ 0 ∷ 0 ∷ []) (0 ∷ 0 ∷ 0 ∷ 56 ∷ 0 ∷ []) 0
    ∷ viewed_over d 1 4 (10 ∷ 1 ∷ 0 ∷ [])
    (row 6 0 0 0 0 0 0 0 0 0 0
    ∷ row 6 1 0 0 0 0 0 0 0 0 0
    ∷ row 6 1 0 0 0 0 0 0 0 0 0
    ∷ row 6 1 1 0 1 0 0 0 0 0 0
    ∷ row 6 1 1 0 1 0 0 0 0 0 0 ∷ [])
    (0 ∷ 0 ∷ 0 ∷ 0 ∷ 0 ∷ 0 ∷ 0 ∷ 0 ∷ 0 ∷ 0 ∷ [])
    (0 ∷ 0 ∷ 0 ∷ 0 ∷ 0 ∷ []) (0 ∷ 0 ∷ 0 ∷ 56 ∷ 0 ∷ []) 0
    ∷ viewed_over d 1 5 (12 ∷ 2 ∷ 0 ∷ [])
    (row 6 0 0 0 0 0 0 0 0 0 0
    ∷ row 6 1 0 0 0 0 0 0 0 0 0
    ∷ row 6 1 0 0 0 0 0 0 0 0 0
    ∷ row 6 1 2 0 0 0 2 0 0 0 0
    ∷ row 6 1 0 0 0 0 0 0 0 0 0 ∷ [])
    (0 ∷ 0 ∷ 0 ∷ 0 ∷ 0 ∷ 0 ∷ 0 ∷ 0 ∷ 0 ∷ 2 ∷ [])
    (0 ∷ 0 ∷ 0 ∷ 0 ∷ 0 ∷ []) (0 ∷ 0 ∷ 0 ∷ 56 ∷ 0 ∷ []) 0
    ∷ []

-- each line of the cutter: ends; five rows of uncapped prices; words of flags; how many are set. The uncapped prices are worked out from
-- the words above by document 01's sentence, since the third implementation's steps have capped ones
unfoldable pub excess2_cuts_on : List ℕ → List Case
excess2_cuts_on d =
    cut_into d 0 (1 ∷ 3 ∷ 5 ∷ 7 ∷ 8 ∷ 10 ∷ 11 ∷ 12 ∷ [])
    ((6 ∷ 4 ∷ 3 ∷ 2 ∷ 2 ∷ 1 ∷ 1 ∷ 1 ∷ []) ∷ (6 ∷ 6 ∷ 4 ∷ 3 ∷ 2 ∷ 2 ∷ 1 ∷ 1 ∷ []) ∷ (1 ∷ 1 ∷ 1 ∷ 1 ∷ 1 ∷ 1 ∷ 1 ∷ 1 ∷ [])
    ∷ (6 ∷ 6 ∷ 5 ∷ 2 ∷ 0 ∷ 0 ∷ 0 ∷ 0 ∷ []) ∷ (6 ∷ 6 ∷ 5 ∷ 2 ∷ 0 ∷ 0 ∷ 0 ∷ 0 ∷ []) ∷ [])
    (128 ∷ 0 ∷ 255 ∷ 0 ∷ 0 ∷ []) (1 ∷ 0 ∷ 8 ∷ 0 ∷ 0 ∷ [])
    ∷ cut_into d 1 (3 ∷ 5 ∷ 8 ∷ 9 ∷ 10 ∷ 12 ∷ [])
    ((0 ∷ 0 ∷ 0 ∷ 6 ∷ 6 ∷ 6 ∷ []) ∷ (6 ∷ 6 ∷ 6 ∷ 6 ∷ 6 ∷ 6 ∷ []) ∷ (6 ∷ 6 ∷ 6 ∷ 6 ∷ 6 ∷ 6 ∷ [])
    ∷ (6 ∷ 6 ∷ 6 ∷ 6 ∷ 6 ∷ 6 ∷ []) ∷ (6 ∷ 6 ∷ 6 ∷ 6 ∷ 6 ∷ 6 ∷ []) ∷ [])
    (0 ∷ 63 ∷ 63 ∷ 63 ∷ 63 ∷ []) (0 ∷ 6 ∷ 6 ∷ 6 ∷ 6 ∷ [])
    ∷ []

-- it is accepted; its book, in a lent one a byte longer; its report; every step of every line; every line
unfoldable pub excess2_cases_on : List ℕ → List Case
excess2_cases_on d =
    number (day_fault d) 0 ∷ booked d (replicate 209 170) (excess2_book ++ (170 ∷ []))
    ∷ printed d excess2_text ∷ (excess2_views_on d ++ excess2_cuts_on d)

unfoldable pub excess2_cases : List Case
excess2_cases = excess2_cases_on excess2_day

-- all of this file, opened
unfoldable pub excess2_opened : ℕ
unfolding excess2_words excess2_day excess2_book excess2_text excess2_views_on excess2_cuts_on excess2_cases_on excess2_cases
excess2_opened = 0
