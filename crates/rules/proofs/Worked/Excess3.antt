-- Excess 3: operating totals above M in three schedules with an effective actual above M on an injection, pricing totals above M in two
-- schedules on a withdrawal. By the third implementation.
use Rattle.std.specs.Prelude.{ℕ, List, [], ◌∷◌, ◌++◌, replicate}
use Rattle.rules.proofs.Worked.Cases.{Case, concat, bytes_of, lines_of, bid, neg, row, number, booked, printed, viewed_over, cut_into}
use Rattle.rules.specs.Refusals.{day_fault}

unfoldable pub excess3_words : List ℕ
excess3_words =
    concat
    ((2 ∷ 16 ∷ 64 ∷ 1384 ∷ [])
    -- market prices, cap marks, APC, clawback
    ∷ (6 ∷ 0 ∷ 0 ∷ 6 ∷ 6 ∷ []) ∷ (0 ∷ 0 ∷ 0 ∷ 1 ∷ 0 ∷ []) ∷ (1 ∷ 1 ∷ [])
    -- line 0: participant, point, side, accreditation, hedge; bids; pricing rows; operating rows; actuals
    ∷ (100 ∷ 4294967295 ∷ 0 ∷ 32 ∷ 9 ∷ [])
    ∷ bid (1 ∷ 3 ∷ 4 ∷ 12 ∷ []) (2 ∷ 3 ∷ 3 ∷ 5 ∷ [])
    ∷ bid (1 ∷ 3 ∷ 4 ∷ []) (2 ∷ 3 ∷ 3 ∷ [])
    ∷ bid (2 ∷ 4 ∷ 5 ∷ []) (2 ∷ 3 ∷ 3 ∷ [])
    ∷ bid (2 ∷ 4 ∷ 5 ∷ []) (2 ∷ 3 ∷ 3 ∷ [])
    ∷ bid [] []
    ∷ (0 ∷ 0 ∷ 0 ∷ 0 ∷ 0 ∷ []) ∷ (0 ∷ 0 ∷ 1 ∷ 0 ∷ []) ∷ (0 ∷ 0 ∷ 0 ∷ []) ∷ (0 ∷ 0 ∷ []) ∷ (0 ∷ [])
    ∷ (2 ∷ 2 ∷ 1 ∷ 3 ∷ 3 ∷ []) ∷ (0 ∷ 0 ∷ 0 ∷ 13 ∷ 0 ∷ []) ∷ (66 ∷ 82 ∷ 95 ∷ 266 ∷ 503 ∷ []) ∷ (5 ∷ 0 ∷ 0 ∷ 2 ∷ 4 ∷ []) ∷ (0 ∷ 875 ∷ 0 ∷ 0 ∷ 0 ∷ [])
    ∷ (72 ∷ 951 ∷ 0 ∷ 0 ∷ 47 ∷ [])
    -- line 1: participant, point, side, accreditation, hedge; bids; pricing rows; operating rows; actuals
    ∷ (0 ∷ 3 ∷ 1 ∷ 63 ∷ 0 ∷ [])
    ∷ bid (2 ∷ 12 ∷ []) (5 ∷ 0 ∷ [])
    ∷ bid (1 ∷ 8 ∷ 11 ∷ []) (6 ∷ 5 ∷ 3 ∷ [])
    ∷ bid (1 ∷ []) (6 ∷ [])
    ∷ bid [] []
    ∷ bid (4 ∷ 8 ∷ []) (5 ∷ 0 ∷ [])
    ∷ (0 ∷ 0 ∷ 0 ∷ 0 ∷ 1 ∷ []) ∷ (0 ∷ 262 ∷ 92 ∷ 40 ∷ []) ∷ (0 ∷ 8 ∷ 5 ∷ []) ∷ (0 ∷ 0 ∷ []) ∷ (0 ∷ [])
    ∷ (0 ∷ 9 ∷ 0 ∷ 0 ∷ 0 ∷ []) ∷ (0 ∷ 9 ∷ 0 ∷ 0 ∷ 0 ∷ []) ∷ (2 ∷ 1 ∷ 0 ∷ 3 ∷ 1 ∷ []) ∷ (2 ∷ 1 ∷ 0 ∷ 3 ∷ 1 ∷ []) ∷ (0 ∷ 0 ∷ 0 ∷ 1 ∷ 0 ∷ [])
    ∷ (0 ∷ 0 ∷ 5 ∷ 2 ∷ 0 ∷ [])
    ∷ [])

unfoldable pub excess3_day : List ℕ
excess3_day = bytes_of excess3_words

-- the book, as words: n, 16, 96, 96 + 56n; five pairs t, a; of each line participant, point, side, count and payments, low word first
unfoldable pub excess3_book : List ℕ
excess3_book =
    bytes_of
    (concat
    ((2 ∷ 16 ∷ 96 ∷ 208 ∷ [])
    ∷ (43 ∷ 0 ∷ 22 ∷ 0 ∷ 0 ∷ 0 ∷ 0 ∷ 0 ∷ 0 ∷ 0 ∷ 0 ∷ 0 ∷ 0 ∷ 0 ∷ 0 ∷ 0 ∷ 4294967275 ∷ 4294967295 ∷ 0 ∷ 0 ∷ [])
    ∷ (100 ∷ 4294967295 ∷ 0 ∷ 7 ∷ 0 ∷ 0 ∷ 0 ∷ 0 ∷ 0 ∷ 0 ∷ 0 ∷ 0 ∷ 0 ∷ 0 ∷ [])
    ∷ (0 ∷ 3 ∷ 1 ∷ 6 ∷ 43 ∷ 0 ∷ 0 ∷ 0 ∷ 0 ∷ 0 ∷ 0 ∷ 0 ∷ 4294967275 ∷ 4294967295 ∷ [])
    ∷ []))

unfoldable pub excess3_text : List ℕ
excess3_text =
    lines_of
    ("day 2"
    ∷ "100 4294967295 INJ 7 0 0 0 0 0"
    ∷ "0 3 WDR 6 43 0 0 0 -21"
    ∷ "total 43 0 0 0 -21"
    ∷ "adjusted 22 0 0 0 0"
    ∷ [])

-- each step: line, step; end, width, A; five rows of price, flag, O, E, AGINO, MSIQ, C, initial, revised, modified, final; the ten matches;
-- where the line has an excess, that of pricing, of operating and of the effective actual
unfoldable pub excess3_views_on : List ℕ → List Case
excess3_views_on d =
    viewed_over d 0 0 (1 ∷ 1 ∷ 1 ∷ [])
    (row 2 0 1 0 0 0 1 0 0 0 0
    ∷ row 2 0 1 1 0 1 0 0 0 0 0
    ∷ row 2 0 1 0 0 0 1 0 0 0 0
    ∷ row 1 0 1 0 0 0 1 0 0 0 0
    ∷ row 3 1 1 0 0 0 1 0 0 0 0 ∷ [])
    (1 ∷ 0 ∷ 0 ∷ 0 ∷ 0 ∷ 0 ∷ 0 ∷ 0 ∷ 0 ∷ 0 ∷ [])
    (0 ∷ 0 ∷ 0 ∷ 0 ∷ 0 ∷ []) (0 ∷ 1 ∷ 1000 ∷ 0 ∷ 863 ∷ []) 863
    ∷ viewed_over d 0 1 (2 ∷ 1 ∷ 1 ∷ [])
    (row 3 0 1 0 0 0 1 0 0 0 0
    ∷ row 3 0 1 0 0 0 1 0 0 0 0
    ∷ row 2 0 1 0 0 0 1 0 0 0 0
    ∷ row 1 0 1 0 0 0 1 0 0 0 0
    ∷ row 3 1 1 0 0 0 1 0 0 0 0 ∷ [])
    (0 ∷ 0 ∷ 0 ∷ 0 ∷ 0 ∷ 0 ∷ 0 ∷ 0 ∷ 0 ∷ 0 ∷ [])
    (0 ∷ 0 ∷ 0 ∷ 0 ∷ 0 ∷ []) (0 ∷ 1 ∷ 1000 ∷ 0 ∷ 863 ∷ []) 863
    ∷ viewed_over d 0 2 (3 ∷ 1 ∷ 1 ∷ [])
    (row 3 0 1 0 0 0 1 0 0 0 0
    ∷ row 3 0 1 0 0 0 1 0 0 0 0
    ∷ row 3 0 1 0 0 0 1 0 0 0 0
    ∷ row 1 0 1 0 0 0 1 0 0 0 0
    ∷ row 3 1 1 0 0 0 1 0 0 0 0 ∷ [])
    (0 ∷ 0 ∷ 0 ∷ 0 ∷ 0 ∷ 0 ∷ 0 ∷ 0 ∷ 0 ∷ 0 ∷ [])
    (0 ∷ 0 ∷ 0 ∷ 0 ∷ 0 ∷ []) (0 ∷ 1 ∷ 1000 ∷ 0 ∷ 863 ∷ []) 863
    ∷ viewed_over d 0 3 (4 ∷ 1 ∷ 1 ∷ [])
    (row 3 0 1 0 0 0 1 0 0 0 0
    ∷ row 3 0 1 0 0 0 1 0 0 0 0
    ∷ row 3 0 1 0 0 0 1 0 0 0 0
    ∷ row 1 0 1 0 0 0 1 0 0 0 0
    ∷ row 3 1 1 0 0 0 1 0 0 0 0 ∷ [])
    (0 ∷ 0 ∷ 0 ∷ 0 ∷ 0 ∷ 0 ∷ 0 ∷ 0 ∷ 0 ∷ 0 ∷ [])
    (0 ∷ 0 ∷ 0 ∷ 0 ∷ 0 ∷ []) (0 ∷ 1 ∷ 1000 ∷ 0 ∷ 863 ∷ []) 863
    ∷ viewed_over d 0 4 (5 ∷ 1 ∷ 1 ∷ [])
    (row 5 0 1 0 0 0 1 0 0 0 0
    ∷ row 3 1 1 0 0 0 1 0 0 0 0
    ∷ row 3 0 1 0 0 0 1 0 0 0 0
    ∷ row 1 0 1 0 0 0 1 0 0 0 0
    ∷ row 3 1 1 0 0 0 1 0 0 0 0 ∷ [])
    (0 ∷ 0 ∷ 0 ∷ 0 ∷ 0 ∷ 0 ∷ 0 ∷ 0 ∷ 0 ∷ 0 ∷ [])
    (0 ∷ 0 ∷ 0 ∷ 0 ∷ 0 ∷ []) (0 ∷ 1 ∷ 1000 ∷ 0 ∷ 863 ∷ []) 863
    ∷ viewed_over d 0 5 (9 ∷ 4 ∷ 4 ∷ [])
    (row 5 0 4 0 0 0 4 0 0 0 0
    ∷ row 3 1 4 0 0 0 4 0 0 0 0
    ∷ row 3 1 4 0 0 0 4 0 0 0 0
    ∷ row 1 1 4 0 0 0 4 0 0 0 0
    ∷ row 3 1 4 0 0 0 4 0 0 0 0 ∷ [])
    (0 ∷ 0 ∷ 0 ∷ 0 ∷ 0 ∷ 0 ∷ 0 ∷ 0 ∷ 0 ∷ 0 ∷ [])
    (0 ∷ 0 ∷ 0 ∷ 0 ∷ 0 ∷ []) (0 ∷ 1 ∷ 1000 ∷ 0 ∷ 863 ∷ []) 863
    ∷ viewed_over d 0 6 (12 ∷ 3 ∷ 3 ∷ [])
    (row 5 0 2 0 0 0 2 0 0 0 0
    ∷ row 3 1 3 0 0 0 3 0 0 0 0
    ∷ row 3 1 3 0 0 0 3 0 0 0 0
    ∷ row 1 1 2 0 0 0 2 0 0 0 0
    ∷ row 3 1 3 0 0 0 3 0 0 0 0 ∷ [])
    (0 ∷ 0 ∷ 0 ∷ 0 ∷ 1 ∷ 0 ∷ 0 ∷ 0 ∷ 0 ∷ 0 ∷ [])
    (0 ∷ 0 ∷ 0 ∷ 0 ∷ 0 ∷ []) (0 ∷ 1 ∷ 1000 ∷ 0 ∷ 863 ∷ []) 863
    ∷ viewed_over d 1 0 (1 ∷ 1 ∷ 1 ∷ [])
    (row 5 0 1 1 0 1 0 0 0 0 0
    ∷ row 6 0 1 1 0 0 1 0 0 0 0
    ∷ row 6 0 1 1 0 0 1 0 0 0 0
    ∷ row 1 1 1 0 0 0 1 0 0 0 0
    ∷ row 5 0 1 0 0 0 1 0 0 0 0 ∷ [])
    (0 ∷ 0 ∷ 0 ∷ 0 ∷ 0 ∷ 0 ∷ 0 ∷ 0 ∷ 0 ∷ 0 ∷ [])
    (0 ∷ 382 ∷ 1 ∷ 0 ∷ 0 ∷ []) (0 ∷ 0 ∷ 0 ∷ 0 ∷ 0 ∷ []) 0
    ∷ viewed_over d 1 1 (2 ∷ 1 ∷ 0 ∷ [])
    (row 5 0 1 0 0 0 1 1 1 1 1
    ∷ row 5 0 1 1 0 0 1 0 0 0 0
    ∷ row 6 1 1 1 0 0 1 0 0 0 0
    ∷ row 1 1 1 0 0 0 1 0 0 0 0
    ∷ row 5 0 0 0 0 0 0 (neg 1) (neg 1) (neg 1) (neg 1) ∷ [])
    (0 ∷ 0 ∷ 0 ∷ 0 ∷ 0 ∷ 0 ∷ 1 ∷ 0 ∷ 0 ∷ 0 ∷ [])
    (0 ∷ 382 ∷ 1 ∷ 0 ∷ 0 ∷ []) (0 ∷ 0 ∷ 0 ∷ 0 ∷ 0 ∷ []) 0
    ∷ viewed_over d 1 2 (4 ∷ 2 ∷ 0 ∷ [])
    (row 0 0 2 0 0 0 2 12 12 12 12
    ∷ row 5 0 2 2 0 0 2 0 0 0 0
    ∷ row 6 1 2 2 0 0 2 0 0 0 0
    ∷ row 1 1 2 0 0 0 2 0 0 0 0
    ∷ row 5 0 0 0 0 0 0 (neg 2) (neg 2) (neg 12) (neg 2) ∷ [])
    (0 ∷ 0 ∷ 0 ∷ 0 ∷ 0 ∷ 0 ∷ 2 ∷ 0 ∷ 0 ∷ 0 ∷ [])
    (0 ∷ 382 ∷ 1 ∷ 0 ∷ 0 ∷ []) (0 ∷ 0 ∷ 0 ∷ 0 ∷ 0 ∷ []) 0
    ∷ viewed_over d 1 3 (8 ∷ 4 ∷ 0 ∷ [])
    (row 0 0 4 0 0 0 4 24 24 24 24
    ∷ row 5 0 4 4 0 0 4 0 0 0 0
    ∷ row 6 1 3 4 0 0 3 0 0 0 0
    ∷ row 1 1 3 0 0 0 3 0 0 0 0
    ∷ row 0 0 0 0 0 0 0 (neg 18) (neg 18) (neg 18) (neg 18) ∷ [])
    (0 ∷ 1 ∷ 0 ∷ 0 ∷ 0 ∷ 0 ∷ 3 ∷ 0 ∷ 0 ∷ 0 ∷ [])
    (0 ∷ 382 ∷ 1 ∷ 0 ∷ 0 ∷ []) (0 ∷ 0 ∷ 0 ∷ 0 ∷ 0 ∷ []) 0
    ∷ viewed_over d 1 4 (11 ∷ 3 ∷ 0 ∷ [])
    (row 0 0 1 0 0 0 1 6 6 6 6
    ∷ row 3 0 1 3 0 0 1 0 0 0 0
    ∷ row 6 1 0 3 0 0 0 0 0 0 0
    ∷ row 1 1 0 0 0 0 0 0 0 0 0
    ∷ row 0 1 0 0 0 0 0 0 0 0 0 ∷ [])
    (0 ∷ 1 ∷ 0 ∷ 0 ∷ 0 ∷ 0 ∷ 0 ∷ 0 ∷ 0 ∷ 0 ∷ [])
    (0 ∷ 382 ∷ 1 ∷ 0 ∷ 0 ∷ []) (0 ∷ 0 ∷ 0 ∷ 0 ∷ 0 ∷ []) 0
    ∷ viewed_over d 1 5 (12 ∷ 1 ∷ 0 ∷ [])
    (row 0 0 0 0 0 0 0 0 0 0 0
    ∷ row 3 1 0 1 0 0 0 0 0 0 0
    ∷ row 6 1 0 1 0 0 0 0 0 0 0
    ∷ row 1 1 0 0 0 0 0 0 0 0 0
    ∷ row 0 1 0 0 0 0 0 0 0 0 0 ∷ [])
    (0 ∷ 0 ∷ 0 ∷ 0 ∷ 0 ∷ 0 ∷ 0 ∷ 0 ∷ 0 ∷ 0 ∷ [])
    (0 ∷ 382 ∷ 1 ∷ 0 ∷ 0 ∷ []) (0 ∷ 0 ∷ 0 ∷ 0 ∷ 0 ∷ []) 0
    ∷ []

-- each line of the cutter: ends; five rows of uncapped prices; words of flags; how many are set. The uncapped prices are worked out from
-- the words above by document 01's sentence, since the third implementation's steps have capped ones
unfoldable pub excess3_cuts_on : List ℕ → List Case
excess3_cuts_on d =
    cut_into d 0 (1 ∷ 2 ∷ 3 ∷ 4 ∷ 5 ∷ 9 ∷ 12 ∷ [])
    ((2 ∷ 3 ∷ 3 ∷ 3 ∷ 5 ∷ 5 ∷ 5 ∷ []) ∷ (2 ∷ 3 ∷ 3 ∷ 3 ∷ 3 ∷ 3 ∷ 3 ∷ []) ∷ (2 ∷ 2 ∷ 3 ∷ 3 ∷ 3 ∷ 3 ∷ 3 ∷ [])
    ∷ (2 ∷ 2 ∷ 3 ∷ 3 ∷ 3 ∷ 3 ∷ 3 ∷ []) ∷ (3 ∷ 3 ∷ 3 ∷ 3 ∷ 3 ∷ 3 ∷ 3 ∷ []) ∷ [])
    (0 ∷ 112 ∷ 96 ∷ 96 ∷ 127 ∷ []) (0 ∷ 3 ∷ 2 ∷ 2 ∷ 7 ∷ [])
    ∷ cut_into d 1 (1 ∷ 2 ∷ 4 ∷ 8 ∷ 11 ∷ 12 ∷ [])
    ((5 ∷ 5 ∷ 0 ∷ 0 ∷ 0 ∷ 0 ∷ []) ∷ (6 ∷ 5 ∷ 5 ∷ 5 ∷ 3 ∷ 3 ∷ []) ∷ (6 ∷ 6 ∷ 6 ∷ 6 ∷ 6 ∷ 6 ∷ [])
    ∷ (6 ∷ 6 ∷ 6 ∷ 6 ∷ 6 ∷ 6 ∷ []) ∷ (5 ∷ 5 ∷ 5 ∷ 0 ∷ 0 ∷ 0 ∷ []) ∷ [])
    (0 ∷ 32 ∷ 62 ∷ 63 ∷ 48 ∷ []) (0 ∷ 1 ∷ 5 ∷ 6 ∷ 2 ∷ [])
    ∷ []

-- it is accepted; its book, in a lent one a byte longer; its report; every step of every line; every line
unfoldable pub excess3_cases_on : List ℕ → List Case
excess3_cases_on d =
    number (day_fault d) 0 ∷ booked d (replicate 209 170) (excess3_book ++ (170 ∷ []))
    ∷ printed d excess3_text ∷ (excess3_views_on d ++ excess3_cuts_on d)

unfoldable pub excess3_cases : List Case
excess3_cases = excess3_cases_on excess3_day

-- all of this file, opened
unfoldable pub excess3_opened : ℕ
unfolding excess3_words excess3_day excess3_book excess3_text excess3_views_on excess3_cuts_on excess3_cases_on excess3_cases
excess3_opened = 0
