-- Ad hoc 1: the lines of Excess 1 in the second layout, with one record of zeros for an own row of M + 1,000; clawback on. By the third implementation.
use Rattle.std.specs.Prelude.{ℕ, List, [], ◌∷◌, ◌++◌, replicate, drop}
use Rattle.rules.proofs.Worked.Cases.{Case, concat, bytes_of, lines_of, neg, row, number, booked, printed, viewed, viewed_over}
use Rattle.rules.specs.Refusals.{day_fault}
use Rattle.rules.proofs.Worked.Excess1.{excess1_words}

unfoldable pub ad_hoc1_words : List ℕ
ad_hoc1_words =
    -- n, where market table and lines stand, the length, the count of records and where they stand
    (4 ∷ 24 ∷ 72 ∷ 2744 ∷ 1 ∷ 2712 ∷ [])
    -- market table and lines
    ++ drop 4 excess1_words
    -- the record: line, schedule, order number, five quantities
    ++ (2 ∷ 2 ∷ 3 ∷ 0 ∷ 0 ∷ 0 ∷ 0 ∷ 0 ∷ [])

unfoldable pub ad_hoc1_day : List ℕ
ad_hoc1_day = bytes_of ad_hoc1_words

-- the book, as words: n, 16, 96, 96 + 56n; five pairs t, a; of each line participant, point, side, count and payments, low word first
unfoldable pub ad_hoc1_book : List ℕ
ad_hoc1_book =
    bytes_of
    (concat
    ((4 ∷ 16 ∷ 96 ∷ 320 ∷ [])
    ∷ (26 ∷ 0 ∷ 26 ∷ 0 ∷ 14 ∷ 0 ∷ 14 ∷ 0 ∷ 4 ∷ 0 ∷ 4 ∷ 0 ∷ 30 ∷ 0 ∷ 26 ∷ 0 ∷ 4294967292 ∷ 4294967295 ∷ 0 ∷ 0 ∷ [])
    ∷ (1 ∷ 2 ∷ 1 ∷ 1 ∷ 0 ∷ 0 ∷ 0 ∷ 0 ∷ 0 ∷ 0 ∷ 32 ∷ 0 ∷ 4294967292 ∷ 4294967295 ∷ [])
    ∷ (103 ∷ 161 ∷ 1 ∷ 4 ∷ 26 ∷ 0 ∷ 4 ∷ 0 ∷ 0 ∷ 0 ∷ 0 ∷ 0 ∷ 0 ∷ 0 ∷ [])
    ∷ (7 ∷ 2 ∷ 0 ∷ 2 ∷ 0 ∷ 0 ∷ 0 ∷ 0 ∷ 4 ∷ 0 ∷ 0 ∷ 0 ∷ 0 ∷ 0 ∷ [])
    ∷ (101 ∷ 2 ∷ 1 ∷ 5 ∷ 0 ∷ 0 ∷ 10 ∷ 0 ∷ 0 ∷ 0 ∷ 4294967294 ∷ 4294967295 ∷ 0 ∷ 0 ∷ [])
    ∷ []))

unfoldable pub ad_hoc1_text : List ℕ
ad_hoc1_text =
    lines_of
    ("day 4"
    ∷ "1 2 WDR 1 0 0 0 32 -4"
    ∷ "103 161 WDR 4 26 4 0 0 0"
    ∷ "7 2 INJ 2 0 0 4 0 0"
    ∷ "101 2 WDR 5 0 10 0 -2 0"
    ∷ "total 26 14 4 30 -4"
    ∷ "adjusted 26 14 4 26 0"
    ∷ [])

-- each step: line, step; end, width, A; five rows of price, flag, O, E, AGINO, MSIQ, C, initial, revised, modified, final; the ten matches;
-- where the line has an excess, that of pricing, of operating and of the effective actual
unfoldable pub ad_hoc1_views_on : List ℕ → List Case
ad_hoc1_views_on d =
    viewed d 0 0 (10 ∷ 10 ∷ 7 ∷ [])
    (row 1 0 0 0 0 0 0 0 0 0 0
    ∷ row 1 1 0 0 0 0 0 0 0 0 0
    ∷ row 1 1 0 0 0 0 0 0 0 0 0
    ∷ row 1 1 8 0 0 0 8 32 32 32 32
    ∷ row 1 1 7 0 0 0 7 (neg 1) (neg 1) (neg 4) (neg 4) ∷ [])
    (0 ∷ 0 ∷ 0 ∷ 0 ∷ 0 ∷ 0 ∷ 0 ∷ 0 ∷ 0 ∷ 1 ∷ [])
    ∷ viewed_over d 1 0 (1 ∷ 1 ∷ 1 ∷ [])
    (row 4 0 1 0 0 0 1 2 2 2 2
    ∷ row 4 0 1 0 0 0 1 0 0 0 0
    ∷ row 6 0 1 0 0 0 1 0 0 0 0
    ∷ row 5 0 1 1 0 1 0 0 0 0 0
    ∷ row 4 0 1 1 0 1 0 0 0 0 0 ∷ [])
    (0 ∷ 0 ∷ 0 ∷ 1 ∷ 0 ∷ 0 ∷ 0 ∷ 0 ∷ 0 ∷ 0 ∷ [])
    (0 ∷ 0 ∷ 0 ∷ 0 ∷ 0 ∷ []) (0 ∷ 98 ∷ 0 ∷ 0 ∷ 0 ∷ []) 0
    ∷ viewed_over d 1 1 (4 ∷ 3 ∷ 0 ∷ [])
    (row 2 0 3 0 0 0 3 12 12 12 12
    ∷ row 4 0 3 0 0 0 3 0 0 0 0
    ∷ row 6 0 3 0 0 0 3 0 0 0 0
    ∷ row 5 0 1 1 0 1 0 0 0 0 0
    ∷ row 4 0 0 1 0 1 0 0 0 0 0 ∷ [])
    (0 ∷ 0 ∷ 0 ∷ 3 ∷ 0 ∷ 0 ∷ 0 ∷ 0 ∷ 0 ∷ 0 ∷ [])
    (0 ∷ 0 ∷ 0 ∷ 0 ∷ 0 ∷ []) (0 ∷ 98 ∷ 0 ∷ 0 ∷ 0 ∷ []) 0
    ∷ viewed_over d 1 2 (5 ∷ 1 ∷ 0 ∷ [])
    (row 2 0 1 0 0 0 1 4 4 4 4
    ∷ row 2 0 1 0 0 0 1 0 0 0 0
    ∷ row 6 0 1 0 0 0 1 0 0 0 0
    ∷ row 5 0 0 0 0 0 0 0 0 0 0
    ∷ row 1 0 0 0 0 0 0 0 0 0 0 ∷ [])
    (0 ∷ 0 ∷ 0 ∷ 1 ∷ 0 ∷ 0 ∷ 0 ∷ 0 ∷ 0 ∷ 0 ∷ [])
    (0 ∷ 0 ∷ 0 ∷ 0 ∷ 0 ∷ []) (0 ∷ 98 ∷ 0 ∷ 0 ∷ 0 ∷ []) 0
    ∷ viewed_over d 1 3 (8 ∷ 3 ∷ 0 ∷ [])
    (row 2 1 2 0 0 0 2 8 8 8 8
    ∷ row 2 0 3 0 0 0 3 4 4 4 4
    ∷ row 6 0 3 0 0 0 3 0 0 0 0
    ∷ row 5 0 0 0 0 0 0 0 0 0 0
    ∷ row 1 0 0 0 0 0 0 0 0 0 0 ∷ [])
    (0 ∷ 0 ∷ 0 ∷ 2 ∷ 1 ∷ 0 ∷ 0 ∷ 0 ∷ 0 ∷ 0 ∷ [])
    (0 ∷ 0 ∷ 0 ∷ 0 ∷ 0 ∷ []) (0 ∷ 98 ∷ 0 ∷ 0 ∷ 0 ∷ []) 0
    ∷ viewed_over d 2 0 (11 ∷ 11 ∷ 0 ∷ [])
    (row 4 0 11 11 0 1 10 0 0 0 0
    ∷ row 5 1 0 1 0 1 0 0 0 0 0
    ∷ row 6 1 11 8 0 8 3 3 3 3 3
    ∷ row 5 1 0 2 0 0 0 0 0 0 0
    ∷ row 6 1 4 0 4 0 0 0 0 0 0 ∷ [])
    (10 ∷ 0 ∷ 0 ∷ 0 ∷ 0 ∷ 3 ∷ 0 ∷ 0 ∷ 0 ∷ 0 ∷ [])
    (0 ∷ 0 ∷ 0 ∷ 0 ∷ 0 ∷ []) (0 ∷ 0 ∷ 1000 ∷ 0 ∷ 0 ∷ []) 0
    ∷ viewed_over d 2 1 (12 ∷ 1 ∷ 0 ∷ [])
    (row 6 0 1 1 0 0 1 0 0 0 0
    ∷ row 5 1 0 0 0 0 0 0 0 0 0
    ∷ row 6 1 1 0 0 0 1 1 1 1 1
    ∷ row 5 1 0 0 0 0 0 0 0 0 0
    ∷ row 6 1 0 0 0 0 0 0 0 0 0 ∷ [])
    (1 ∷ 0 ∷ 0 ∷ 0 ∷ 0 ∷ 1 ∷ 0 ∷ 0 ∷ 0 ∷ 0 ∷ [])
    (0 ∷ 0 ∷ 0 ∷ 0 ∷ 0 ∷ []) (0 ∷ 0 ∷ 1000 ∷ 0 ∷ 0 ∷ []) 0
    ∷ viewed_over d 3 0 (1 ∷ 1 ∷ 1 ∷ [])
    (row 6 0 0 0 0 0 0 0 0 0 0
    ∷ row 5 0 1 0 0 0 1 1 1 1 1
    ∷ row 6 0 1 0 0 0 1 0 0 0 0
    ∷ row 4 0 1 1 0 1 0 (neg 1) 0 (neg 1) (neg 1)
    ∷ row 4 0 1 0 0 0 1 0 0 0 0 ∷ [])
    (0 ∷ 0 ∷ 0 ∷ 0 ∷ 1 ∷ 0 ∷ 0 ∷ 0 ∷ 0 ∷ 0 ∷ [])
    (0 ∷ 0 ∷ 0 ∷ 0 ∷ 0 ∷ []) (0 ∷ 999 ∷ 477 ∷ 0 ∷ 1 ∷ []) 1
    ∷ viewed_over d 3 1 (4 ∷ 3 ∷ 3 ∷ [])
    (row 6 0 0 0 0 0 0 0 0 0 0
    ∷ row 5 0 3 0 0 0 3 3 3 3 3
    ∷ row 6 0 3 0 0 0 3 0 0 0 0
    ∷ row 4 0 3 1 0 1 2 (neg 1) 0 (neg 1) (neg 1)
    ∷ row 4 0 3 0 0 0 3 0 0 0 0 ∷ [])
    (0 ∷ 0 ∷ 0 ∷ 0 ∷ 1 ∷ 0 ∷ 0 ∷ 0 ∷ 0 ∷ 0 ∷ [])
    (0 ∷ 0 ∷ 0 ∷ 0 ∷ 0 ∷ []) (0 ∷ 999 ∷ 477 ∷ 0 ∷ 1 ∷ []) 1
    ∷ viewed_over d 3 2 (5 ∷ 1 ∷ 1 ∷ [])
    (row 6 1 0 0 0 0 0 0 0 0 0
    ∷ row 5 0 1 0 0 0 1 1 1 1 1
    ∷ row 6 0 1 0 0 0 1 0 0 0 0
    ∷ row 4 0 1 0 0 0 1 0 0 0 0
    ∷ row 4 0 1 0 0 0 1 0 0 0 0 ∷ [])
    (0 ∷ 0 ∷ 0 ∷ 0 ∷ 0 ∷ 0 ∷ 0 ∷ 0 ∷ 0 ∷ 0 ∷ [])
    (0 ∷ 0 ∷ 0 ∷ 0 ∷ 0 ∷ []) (0 ∷ 999 ∷ 477 ∷ 0 ∷ 1 ∷ []) 1
    ∷ viewed_over d 3 3 (8 ∷ 3 ∷ 3 ∷ [])
    (row 6 1 0 0 0 0 0 0 0 0 0
    ∷ row 5 0 3 0 0 0 3 3 3 3 3
    ∷ row 6 0 3 0 0 0 3 0 0 0 0
    ∷ row 3 0 3 0 0 0 3 0 0 0 0
    ∷ row 3 0 3 0 0 0 3 0 0 0 0 ∷ [])
    (0 ∷ 0 ∷ 0 ∷ 0 ∷ 0 ∷ 0 ∷ 0 ∷ 0 ∷ 0 ∷ 0 ∷ [])
    (0 ∷ 0 ∷ 0 ∷ 0 ∷ 0 ∷ []) (0 ∷ 999 ∷ 477 ∷ 0 ∷ 1 ∷ []) 1
    ∷ viewed_over d 3 4 (10 ∷ 2 ∷ 2 ∷ [])
    (row 6 1 0 0 0 0 0 0 0 0 0
    ∷ row 5 1 2 0 0 0 2 2 2 2 2
    ∷ row 6 1 2 0 0 0 2 0 0 0 0
    ∷ row 0 0 2 0 0 0 2 0 0 0 0
    ∷ row 0 0 2 0 0 0 2 0 0 0 0 ∷ [])
    (0 ∷ 0 ∷ 0 ∷ 0 ∷ 0 ∷ 0 ∷ 0 ∷ 0 ∷ 0 ∷ 0 ∷ [])
    (0 ∷ 0 ∷ 0 ∷ 0 ∷ 0 ∷ []) (0 ∷ 999 ∷ 477 ∷ 0 ∷ 1 ∷ []) 1
    ∷ []

-- it is accepted; its book, in a lent one a byte longer; its report; every step of every line. The cutter's answers for its lines are in Excess 1
unfoldable pub ad_hoc1_cases_on : List ℕ → List Case
ad_hoc1_cases_on d =
    number (day_fault d) 0 ∷ booked d (replicate 321 170) (ad_hoc1_book ++ (170 ∷ []))
    ∷ printed d ad_hoc1_text ∷ ad_hoc1_views_on d

unfoldable pub ad_hoc1_cases : List Case
ad_hoc1_cases = ad_hoc1_cases_on ad_hoc1_day

-- all of this file, opened
unfoldable pub ad_hoc1_opened : ℕ
unfolding excess1_words ad_hoc1_words ad_hoc1_day ad_hoc1_book ad_hoc1_text ad_hoc1_views_on ad_hoc1_cases_on ad_hoc1_cases
ad_hoc1_opened = 0
