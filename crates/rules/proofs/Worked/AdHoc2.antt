-- Ad hoc 2: two injections and a withdrawal, with a record for each of two schedules of one line; an own row of M + 1,000 is replaced; clawback on.
-- By the third implementation.
use Rattle.std.specs.Prelude.{ℕ, List, [], ◌∷◌, ◌++◌, replicate}
use Rattle.rules.proofs.Worked.Cases.{Case, concat, bytes_of, lines_of, bid, neg, row, number, booked, printed, viewed_over}
use Rattle.rules.specs.Refusals.{day_fault}

unfoldable pub ad_hoc2_words : List ℕ
ad_hoc2_words =
    concat
    -- n, where market table and lines stand, the length, the count of records and where they stand
    ((3 ∷ 24 ∷ 72 ∷ 2116 ∷ 2 ∷ 2052 ∷ [])
    -- market prices, cap marks, APC, clawback
    ∷ (0 ∷ 4 ∷ 6 ∷ 4 ∷ 4 ∷ []) ∷ (0 ∷ 0 ∷ 0 ∷ 0 ∷ 0 ∷ []) ∷ (1 ∷ 1 ∷ [])
    -- line 0: participant, point, side, accreditation, hedge; bids; pricing rows; operating rows; actuals
    ∷ (4294967295 ∷ 1 ∷ 0 ∷ 1 ∷ 12 ∷ [])
    ∷ bid (1 ∷ 12 ∷ []) (1 ∷ 4 ∷ [])
    ∷ bid (1 ∷ 12 ∷ []) (3 ∷ 5 ∷ [])
    ∷ bid (1 ∷ 12 ∷ []) (3 ∷ 5 ∷ [])
    ∷ bid (1 ∷ 12 ∷ []) (3 ∷ 5 ∷ [])
    ∷ bid (5 ∷ 12 ∷ []) (3 ∷ 5 ∷ [])
    ∷ (0 ∷ 0 ∷ 0 ∷ 0 ∷ 0 ∷ []) ∷ (0 ∷ 5 ∷ 5 ∷ 2 ∷ []) ∷ (0 ∷ 0 ∷ 0 ∷ []) ∷ (0 ∷ 1 ∷ []) ∷ (0 ∷ [])
    ∷ (28 ∷ 188 ∷ 298 ∷ 269 ∷ 229 ∷ []) ∷ (3 ∷ 1 ∷ 3 ∷ 1 ∷ 4 ∷ []) ∷ (0 ∷ 0 ∷ 0 ∷ 0 ∷ 0 ∷ []) ∷ (2 ∷ 3 ∷ 2 ∷ 6 ∷ 0 ∷ []) ∷ (11 ∷ 0 ∷ 0 ∷ 0 ∷ 0 ∷ [])
    ∷ (7 ∷ 0 ∷ 61 ∷ 0 ∷ 0 ∷ [])
    -- line 1: participant, point, side, accreditation, hedge; bids; pricing rows; operating rows; actuals
    ∷ (101 ∷ 4294967295 ∷ 0 ∷ 1 ∷ 0 ∷ [])
    ∷ bid (2 ∷ []) (5 ∷ [])
    ∷ bid (3 ∷ []) (5 ∷ [])
    ∷ bid (3 ∷ []) (5 ∷ [])
    ∷ bid (4 ∷ []) (5 ∷ [])
    ∷ bid (5 ∷ []) (5 ∷ [])
    ∷ (0 ∷ 0 ∷ 0 ∷ 0 ∷ 0 ∷ []) ∷ (0 ∷ 1 ∷ 3 ∷ 2 ∷ []) ∷ (1 ∷ 1 ∷ 3 ∷ []) ∷ (0 ∷ 0 ∷ []) ∷ (0 ∷ [])
    ∷ (1 ∷ 2 ∷ 0 ∷ 1 ∷ 0 ∷ []) ∷ (0 ∷ 0 ∷ 0 ∷ 0 ∷ 0 ∷ []) ∷ (1 ∷ 3 ∷ 0 ∷ 0 ∷ 1 ∷ []) ∷ (37 ∷ 383 ∷ 526 ∷ 21 ∷ 38 ∷ []) ∷ (0 ∷ 0 ∷ 0 ∷ 0 ∷ 0 ∷ [])
    ∷ (0 ∷ 0 ∷ 0 ∷ 0 ∷ 0 ∷ [])
    -- line 2: participant, point, side, accreditation, hedge; bids; pricing rows; operating rows; actuals
    ∷ (4294967295 ∷ 110 ∷ 1 ∷ 61 ∷ 0 ∷ [])
    ∷ bid (1 ∷ 5 ∷ 7 ∷ []) (3 ∷ 3 ∷ 2 ∷ [])
    ∷ bid (3 ∷ 7 ∷ 9 ∷ []) (3 ∷ 3 ∷ 2 ∷ [])
    ∷ bid (3 ∷ 7 ∷ 9 ∷ []) (6 ∷ 4 ∷ 1 ∷ [])
    ∷ bid (3 ∷ 7 ∷ 9 ∷ []) (6 ∷ 4 ∷ 1 ∷ [])
    ∷ bid (5 ∷ 12 ∷ []) (5 ∷ 0 ∷ [])
    ∷ (0 ∷ 549 ∷ 66 ∷ 20 ∷ 376 ∷ []) ∷ (0 ∷ 0 ∷ 0 ∷ 0 ∷ []) ∷ (0 ∷ 39 ∷ 19 ∷ []) ∷ (0 ∷ 0 ∷ []) ∷ (1011 ∷ [])
    ∷ (59 ∷ 167 ∷ 401 ∷ 178 ∷ 52 ∷ []) ∷ (0 ∷ 0 ∷ 0 ∷ 0 ∷ 12 ∷ []) ∷ (0 ∷ 1 ∷ 1 ∷ 1 ∷ 0 ∷ []) ∷ (13 ∷ 0 ∷ 0 ∷ 0 ∷ 0 ∷ []) ∷ (3 ∷ 1 ∷ 1 ∷ 6 ∷ 1 ∷ [])
    ∷ (1 ∷ 1 ∷ 1 ∷ 6 ∷ 0 ∷ [])
    -- the records: line, schedule, order number, five quantities
    ∷ (1 ∷ 2 ∷ 9 ∷ 0 ∷ 0 ∷ 0 ∷ 0 ∷ 0 ∷ [])
    ∷ (1 ∷ 4 ∷ 63824652 ∷ 2 ∷ 1 ∷ 1 ∷ 1 ∷ 0 ∷ [])
    ∷ [])

unfoldable pub ad_hoc2_day : List ℕ
ad_hoc2_day = bytes_of ad_hoc2_words

-- the book, as words: n, 16, 96, 96 + 56n; five pairs t, a; of each line participant, point, side, count and payments, low word first
unfoldable pub ad_hoc2_book : List ℕ
ad_hoc2_book =
    bytes_of
    (concat
    ((3 ∷ 16 ∷ 96 ∷ 264 ∷ [])
    ∷ (20 ∷ 0 ∷ 0 ∷ 0 ∷ 4294967288 ∷ 4294967295 ∷ 0 ∷ 0 ∷ 4294967280 ∷ 4294967295 ∷ 4294967292 ∷ 4294967295 ∷ 6 ∷ 0 ∷ 0 ∷ 0 ∷ 4294967286 ∷ 4294967295 ∷ 4294967292 ∷ 4294967295 ∷ [])
    ∷ (4294967295 ∷ 1 ∷ 0 ∷ 3 ∷ 0 ∷ 0 ∷ 0 ∷ 0 ∷ 0 ∷ 0 ∷ 0 ∷ 0 ∷ 0 ∷ 0 ∷ [])
    ∷ (101 ∷ 4294967295 ∷ 0 ∷ 4 ∷ 20 ∷ 0 ∷ 4294967288 ∷ 4294967295 ∷ 0 ∷ 0 ∷ 0 ∷ 0 ∷ 4294967292 ∷ 4294967295 ∷ [])
    ∷ (4294967295 ∷ 110 ∷ 1 ∷ 6 ∷ 0 ∷ 0 ∷ 0 ∷ 0 ∷ 4294967280 ∷ 4294967295 ∷ 6 ∷ 0 ∷ 4294967290 ∷ 4294967295 ∷ [])
    ∷ []))

unfoldable pub ad_hoc2_text : List ℕ
ad_hoc2_text =
    lines_of
    ("day 3"
    ∷ "4294967295 1 INJ 3 0 0 0 0 0"
    ∷ "101 4294967295 INJ 4 20 -8 0 0 -4"
    ∷ "4294967295 110 WDR 6 0 0 -16 6 -6"
    ∷ "total 20 -8 -16 6 -10"
    ∷ "adjusted 0 0 -4 0 -4"
    ∷ [])

-- each step: line, step; end, width, A; five rows of price, flag, O, E, AGINO, MSIQ, C, initial, revised, modified, final; the ten matches;
-- where the line has an excess, that of pricing, of operating and of the effective actual
unfoldable pub ad_hoc2_views_on : List ℕ → List Case
ad_hoc2_views_on d =
    viewed_over d 0 0 (1 ∷ 1 ∷ 1 ∷ [])
    (row 1 0 1 0 0 0 1 0 0 0 0
    ∷ row 3 0 1 1 0 0 1 0 0 0 0
    ∷ row 3 0 0 0 0 0 0 0 0 0 0
    ∷ row 3 0 1 1 0 0 1 0 0 0 0
    ∷ row 3 0 1 0 0 0 1 0 0 0 0 ∷ [])
    (0 ∷ 1 ∷ 0 ∷ 0 ∷ 0 ∷ 0 ∷ 0 ∷ 0 ∷ 0 ∷ 0 ∷ [])
    (0 ∷ 0 ∷ 0 ∷ 0 ∷ 0 ∷ []) (1000 ∷ 0 ∷ 0 ∷ 1 ∷ 0 ∷ []) 0
    ∷ viewed_over d 0 1 (5 ∷ 4 ∷ 4 ∷ [])
    (row 4 0 4 0 0 0 4 0 0 0 0
    ∷ row 5 0 4 4 0 4 0 0 0 0 0
    ∷ row 5 0 0 0 0 0 0 0 0 0 0
    ∷ row 5 0 4 0 0 0 4 0 0 0 0
    ∷ row 3 0 4 0 0 0 4 0 0 0 0 ∷ [])
    (4 ∷ 0 ∷ 0 ∷ 0 ∷ 0 ∷ 0 ∷ 0 ∷ 0 ∷ 0 ∷ 0 ∷ [])
    (0 ∷ 0 ∷ 0 ∷ 0 ∷ 0 ∷ []) (1000 ∷ 0 ∷ 0 ∷ 1 ∷ 0 ∷ []) 0
    ∷ viewed_over d 0 2 (12 ∷ 7 ∷ 2 ∷ [])
    (row 4 0 7 0 0 0 7 0 0 0 0
    ∷ row 5 0 7 7 0 7 0 0 0 0 0
    ∷ row 5 0 0 0 0 0 0 0 0 0 0
    ∷ row 5 0 7 0 4 0 3 0 0 0 0
    ∷ row 5 0 6 0 4 0 2 0 0 0 0 ∷ [])
    (7 ∷ 0 ∷ 0 ∷ 0 ∷ 0 ∷ 0 ∷ 0 ∷ 0 ∷ 0 ∷ 1 ∷ [])
    (0 ∷ 0 ∷ 0 ∷ 0 ∷ 0 ∷ []) (1000 ∷ 0 ∷ 0 ∷ 1 ∷ 0 ∷ []) 0
    ∷ viewed_over d 1 0 (2 ∷ 2 ∷ 0 ∷ [])
    (row 5 0 2 0 0 0 2 10 10 10 10
    ∷ row 5 0 0 2 0 2 0 (neg 2) (neg 2) (neg 10) (neg 2)
    ∷ row 5 0 2 2 0 1 1 0 0 0 0
    ∷ row 5 0 2 1 0 1 1 0 0 0 0
    ∷ row 5 0 0 1 0 1 0 (neg 1) (neg 1) 0 (neg 1) ∷ [])
    (2 ∷ 0 ∷ 0 ∷ 0 ∷ 0 ∷ 0 ∷ 0 ∷ 0 ∷ 1 ∷ 0 ∷ [])
    (0 ∷ 1 ∷ 0 ∷ 0 ∷ 0 ∷ []) (0 ∷ 0 ∷ 0 ∷ 0 ∷ 0 ∷ []) 0
    ∷ viewed_over d 1 1 (3 ∷ 1 ∷ 0 ∷ [])
    (row 5 1 1 0 0 0 1 5 5 5 5
    ∷ row 5 0 0 1 0 1 0 (neg 1) (neg 1) (neg 5) (neg 1)
    ∷ row 5 0 1 1 0 0 1 0 0 0 0
    ∷ row 5 0 1 0 0 0 1 0 0 0 0
    ∷ row 5 0 0 0 0 0 0 (neg 1) (neg 1) 0 (neg 1) ∷ [])
    (1 ∷ 0 ∷ 0 ∷ 0 ∷ 0 ∷ 0 ∷ 0 ∷ 0 ∷ 1 ∷ 0 ∷ [])
    (0 ∷ 1 ∷ 0 ∷ 0 ∷ 0 ∷ []) (0 ∷ 0 ∷ 0 ∷ 0 ∷ 0 ∷ []) 0
    ∷ viewed_over d 1 2 (4 ∷ 1 ∷ 0 ∷ [])
    (row 5 1 1 0 0 0 1 5 5 5 5
    ∷ row 5 1 0 1 0 1 0 (neg 1) (neg 1) (neg 5) (neg 5)
    ∷ row 5 1 1 1 0 0 1 0 0 0 0
    ∷ row 5 0 1 0 0 0 1 0 0 0 0
    ∷ row 5 0 0 0 0 0 0 (neg 1) (neg 1) 0 (neg 1) ∷ [])
    (1 ∷ 0 ∷ 0 ∷ 0 ∷ 0 ∷ 0 ∷ 0 ∷ 0 ∷ 1 ∷ 0 ∷ [])
    (0 ∷ 1 ∷ 0 ∷ 0 ∷ 0 ∷ []) (0 ∷ 0 ∷ 0 ∷ 0 ∷ 0 ∷ []) 0
    ∷ viewed_over d 1 3 (5 ∷ 1 ∷ 0 ∷ [])
    (row 5 1 0 0 0 0 0 0 0 0 0
    ∷ row 5 1 0 1 0 1 0 0 0 0 0
    ∷ row 5 1 1 1 0 0 1 0 0 0 0
    ∷ row 5 1 1 0 0 0 1 0 0 0 0
    ∷ row 5 0 0 0 0 0 0 (neg 1) (neg 1) 0 (neg 1) ∷ [])
    (0 ∷ 0 ∷ 0 ∷ 0 ∷ 0 ∷ 0 ∷ 0 ∷ 0 ∷ 1 ∷ 0 ∷ [])
    (0 ∷ 1 ∷ 0 ∷ 0 ∷ 0 ∷ []) (0 ∷ 0 ∷ 0 ∷ 0 ∷ 0 ∷ []) 0
    ∷ viewed_over d 2 0 (1 ∷ 1 ∷ 1 ∷ [])
    (row 3 0 1 1 0 0 1 0 0 0 0
    ∷ row 3 0 1 0 0 0 1 0 0 0 0
    ∷ row 6 0 1 1 0 0 1 0 0 0 0
    ∷ row 6 0 1 0 0 0 1 0 0 0 0
    ∷ row 5 0 1 1 0 1 0 0 0 0 0 ∷ [])
    (0 ∷ 0 ∷ 0 ∷ 0 ∷ 0 ∷ 0 ∷ 1 ∷ 0 ∷ 0 ∷ 0 ∷ [])
    (999 ∷ 0 ∷ 46 ∷ 0 ∷ 999 ∷ []) (845 ∷ 0 ∷ 0 ∷ 1 ∷ 0 ∷ []) 0
    ∷ viewed_over d 2 1 (3 ∷ 2 ∷ 2 ∷ [])
    (row 3 0 2 2 0 0 2 0 0 0 0
    ∷ row 3 0 2 0 0 0 2 0 0 0 0
    ∷ row 6 0 2 2 0 0 2 0 0 0 0
    ∷ row 6 0 2 0 0 0 2 0 0 0 0
    ∷ row 5 0 2 2 0 2 0 0 0 0 0 ∷ [])
    (0 ∷ 0 ∷ 0 ∷ 0 ∷ 0 ∷ 0 ∷ 2 ∷ 0 ∷ 0 ∷ 0 ∷ [])
    (999 ∷ 0 ∷ 46 ∷ 0 ∷ 999 ∷ []) (845 ∷ 0 ∷ 0 ∷ 1 ∷ 0 ∷ []) 0
    ∷ viewed_over d 2 2 (5 ∷ 2 ∷ 2 ∷ [])
    (row 3 0 2 2 0 0 2 0 0 0 0
    ∷ row 3 0 2 0 0 0 2 0 0 0 0
    ∷ row 4 0 0 2 0 2 0 (neg 4) (neg 4) 0 (neg 4)
    ∷ row 4 0 2 0 0 0 2 0 0 0 0
    ∷ row 5 0 2 2 0 2 0 0 0 0 0 ∷ [])
    (0 ∷ 2 ∷ 0 ∷ 0 ∷ 0 ∷ 0 ∷ 0 ∷ 0 ∷ 0 ∷ 2 ∷ [])
    (999 ∷ 0 ∷ 46 ∷ 0 ∷ 999 ∷ []) (845 ∷ 0 ∷ 0 ∷ 1 ∷ 0 ∷ []) 0
    ∷ viewed_over d 2 3 (7 ∷ 2 ∷ 2 ∷ [])
    (row 2 0 2 2 0 0 2 0 0 0 0
    ∷ row 3 0 2 0 0 0 2 0 0 0 0
    ∷ row 4 0 0 2 0 2 0 (neg 4) (neg 4) 0 (neg 4)
    ∷ row 4 0 2 0 0 0 2 0 0 0 0
    ∷ row 0 0 2 2 0 2 0 (neg 8) 0 0 0 ∷ [])
    (0 ∷ 2 ∷ 0 ∷ 0 ∷ 0 ∷ 0 ∷ 0 ∷ 0 ∷ 0 ∷ 2 ∷ [])
    (999 ∷ 0 ∷ 46 ∷ 0 ∷ 999 ∷ []) (845 ∷ 0 ∷ 0 ∷ 1 ∷ 0 ∷ []) 0
    ∷ viewed_over d 2 4 (9 ∷ 2 ∷ 2 ∷ [])
    (row 2 1 2 2 0 0 2 0 0 0 0
    ∷ row 2 0 2 0 0 0 2 0 0 0 0
    ∷ row 1 0 0 2 0 2 0 (neg 10) (neg 8) 0 (neg 8)
    ∷ row 1 0 2 0 0 0 2 6 6 6 6
    ∷ row 0 0 2 2 0 2 0 (neg 8) (neg 6) (neg 6) (neg 6) ∷ [])
    (0 ∷ 2 ∷ 0 ∷ 0 ∷ 0 ∷ 0 ∷ 0 ∷ 0 ∷ 0 ∷ 2 ∷ [])
    (999 ∷ 0 ∷ 46 ∷ 0 ∷ 999 ∷ []) (845 ∷ 0 ∷ 0 ∷ 1 ∷ 0 ∷ []) 0
    ∷ viewed_over d 2 5 (12 ∷ 3 ∷ 0 ∷ [])
    (row 2 1 3 3 0 0 3 0 0 0 0
    ∷ row 2 1 3 0 0 0 3 0 0 0 0
    ∷ row 1 1 0 3 0 3 0 (neg 15) (neg 12) 0 0
    ∷ row 1 1 3 0 3 0 0 0 0 0 0
    ∷ row 0 0 3 3 3 3 0 0 0 0 0 ∷ [])
    (0 ∷ 3 ∷ 0 ∷ 0 ∷ 0 ∷ 0 ∷ 0 ∷ 0 ∷ 0 ∷ 0 ∷ [])
    (999 ∷ 0 ∷ 46 ∷ 0 ∷ 999 ∷ []) (845 ∷ 0 ∷ 0 ∷ 1 ∷ 0 ∷ []) 0
    ∷ []

-- it is accepted; its book, in a lent one a byte longer; its report; every step of every line. The cutter, which reads no record, is asked in
-- AdHoc0 and AdHoc3
unfoldable pub ad_hoc2_cases_on : List ℕ → List Case
ad_hoc2_cases_on d =
    number (day_fault d) 0 ∷ booked d (replicate 265 170) (ad_hoc2_book ++ (170 ∷ []))
    ∷ printed d ad_hoc2_text ∷ ad_hoc2_views_on d

unfoldable pub ad_hoc2_cases : List Case
ad_hoc2_cases = ad_hoc2_cases_on ad_hoc2_day

-- all of this file, opened
unfoldable pub ad_hoc2_opened : ℕ
unfolding ad_hoc2_words ad_hoc2_day ad_hoc2_book ad_hoc2_text ad_hoc2_views_on ad_hoc2_cases_on ad_hoc2_cases
ad_hoc2_opened = 0
