-- Ad hoc 3: two records for one schedule, of which the first in the file is in force, with the order number 4294967295; the other and the own row are
-- above M + 1,000, so that the cutter refuses the line; clawback on. By the third implementation.
use Rattle.std.specs.Prelude.{ℕ, List, [], ◌∷◌, ◌++◌, replicate}
use Rattle.rules.specs.Layout.{line_at}
use Rattle.rules.specs.Cutting.{cut_answer}
use Rattle.rules.proofs.Worked.Cases.{Case, concat, bytes_of, lines_of, bid, neg, row, number, cut_fields, booked, printed, viewed, viewed_over, cut_into}
use Rattle.rules.specs.Refusals.{day_fault}

unfoldable pub ad_hoc3_words : List ℕ
ad_hoc3_words =
    concat
    -- n, where market table and lines stand, the length, the count of records and where they stand
    ((2 ∷ 24 ∷ 72 ∷ 1456 ∷ 2 ∷ 1392 ∷ [])
    -- market prices, cap marks, APC, clawback
    ∷ (6 ∷ 4 ∷ 6 ∷ 5 ∷ 1 ∷ []) ∷ (0 ∷ 0 ∷ 1 ∷ 0 ∷ 1 ∷ []) ∷ (6 ∷ 1 ∷ [])
    -- line 0: participant, point, side, accreditation, hedge; bids; pricing rows; operating rows; actuals
    ∷ (101 ∷ 4294967295 ∷ 0 ∷ 60 ∷ 0 ∷ [])
    ∷ bid (1 ∷ 2 ∷ 3 ∷ 5 ∷ 6 ∷ 7 ∷ 8 ∷ 9 ∷ 10 ∷ 11 ∷ 12 ∷ []) (1 ∷ 2 ∷ 2 ∷ 3 ∷ 3 ∷ 3 ∷ 3 ∷ 4 ∷ 5 ∷ 5 ∷ 6 ∷ [])
    ∷ bid (1 ∷ 2 ∷ 3 ∷ 5 ∷ 6 ∷ 7 ∷ 8 ∷ 9 ∷ 10 ∷ 11 ∷ 12 ∷ []) (1 ∷ 2 ∷ 2 ∷ 3 ∷ 3 ∷ 3 ∷ 3 ∷ 4 ∷ 5 ∷ 5 ∷ 6 ∷ [])
    ∷ bid (1 ∷ 2 ∷ 3 ∷ 5 ∷ 6 ∷ 7 ∷ 8 ∷ 9 ∷ []) (1 ∷ 2 ∷ 2 ∷ 3 ∷ 3 ∷ 3 ∷ 3 ∷ 4 ∷ [])
    ∷ bid (1 ∷ 2 ∷ 3 ∷ 5 ∷ 6 ∷ 7 ∷ 8 ∷ 9 ∷ []) (1 ∷ 2 ∷ 2 ∷ 3 ∷ 3 ∷ 3 ∷ 3 ∷ 4 ∷ [])
    ∷ bid [] []
    ∷ (0 ∷ 0 ∷ 0 ∷ 0 ∷ 0 ∷ []) ∷ (0 ∷ 0 ∷ 0 ∷ 0 ∷ []) ∷ (0 ∷ 1 ∷ 1 ∷ []) ∷ (0 ∷ 1 ∷ []) ∷ (0 ∷ [])
    ∷ (0 ∷ 0 ∷ 0 ∷ 0 ∷ 0 ∷ []) ∷ (0 ∷ 0 ∷ 0 ∷ 0 ∷ 0 ∷ []) ∷ (0 ∷ 0 ∷ 0 ∷ 0 ∷ 0 ∷ []) ∷ (4 ∷ 2 ∷ 1 ∷ 4 ∷ 1 ∷ []) ∷ (1 ∷ 1 ∷ 2 ∷ 0 ∷ 1 ∷ [])
    ∷ (1 ∷ 1 ∷ 38 ∷ 87 ∷ 1 ∷ [])
    -- line 1: participant, point, side, accreditation, hedge; bids; pricing rows; operating rows; actuals
    ∷ (101 ∷ 3 ∷ 1 ∷ 1 ∷ 0 ∷ [])
    ∷ bid (9 ∷ []) (3 ∷ [])
    ∷ bid (11 ∷ []) (3 ∷ [])
    ∷ bid (11 ∷ []) (1 ∷ [])
    ∷ bid (11 ∷ []) (4 ∷ [])
    ∷ bid (11 ∷ []) (0 ∷ [])
    ∷ (0 ∷ 0 ∷ 0 ∷ 0 ∷ 0 ∷ []) ∷ (0 ∷ 8 ∷ 3 ∷ 0 ∷ []) ∷ (0 ∷ 1 ∷ 0 ∷ []) ∷ (0 ∷ 0 ∷ []) ∷ (0 ∷ [])
    ∷ (0 ∷ 0 ∷ 0 ∷ 0 ∷ 0 ∷ []) ∷ (0 ∷ 0 ∷ 0 ∷ 11 ∷ 0 ∷ []) ∷ (0 ∷ 5 ∷ 3 ∷ 4 ∷ 0 ∷ []) ∷ (3192311900 ∷ 4294967295 ∷ 0 ∷ 4294967295 ∷ 0 ∷ []) ∷ (0 ∷ 0 ∷ 0 ∷ 0 ∷ 6 ∷ [])
    ∷ (0 ∷ 92 ∷ 59 ∷ 0 ∷ 6 ∷ [])
    -- the records: line, schedule, order number, five quantities
    ∷ (1 ∷ 4 ∷ 4294967295 ∷ 1 ∷ 2 ∷ 4 ∷ 1 ∷ 3 ∷ [])
    ∷ (1 ∷ 4 ∷ 2 ∷ 4294967295 ∷ 0 ∷ 732938 ∷ 0 ∷ 5 ∷ [])
    ∷ [])

unfoldable pub ad_hoc3_day : List ℕ
ad_hoc3_day = bytes_of ad_hoc3_words

-- the book, as words: n, 16, 96, 96 + 56n; five pairs t, a; of each line participant, point, side, count and payments, low word first
unfoldable pub ad_hoc3_book : List ℕ
ad_hoc3_book =
    bytes_of
    (concat
    ((2 ∷ 16 ∷ 96 ∷ 208 ∷ [])
    ∷ (0 ∷ 0 ∷ 0 ∷ 0 ∷ 0 ∷ 0 ∷ 0 ∷ 0 ∷ 50 ∷ 0 ∷ 50 ∷ 0 ∷ 1 ∷ 0 ∷ 1 ∷ 0 ∷ 0 ∷ 0 ∷ 0 ∷ 0 ∷ [])
    ∷ (101 ∷ 4294967295 ∷ 0 ∷ 11 ∷ 0 ∷ 0 ∷ 0 ∷ 0 ∷ 0 ∷ 0 ∷ 0 ∷ 0 ∷ 0 ∷ 0 ∷ [])
    ∷ (101 ∷ 3 ∷ 1 ∷ 2 ∷ 0 ∷ 0 ∷ 0 ∷ 0 ∷ 50 ∷ 0 ∷ 1 ∷ 0 ∷ 0 ∷ 0 ∷ [])
    ∷ []))

unfoldable pub ad_hoc3_text : List ℕ
ad_hoc3_text =
    lines_of
    ("day 2"
    ∷ "101 4294967295 INJ 11 0 0 0 0 0"
    ∷ "101 3 WDR 2 0 0 50 1 0"
    ∷ "total 0 0 50 1 0"
    ∷ "adjusted 0 0 50 1 0"
    ∷ [])

-- each step: line, step; end, width, A; five rows of price, flag, O, E, AGINO, MSIQ, C, initial, revised, modified, final; the ten matches;
-- where the line has an excess, that of pricing, of operating and of the effective actual
unfoldable pub ad_hoc3_views_on : List ℕ → List Case
ad_hoc3_views_on d =
    viewed d 0 0 (1 ∷ 1 ∷ 1 ∷ [])
    (row 1 0 0 0 0 0 0 0 0 0 0
    ∷ row 1 0 0 0 0 0 0 0 0 0 0
    ∷ row 1 0 0 1 0 0 0 0 0 0 0
    ∷ row 1 0 1 1 0 0 1 0 0 0 0
    ∷ row 4 1 1 0 0 0 1 0 0 0 0 ∷ [])
    (0 ∷ 0 ∷ 0 ∷ 0 ∷ 0 ∷ 0 ∷ 0 ∷ 0 ∷ 0 ∷ 0 ∷ [])
    ∷ viewed d 0 1 (2 ∷ 1 ∷ 1 ∷ [])
    (row 2 0 0 0 0 0 0 0 0 0 0
    ∷ row 2 0 0 0 0 0 0 0 0 0 0
    ∷ row 2 0 0 1 0 0 0 0 0 0 0
    ∷ row 2 0 1 0 0 0 1 0 0 0 0
    ∷ row 4 1 1 0 0 0 1 0 0 0 0 ∷ [])
    (0 ∷ 0 ∷ 0 ∷ 0 ∷ 0 ∷ 0 ∷ 0 ∷ 0 ∷ 0 ∷ 0 ∷ [])
    ∷ viewed d 0 2 (3 ∷ 1 ∷ 1 ∷ [])
    (row 2 0 0 0 0 0 0 0 0 0 0
    ∷ row 2 0 0 0 0 0 0 0 0 0 0
    ∷ row 2 0 0 0 0 0 0 0 0 0 0
    ∷ row 2 0 1 0 0 0 1 0 0 0 0
    ∷ row 4 1 1 0 0 0 1 0 0 0 0 ∷ [])
    (0 ∷ 0 ∷ 0 ∷ 0 ∷ 0 ∷ 0 ∷ 0 ∷ 0 ∷ 0 ∷ 0 ∷ [])
    ∷ viewed d 0 3 (5 ∷ 2 ∷ 2 ∷ [])
    (row 3 0 0 0 0 0 0 0 0 0 0
    ∷ row 3 0 0 0 0 0 0 0 0 0 0
    ∷ row 3 0 0 0 0 0 0 0 0 0 0
    ∷ row 3 0 2 0 0 0 2 0 0 0 0
    ∷ row 4 1 2 0 0 0 2 0 0 0 0 ∷ [])
    (0 ∷ 0 ∷ 0 ∷ 0 ∷ 0 ∷ 0 ∷ 0 ∷ 0 ∷ 0 ∷ 0 ∷ [])
    ∷ viewed d 0 4 (6 ∷ 1 ∷ 0 ∷ [])
    (row 3 0 0 0 0 0 0 0 0 0 0
    ∷ row 3 0 0 0 0 0 0 0 0 0 0
    ∷ row 3 0 0 0 0 0 0 0 0 0 0
    ∷ row 3 0 1 0 0 0 1 0 0 0 0
    ∷ row 4 1 0 0 0 0 0 (neg 3) (neg 2) 0 0 ∷ [])
    (0 ∷ 0 ∷ 0 ∷ 0 ∷ 0 ∷ 0 ∷ 0 ∷ 0 ∷ 0 ∷ 1 ∷ [])
    ∷ viewed d 0 5 (7 ∷ 1 ∷ 0 ∷ [])
    (row 3 0 0 0 0 0 0 0 0 0 0
    ∷ row 3 0 0 0 0 0 0 0 0 0 0
    ∷ row 3 0 0 0 0 0 0 0 0 0 0
    ∷ row 3 0 1 0 0 0 1 0 0 0 0
    ∷ row 4 1 0 0 0 0 0 (neg 3) (neg 2) 0 0 ∷ [])
    (0 ∷ 0 ∷ 0 ∷ 0 ∷ 0 ∷ 0 ∷ 0 ∷ 0 ∷ 0 ∷ 1 ∷ [])
    ∷ viewed d 0 6 (8 ∷ 1 ∷ 0 ∷ [])
    (row 3 0 0 0 0 0 0 0 0 0 0
    ∷ row 3 0 0 0 0 0 0 0 0 0 0
    ∷ row 3 0 0 0 0 0 0 0 0 0 0
    ∷ row 3 0 1 0 0 0 1 0 0 0 0
    ∷ row 4 1 0 0 0 0 0 (neg 3) (neg 2) 0 0 ∷ [])
    (0 ∷ 0 ∷ 0 ∷ 0 ∷ 0 ∷ 0 ∷ 0 ∷ 0 ∷ 0 ∷ 1 ∷ [])
    ∷ viewed d 0 7 (9 ∷ 1 ∷ 0 ∷ [])
    (row 4 0 0 0 0 0 0 0 0 0 0
    ∷ row 4 0 0 0 0 0 0 0 0 0 0
    ∷ row 4 0 0 0 0 0 0 0 0 0 0
    ∷ row 4 0 1 0 0 0 1 0 0 0 0
    ∷ row 4 1 0 0 0 0 0 (neg 3) (neg 3) 0 0 ∷ [])
    (0 ∷ 0 ∷ 0 ∷ 0 ∷ 0 ∷ 0 ∷ 0 ∷ 0 ∷ 0 ∷ 1 ∷ [])
    ∷ viewed d 0 8 (10 ∷ 1 ∷ 0 ∷ [])
    (row 5 0 0 0 0 0 0 0 0 0 0
    ∷ row 5 0 0 0 0 0 0 0 0 0 0
    ∷ row 4 1 0 0 0 0 0 0 0 0 0
    ∷ row 4 1 1 0 0 0 1 0 0 0 0
    ∷ row 4 1 0 0 0 0 0 (neg 3) (neg 3) 0 0 ∷ [])
    (0 ∷ 0 ∷ 0 ∷ 0 ∷ 0 ∷ 0 ∷ 0 ∷ 0 ∷ 0 ∷ 1 ∷ [])
    ∷ viewed d 0 9 (11 ∷ 1 ∷ 0 ∷ [])
    (row 5 0 0 0 0 0 0 0 0 0 0
    ∷ row 5 0 0 0 0 0 0 0 0 0 0
    ∷ row 4 1 0 0 0 0 0 0 0 0 0
    ∷ row 4 1 1 0 0 0 1 0 0 0 0
    ∷ row 4 1 0 0 0 0 0 (neg 3) (neg 3) 0 0 ∷ [])
    (0 ∷ 0 ∷ 0 ∷ 0 ∷ 0 ∷ 0 ∷ 0 ∷ 0 ∷ 0 ∷ 1 ∷ [])
    ∷ viewed d 0 10 (12 ∷ 1 ∷ 0 ∷ [])
    (row 6 0 0 0 0 0 0 0 0 0 0
    ∷ row 6 0 0 0 0 0 0 0 0 0 0
    ∷ row 4 1 0 0 0 0 0 0 0 0 0
    ∷ row 4 1 1 0 0 0 1 0 0 0 0
    ∷ row 4 1 0 0 0 0 0 (neg 3) (neg 3) 0 0 ∷ [])
    (0 ∷ 0 ∷ 0 ∷ 0 ∷ 0 ∷ 0 ∷ 0 ∷ 0 ∷ 0 ∷ 1 ∷ [])
    ∷ viewed_over d 1 0 (9 ∷ 9 ∷ 6 ∷ [])
    (row 3 0 0 0 0 0 0 0 0 0 0
    ∷ row 3 0 9 9 0 9 0 0 0 0 0
    ∷ row 1 0 9 1 0 1 8 40 40 40 40
    ∷ row 4 0 9 0 0 0 9 1 1 1 1
    ∷ row 0 0 6 0 0 0 6 (neg 3) 0 (neg 11) 0 ∷ [])
    (0 ∷ 0 ∷ 0 ∷ 0 ∷ 0 ∷ 0 ∷ 0 ∷ 0 ∷ 2 ∷ 1 ∷ [])
    (0 ∷ 0 ∷ 0 ∷ 0 ∷ 0 ∷ []) (0 ∷ 0 ∷ 1 ∷ 0 ∷ 0 ∷ []) 0
    ∷ viewed_over d 1 1 (11 ∷ 2 ∷ 0 ∷ [])
    (row 3 1 0 0 0 0 0 0 0 0 0
    ∷ row 3 0 2 2 0 2 0 0 0 0 0
    ∷ row 1 0 2 0 0 0 2 10 10 10 10
    ∷ row 4 0 2 0 0 0 2 0 0 0 0
    ∷ row 0 0 0 0 0 0 0 (neg 2) 0 (neg 10) 0 ∷ [])
    (0 ∷ 0 ∷ 0 ∷ 0 ∷ 0 ∷ 0 ∷ 0 ∷ 0 ∷ 2 ∷ 0 ∷ [])
    (0 ∷ 0 ∷ 0 ∷ 0 ∷ 0 ∷ []) (0 ∷ 0 ∷ 1 ∷ 0 ∷ 0 ∷ []) 0
    ∷ []

-- each line of the cutter: ends; five rows of uncapped prices; words of flags; how many are set. The uncapped prices are worked out from
-- the words above by document 01's sentence, since the third implementation's steps have capped ones; a line whose own row is above M + 1,000 is
-- refused with 12, though that row is not in force
unfoldable pub ad_hoc3_cuts_on : List ℕ → List Case
ad_hoc3_cuts_on d =
    cut_into d 0 (1 ∷ 2 ∷ 3 ∷ 5 ∷ 6 ∷ 7 ∷ 8 ∷ 9 ∷ 10 ∷ 11 ∷ 12 ∷ [])
    ((1 ∷ 2 ∷ 2 ∷ 3 ∷ 3 ∷ 3 ∷ 3 ∷ 4 ∷ 5 ∷ 5 ∷ 6 ∷ []) ∷ (1 ∷ 2 ∷ 2 ∷ 3 ∷ 3 ∷ 3 ∷ 3 ∷ 4 ∷ 5 ∷ 5 ∷ 6 ∷ []) ∷ (1 ∷ 2 ∷ 2 ∷ 3 ∷ 3 ∷ 3 ∷ 3 ∷ 4 ∷ 4 ∷ 4 ∷ 4 ∷ [])
    ∷ (1 ∷ 2 ∷ 2 ∷ 3 ∷ 3 ∷ 3 ∷ 3 ∷ 4 ∷ 4 ∷ 4 ∷ 4 ∷ []) ∷ (4 ∷ 4 ∷ 4 ∷ 4 ∷ 4 ∷ 4 ∷ 4 ∷ 4 ∷ 4 ∷ 4 ∷ 4 ∷ []) ∷ [])
    (0 ∷ 0 ∷ 1792 ∷ 1792 ∷ 2047 ∷ []) (0 ∷ 0 ∷ 3 ∷ 3 ∷ 11 ∷ [])
    ∷ record { found = cut_fields (cut_answer (line_at d 1)); expected = 12 ∷ replicate 348 0 }
    ∷ []

-- it is accepted; its book, in a lent one a byte longer; its report; every step of every line; every line
unfoldable pub ad_hoc3_cases_on : List ℕ → List Case
ad_hoc3_cases_on d =
    number (day_fault d) 0 ∷ booked d (replicate 209 170) (ad_hoc3_book ++ (170 ∷ []))
    ∷ printed d ad_hoc3_text ∷ (ad_hoc3_views_on d ++ ad_hoc3_cuts_on d)

unfoldable pub ad_hoc3_cases : List Case
ad_hoc3_cases = ad_hoc3_cases_on ad_hoc3_day

-- all of this file, opened
unfoldable pub ad_hoc3_opened : ℕ
unfolding ad_hoc3_words ad_hoc3_day ad_hoc3_book ad_hoc3_text ad_hoc3_views_on ad_hoc3_cuts_on ad_hoc3_cases_on ad_hoc3_cases
ad_hoc3_opened = 0
