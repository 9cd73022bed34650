-- Ad hoc 0: six ad hoc records for an injection and a withdrawal, with the own rows 2 and 5 of line 0 and a record that is not in force above
-- M + 1,000; clawback on. Of schedule 2 the record in force is neither the first nor the last in the file, and its order number is the highest as
-- an unsigned word alone. The cutter, which reads line 0's own rows, refuses it. Worked by hand (docs/RULES.md).
use Rattle.std.specs.Prelude.{ℕ, List, [], ◌∷◌, ◌++◌, replicate}
use Rattle.rules.specs.Layout.{line_at}
use Rattle.rules.specs.Refusals.{day_fault}
use Rattle.rules.specs.Cutting.{cut_answer}
use Rattle.rules.proofs.Worked.Cases.{Case, concat, bytes_of, lines_of, bid, neg, row, number, cut_fields, booked, printed, viewed, viewed_over, cut_into}

unfoldable pub ad_hoc0_words : List ℕ
ad_hoc0_words =
    concat
    -- n, where market table and lines stand, the length, the count of records and where they stand
    ((2 ∷ 24 ∷ 72 ∷ 1584 ∷ 6 ∷ 1392 ∷ [])
    -- market prices, cap marks, APC, clawback
    ∷ (40000 ∷ 40000 ∷ 40000 ∷ 40000 ∷ 40000 ∷ []) ∷ (0 ∷ 0 ∷ 0 ∷ 0 ∷ 0 ∷ []) ∷ (60000 ∷ 1 ∷ [])
    -- line 0: participant, point, side, accreditation, hedge; bids; pricing rows; operating rows; actuals
    ∷ (51 ∷ 1 ∷ 0 ∷ 1 ∷ 0 ∷ [])
    ∷ bid (20000 ∷ 60000 ∷ []) (30000 ∷ 70000 ∷ [])
    ∷ bid (20000 ∷ 60000 ∷ []) (30000 ∷ 70000 ∷ [])
    ∷ bid (20000 ∷ 60000 ∷ []) (30000 ∷ 70000 ∷ [])
    ∷ bid (20000 ∷ 60000 ∷ []) (30000 ∷ 70000 ∷ [])
    ∷ bid (20000 ∷ 60000 ∷ []) (30000 ∷ 70000 ∷ [])
    ∷ (20000 ∷ 0 ∷ 0 ∷ 0 ∷ 0 ∷ []) ∷ (0 ∷ 0 ∷ 0 ∷ 0 ∷ []) ∷ (0 ∷ 0 ∷ 0 ∷ []) ∷ (0 ∷ 0 ∷ []) ∷ (0 ∷ [])
    ∷ (0 ∷ 0 ∷ 0 ∷ 0 ∷ 20000 ∷ []) ∷ (0 ∷ 0 ∷ 0 ∷ 0 ∷ 90000 ∷ []) ∷ (0 ∷ 0 ∷ 0 ∷ 0 ∷ 50000 ∷ []) ∷ (0 ∷ 0 ∷ 0 ∷ 0 ∷ 43000 ∷ []) ∷ (0 ∷ 0 ∷ 50000 ∷ 50000 ∷ 50000 ∷ [])
    ∷ (0 ∷ 0 ∷ 5000 ∷ 30000 ∷ 22000 ∷ [])
    -- line 1: participant, point, side, accreditation, hedge; bids; pricing rows; operating rows; actuals
    ∷ (52 ∷ 2 ∷ 1 ∷ 1 ∷ 0 ∷ [])
    ∷ bid (50000 ∷ []) (20000 ∷ [])
    ∷ bid (50000 ∷ []) (20000 ∷ [])
    ∷ bid (50000 ∷ []) (20000 ∷ [])
    ∷ bid (50000 ∷ []) (20000 ∷ [])
    ∷ bid (50000 ∷ []) (20000 ∷ [])
    ∷ (0 ∷ 0 ∷ 0 ∷ 0 ∷ 0 ∷ []) ∷ (0 ∷ 0 ∷ 0 ∷ 0 ∷ []) ∷ (0 ∷ 0 ∷ 0 ∷ []) ∷ (0 ∷ 0 ∷ []) ∷ (0 ∷ [])
    ∷ (0 ∷ 0 ∷ 0 ∷ 0 ∷ 10000 ∷ []) ∷ (0 ∷ 0 ∷ 0 ∷ 0 ∷ 30000 ∷ []) ∷ (0 ∷ 0 ∷ 0 ∷ 0 ∷ 30000 ∷ []) ∷ (0 ∷ 0 ∷ 0 ∷ 0 ∷ 35000 ∷ []) ∷ (0 ∷ 0 ∷ 0 ∷ 0 ∷ 20000 ∷ [])
    ∷ (0 ∷ 0 ∷ 0 ∷ 0 ∷ 20000 ∷ [])
    -- the records: line, schedule, order number, five quantities
    ∷ (0 ∷ 2 ∷ 7 ∷ 0 ∷ 0 ∷ 0 ∷ 0 ∷ 30000 ∷ [])
    ∷ (0 ∷ 5 ∷ 3 ∷ 0 ∷ 0 ∷ 0 ∷ 0 ∷ 100000 ∷ [])
    ∷ (0 ∷ 2 ∷ 2147483648 ∷ 10000 ∷ 20000 ∷ 0 ∷ 0 ∷ 30400 ∷ [])
    ∷ (1 ∷ 3 ∷ 0 ∷ 0 ∷ 0 ∷ 7000 ∷ 20000 ∷ 20000 ∷ [])
    ∷ (0 ∷ 5 ∷ 4 ∷ 0 ∷ 0 ∷ 0 ∷ 20000 ∷ 25000 ∷ [])
    ∷ (0 ∷ 2 ∷ 5 ∷ 0 ∷ 0 ∷ 0 ∷ 0 ∷ 40000 ∷ [])
    ∷ [])

unfoldable pub ad_hoc0_day : List ℕ
ad_hoc0_day = bytes_of ad_hoc0_words

-- the book, as words: n, 16, 96, 96 + 56n; five pairs t, a; of each line participant, point, side, count and payments, low word first
unfoldable pub ad_hoc0_book : List ℕ
ad_hoc0_book =
    bytes_of
    (concat
    ((2 ∷ 16 ∷ 96 ∷ 208 ∷ [])
    ∷ (200000000 ∷ 0 ∷ 200000000 ∷ 0 ∷ 1570000000 ∷ 0 ∷ 860000000 ∷ 0 ∷ 40000000 ∷ 0 ∷ 0 ∷ 0 ∷ 3844967296 ∷ 4294967295 ∷ 0 ∷ 0 ∷ 3994967296 ∷ 4294967295 ∷ 0 ∷ 0 ∷ [])
    ∷ (51 ∷ 1 ∷ 0 ∷ 2 ∷ 0 ∷ 0 ∷ 1170000000 ∷ 0 ∷ 3994967296 ∷ 4294967295 ∷ 4084967296 ∷ 4294967295 ∷ 0 ∷ 0 ∷ [])
    ∷ (52 ∷ 2 ∷ 1 ∷ 1 ∷ 200000000 ∷ 0 ∷ 400000000 ∷ 0 ∷ 340000000 ∷ 0 ∷ 4054967296 ∷ 4294967295 ∷ 3994967296 ∷ 4294967295 ∷ [])
    ∷ []))

unfoldable pub ad_hoc0_text : List ℕ
ad_hoc0_text =
    lines_of
    ("day 2"
    ∷ "51 1 INJ 2 0 1170000000 -300000000 -210000000 0"
    ∷ "52 2 WDR 1 200000000 400000000 340000000 -240000000 -300000000"
    ∷ "total 200000000 1570000000 40000000 -450000000 -300000000"
    ∷ "adjusted 200000000 860000000 0 0 0"
    ∷ [])

-- each step: line, step; end, width, A; five rows of price, flag, O, E, AGINO, MSIQ, C, initial, revised, modified, final; the ten matches;
-- where the line has an excess, that of pricing, of operating and of the effective actual
unfoldable pub ad_hoc0_views_on : List ℕ → List Case
ad_hoc0_views_on d =
    viewed_over d 0 0 (20000 ∷ 20000 ∷ 20000 ∷ [])
    (row 30000 0 20000 20000 0 20000 0 0 0 0 0
    ∷ row 30000 0 20000 20000 0 20000 0 0 0 0 0
    ∷ row 30000 0 20000 20000 0 20000 0 0 0 0 0
    ∷ row 30000 0 20000 20000 0 20000 0 0 0 0 0
    ∷ row 30000 0 20000 20000 0 20000 0 0 0 0 0 ∷ [])
    (0 ∷ 0 ∷ 0 ∷ 0 ∷ 0 ∷ 0 ∷ 0 ∷ 0 ∷ 0 ∷ 0 ∷ [])
    (0 ∷ 0 ∷ 0 ∷ 0 ∷ 0 ∷ []) (0 ∷ 400 ∷ 0 ∷ 0 ∷ 0 ∷ []) 0
    ∷ viewed_over d 0 1 (60000 ∷ 40000 ∷ 22000 ∷ [])
    (row 70000 0 0 0 0 0 0 0 0 0 0
    ∷ row 70000 0 40000 0 1000 0 39000 1170000000 1170000000 1170000000 1170000000
    ∷ row 70000 0 30000 0 1000 0 29000 (neg 300000000) (neg 300000000) (neg 300000000) (neg 300000000)
    ∷ row 70000 0 23000 0 1000 0 22000 (neg 210000000) (neg 210000000) (neg 210000000) (neg 210000000)
    ∷ row 70000 0 25000 0 3000 0 22000 0 0 0 0 ∷ [])
    (0 ∷ 0 ∷ 10000 ∷ 0 ∷ 7000 ∷ 0 ∷ 0 ∷ 0 ∷ 0 ∷ 0 ∷ [])
    (0 ∷ 0 ∷ 0 ∷ 0 ∷ 0 ∷ []) (0 ∷ 400 ∷ 0 ∷ 0 ∷ 0 ∷ []) 0
    ∷ viewed d 1 0 (50000 ∷ 50000 ∷ 20000 ∷ [])
    (row 20000 0 10000 0 0 0 10000 200000000 200000000 200000000 200000000
    ∷ row 20000 0 30000 0 0 0 30000 400000000 400000000 400000000 400000000
    ∷ row 20000 0 47000 0 0 0 47000 340000000 340000000 340000000 340000000
    ∷ row 20000 0 35000 0 0 0 35000 (neg 240000000) (neg 240000000) (neg 240000000) (neg 240000000)
    ∷ row 20000 0 20000 0 0 0 20000 (neg 300000000) (neg 300000000) (neg 300000000) (neg 300000000) ∷ [])
    (0 ∷ 0 ∷ 0 ∷ 0 ∷ 0 ∷ 12000 ∷ 0 ∷ 10000 ∷ 5000 ∷ 0 ∷ [])
    ∷ []

-- the cutter: line 0 is refused with 12 by its own rows; of line 1 ends, five rows of uncapped prices, words of flags, how many are set
unfoldable pub ad_hoc0_cuts_on : List ℕ → List Case
ad_hoc0_cuts_on d =
    record { found = cut_fields (cut_answer (line_at d 0)); expected = 12 ∷ replicate 348 0 }
    ∷ cut_into d 1 (50000 ∷ [])
    ((20000 ∷ []) ∷ (20000 ∷ []) ∷ (20000 ∷ [])
    ∷ (20000 ∷ []) ∷ (20000 ∷ []) ∷ [])
    (0 ∷ 0 ∷ 0 ∷ 0 ∷ 0 ∷ []) (0 ∷ 0 ∷ 0 ∷ 0 ∷ 0 ∷ [])
    ∷ []

-- it is accepted; its book, in a lent one a byte longer; its report; every step of every line; every line
unfoldable pub ad_hoc0_cases_on : List ℕ → List Case
ad_hoc0_cases_on d =
    number (day_fault d) 0 ∷ booked d (replicate 209 170) (ad_hoc0_book ++ (170 ∷ []))
    ∷ printed d ad_hoc0_text ∷ (ad_hoc0_views_on d ++ ad_hoc0_cuts_on d)

unfoldable pub ad_hoc0_cases : List Case
ad_hoc0_cases = ad_hoc0_cases_on ad_hoc0_day

-- all of this file, opened
unfoldable pub ad_hoc0_opened : ℕ
unfolding ad_hoc0_words ad_hoc0_day ad_hoc0_book ad_hoc0_text ad_hoc0_views_on ad_hoc0_cuts_on ad_hoc0_cases_on ad_hoc0_cases
ad_hoc0_opened = 0
