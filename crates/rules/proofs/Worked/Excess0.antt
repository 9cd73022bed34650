-- Excess 0: two injections and a withdrawal with totals above M in pricing, in operating and, on line 0, in the effective actual; clawback on.
-- In schedules with an excess line 0 rises and falls and lines 1 and 2 rise: counted as constrained on it would be paid. Worked by hand (docs/RULES.md).
use Rattle.std.specs.Prelude.{ℕ, List, [], ◌∷◌, ◌++◌, replicate}
use Rattle.rules.proofs.Worked.Cases.{Case, concat, bytes_of, lines_of, bid, neg, row, number, booked, printed, viewed_over, cut_into}
use Rattle.rules.specs.Refusals.{day_fault}

unfoldable pub excess0_words : List ℕ
excess0_words =
    concat
    ((3 ∷ 16 ∷ 64 ∷ 2044 ∷ [])
    -- market prices, cap marks, APC, clawback
    ∷ (40000 ∷ 40000 ∷ 50000 ∷ 40000 ∷ 40000 ∷ []) ∷ (0 ∷ 0 ∷ 0 ∷ 0 ∷ 0 ∷ []) ∷ (60000 ∷ 1 ∷ [])
    -- line 0: participant, point, side, accreditation, hedge; bids; pricing rows; operating rows; actuals
    ∷ (41 ∷ 1 ∷ 0 ∷ 1 ∷ 0 ∷ [])
    ∷ bid (20000 ∷ 60000 ∷ []) (30000 ∷ 70000 ∷ [])
    ∷ bid (20000 ∷ 60000 ∷ []) (30000 ∷ 70000 ∷ [])
    ∷ bid (20000 ∷ 60000 ∷ []) (30000 ∷ 80000 ∷ [])
    ∷ bid (20000 ∷ 60000 ∷ []) (30000 ∷ 70000 ∷ [])
    ∷ bid (20000 ∷ 60000 ∷ []) (30000 ∷ 70000 ∷ [])
    ∷ (20000 ∷ 0 ∷ 0 ∷ 0 ∷ 0 ∷ []) ∷ (0 ∷ 0 ∷ 0 ∷ 0 ∷ []) ∷ (0 ∷ 0 ∷ 40300 ∷ []) ∷ (0 ∷ 0 ∷ []) ∷ (0 ∷ [])
    ∷ (0 ∷ 0 ∷ 0 ∷ 0 ∷ 20000 ∷ []) ∷ (0 ∷ 0 ∷ 0 ∷ 0 ∷ 60500 ∷ []) ∷ (0 ∷ 0 ∷ 0 ∷ 0 ∷ 60500 ∷ []) ∷ (0 ∷ 0 ∷ 0 ∷ 0 ∷ 45000 ∷ []) ∷ (0 ∷ 0 ∷ 0 ∷ 30000 ∷ 30400 ∷ [])
    ∷ (0 ∷ 0 ∷ 0 ∷ 40000 ∷ 30100 ∷ [])
    -- line 1: participant, point, side, accreditation, hedge; bids; pricing rows; operating rows; actuals
    ∷ (42 ∷ 1 ∷ 0 ∷ 1 ∷ 0 ∷ [])
    ∷ bid (80000 ∷ []) (62000 ∷ [])
    ∷ bid (80000 ∷ []) (62000 ∷ [])
    ∷ bid (80000 ∷ []) (62000 ∷ [])
    ∷ bid (80000 ∷ []) (62000 ∷ [])
    ∷ bid (80000 ∷ []) (62000 ∷ [])
    ∷ (0 ∷ 0 ∷ 0 ∷ 0 ∷ 0 ∷ []) ∷ (0 ∷ 0 ∷ 0 ∷ 0 ∷ []) ∷ (0 ∷ 0 ∷ 0 ∷ []) ∷ (0 ∷ 0 ∷ []) ∷ (0 ∷ [])
    ∷ (0 ∷ 0 ∷ 0 ∷ 0 ∷ 0 ∷ []) ∷ (0 ∷ 0 ∷ 0 ∷ 0 ∷ 0 ∷ []) ∷ (0 ∷ 0 ∷ 0 ∷ 0 ∷ 80800 ∷ []) ∷ (0 ∷ 0 ∷ 0 ∷ 0 ∷ 80800 ∷ []) ∷ (0 ∷ 0 ∷ 0 ∷ 0 ∷ 81000 ∷ [])
    ∷ (0 ∷ 0 ∷ 0 ∷ 0 ∷ 75000 ∷ [])
    -- line 2: participant, point, side, accreditation, hedge; bids; pricing rows; operating rows; actuals
    ∷ (43 ∷ 2 ∷ 1 ∷ 1 ∷ 0 ∷ [])
    ∷ bid (30000 ∷ 60000 ∷ []) (50000 ∷ 20000 ∷ [])
    ∷ bid (30000 ∷ 60000 ∷ []) (50000 ∷ 20000 ∷ [])
    ∷ bid (30000 ∷ 60000 ∷ []) (50000 ∷ 20000 ∷ [])
    ∷ bid (30000 ∷ 60000 ∷ []) (50000 ∷ 20000 ∷ [])
    ∷ bid (30000 ∷ 60000 ∷ []) (50000 ∷ 20000 ∷ [])
    ∷ (30000 ∷ 0 ∷ 0 ∷ 0 ∷ 0 ∷ []) ∷ (0 ∷ 0 ∷ 0 ∷ 0 ∷ []) ∷ (0 ∷ 0 ∷ 0 ∷ []) ∷ (0 ∷ 0 ∷ []) ∷ (30600 ∷ [])
    ∷ (0 ∷ 0 ∷ 0 ∷ 0 ∷ 30000 ∷ []) ∷ (0 ∷ 0 ∷ 0 ∷ 0 ∷ 60200 ∷ []) ∷ (0 ∷ 0 ∷ 0 ∷ 0 ∷ 60000 ∷ []) ∷ (0 ∷ 0 ∷ 0 ∷ 0 ∷ 60000 ∷ []) ∷ (0 ∷ 0 ∷ 0 ∷ 0 ∷ 60000 ∷ [])
    ∷ (0 ∷ 0 ∷ 0 ∷ 0 ∷ 60000 ∷ [])
    ∷ [])

unfoldable pub excess0_day : List ℕ
excess0_day = bytes_of excess0_words

-- the book, as words: n, 16, 96, 96 + 56n; five pairs t, a; of each line participant, point, side, count and payments, low word first
unfoldable pub excess0_book : List ℕ
excess0_book =
    bytes_of
    (concat
    ((3 ∷ 16 ∷ 96 ∷ 264 ∷ [])
    ∷ (0 ∷ 0 ∷ 0 ∷ 0 ∷ 1800000000 ∷ 0 ∷ 1800000000 ∷ 0 ∷ 46666667 ∷ 0 ∷ 46666667 ∷ 0 ∷ 750000000 ∷ 0 ∷ 600000000 ∷ 0 ∷ 4144967296 ∷ 4294967295 ∷ 0 ∷ 0 ∷ [])
    ∷ (41 ∷ 1 ∷ 0 ∷ 2 ∷ 0 ∷ 0 ∷ 1200000000 ∷ 0 ∷ 3441633963 ∷ 4294967295 ∷ 750000000 ∷ 0 ∷ 450000000 ∷ 0 ∷ [])
    ∷ (42 ∷ 1 ∷ 0 ∷ 1 ∷ 0 ∷ 0 ∷ 0 ∷ 0 ∷ 900000000 ∷ 0 ∷ 0 ∷ 0 ∷ 0 ∷ 0 ∷ [])
    ∷ (43 ∷ 2 ∷ 1 ∷ 2 ∷ 0 ∷ 0 ∷ 600000000 ∷ 0 ∷ 0 ∷ 0 ∷ 0 ∷ 0 ∷ 3694967296 ∷ 4294967295 ∷ [])
    ∷ []))

unfoldable pub excess0_text : List ℕ
excess0_text =
    lines_of
    ("day 3"
    ∷ "41 1 INJ 2 0 1200000000 -853333333 750000000 450000000"
    ∷ "42 1 INJ 1 0 0 900000000 0 0"
    ∷ "43 2 WDR 2 0 600000000 0 0 -600000000"
    ∷ "total 0 1800000000 46666667 750000000 -150000000"
    ∷ "adjusted 0 1800000000 46666667 600000000 0"
    ∷ [])

-- each step: line, step; end, width, A; five rows of price, flag, O, E, AGINO, MSIQ, C, initial, revised, modified, final; the ten matches;
-- where the line has an excess, that of pricing, of operating and of the effective actual
unfoldable pub excess0_views_on : List ℕ → List Case
excess0_views_on d =
    viewed_over d 0 0 (20000 ∷ 20000 ∷ 20000 ∷ [])
    (row 30000 0 20000 20000 0 20000 0 0 0 0 0
    ∷ row 30000 0 20000 20000 0 20000 0 0 0 0 0
    ∷ row 30000 0 20000 20000 0 20000 0 0 0 0 0
    ∷ row 30000 0 20000 20000 0 20000 0 0 0 0 0
    ∷ row 30000 0 20000 20000 0 20000 0 0 0 0 0 ∷ [])
    (0 ∷ 0 ∷ 0 ∷ 0 ∷ 0 ∷ 0 ∷ 0 ∷ 0 ∷ 0 ∷ 0 ∷ [])
    (0 ∷ 0 ∷ 300 ∷ 0 ∷ 0 ∷ []) (0 ∷ 500 ∷ 500 ∷ 0 ∷ 400 ∷ []) 100
    ∷ viewed_over d 0 1 (60000 ∷ 40000 ∷ 40000 ∷ [])
    (row 70000 0 0 0 0 0 0 0 0 0 0
    ∷ row 70000 0 40000 0 0 0 40000 1200000000 1200000000 1200000000 1200000000
    ∷ row 80000 0 40000 40000 0 40000 0 (neg 1200000000) (neg 800000000) (neg 1200000000) (neg 853333333)
    ∷ row 70000 0 25000 0 0 0 25000 750000000 750000000 750000000 750000000
    ∷ row 70000 0 40000 0 0 0 40000 450000000 450000000 450000000 450000000 ∷ [])
    (0 ∷ 0 ∷ 40000 ∷ 0 ∷ 0 ∷ 0 ∷ 0 ∷ 0 ∷ 0 ∷ 0 ∷ [])
    (0 ∷ 0 ∷ 300 ∷ 0 ∷ 0 ∷ []) (0 ∷ 500 ∷ 500 ∷ 0 ∷ 400 ∷ []) 100
    ∷ viewed_over d 1 0 (80000 ∷ 80000 ∷ 75000 ∷ [])
    (row 62000 0 0 0 0 0 0 0 0 0 0
    ∷ row 62000 0 0 0 0 0 0 0 0 0 0
    ∷ row 62000 0 80000 0 5000 0 75000 900000000 900000000 900000000 900000000
    ∷ row 62000 0 80000 0 5000 0 75000 0 0 0 0
    ∷ row 62000 0 80000 0 5000 0 75000 0 0 0 0 ∷ [])
    (0 ∷ 0 ∷ 0 ∷ 0 ∷ 0 ∷ 0 ∷ 0 ∷ 0 ∷ 0 ∷ 0 ∷ [])
    (0 ∷ 0 ∷ 0 ∷ 0 ∷ 0 ∷ []) (0 ∷ 0 ∷ 800 ∷ 800 ∷ 1000 ∷ []) 0
    ∷ viewed_over d 2 0 (30000 ∷ 30000 ∷ 30000 ∷ [])
    (row 50000 0 30000 30000 0 30000 0 0 0 0 0
    ∷ row 50000 0 30000 30000 0 30000 0 0 0 0 0
    ∷ row 50000 0 30000 30000 0 30000 0 0 0 0 0
    ∷ row 50000 0 30000 30000 0 30000 0 0 0 0 0
    ∷ row 50000 0 30000 30000 0 30000 0 0 0 0 0 ∷ [])
    (0 ∷ 0 ∷ 0 ∷ 0 ∷ 0 ∷ 0 ∷ 0 ∷ 0 ∷ 0 ∷ 0 ∷ [])
    (0 ∷ 0 ∷ 0 ∷ 0 ∷ 600 ∷ []) (0 ∷ 200 ∷ 0 ∷ 0 ∷ 0 ∷ []) 0
    ∷ viewed_over d 2 1 (60000 ∷ 30000 ∷ 30000 ∷ [])
    (row 20000 0 0 0 0 0 0 0 0 0 0
    ∷ row 20000 0 30000 0 0 0 30000 600000000 600000000 600000000 600000000
    ∷ row 20000 0 30000 0 0 0 30000 0 0 0 0
    ∷ row 20000 0 30000 0 0 0 30000 0 0 0 0
    ∷ row 20000 0 30000 30000 0 30000 0 (neg 600000000) (neg 600000000) (neg 600000000) (neg 600000000) ∷ [])
    (0 ∷ 0 ∷ 0 ∷ 0 ∷ 0 ∷ 0 ∷ 0 ∷ 30000 ∷ 0 ∷ 0 ∷ [])
    (0 ∷ 0 ∷ 0 ∷ 0 ∷ 600 ∷ []) (0 ∷ 200 ∷ 0 ∷ 0 ∷ 0 ∷ []) 0
    ∷ []

-- each line of the cutter: ends; five rows of uncapped prices; words of flags; how many are set
unfoldable pub excess0_cuts_on : List ℕ → List Case
excess0_cuts_on d =
    cut_into d 0 (20000 ∷ 60000 ∷ [])
    ((30000 ∷ 70000 ∷ []) ∷ (30000 ∷ 70000 ∷ []) ∷ (30000 ∷ 80000 ∷ [])
    ∷ (30000 ∷ 70000 ∷ []) ∷ (30000 ∷ 70000 ∷ []) ∷ [])
    (0 ∷ 0 ∷ 0 ∷ 0 ∷ 0 ∷ []) (0 ∷ 0 ∷ 0 ∷ 0 ∷ 0 ∷ [])
    ∷ cut_into d 1 (80000 ∷ [])
    ((62000 ∷ []) ∷ (62000 ∷ []) ∷ (62000 ∷ [])
    ∷ (62000 ∷ []) ∷ (62000 ∷ []) ∷ [])
    (0 ∷ 0 ∷ 0 ∷ 0 ∷ 0 ∷ []) (0 ∷ 0 ∷ 0 ∷ 0 ∷ 0 ∷ [])
    ∷ cut_into d 2 (30000 ∷ 60000 ∷ [])
    ((50000 ∷ 20000 ∷ []) ∷ (50000 ∷ 20000 ∷ []) ∷ (50000 ∷ 20000 ∷ [])
    ∷ (50000 ∷ 20000 ∷ []) ∷ (50000 ∷ 20000 ∷ []) ∷ [])
    (0 ∷ 0 ∷ 0 ∷ 0 ∷ 0 ∷ []) (0 ∷ 0 ∷ 0 ∷ 0 ∷ 0 ∷ [])
    ∷ []

-- it is accepted; its book, in a lent one a byte longer; its report; every step of every line; every line
unfoldable pub excess0_cases_on : List ℕ → List Case
excess0_cases_on d =
    number (day_fault d) 0 ∷ booked d (replicate 265 170) (excess0_book ++ (170 ∷ []))
    ∷ printed d excess0_text ∷ (excess0_views_on d ++ excess0_cuts_on d)

unfoldable pub excess0_cases : List Case
excess0_cases = excess0_cases_on excess0_day

-- all of this file, opened
unfoldable pub excess0_opened : ℕ
unfolding excess0_words excess0_day excess0_book excess0_text excess0_views_on excess0_cuts_on excess0_cases_on excess0_cases
excess0_opened = 0
