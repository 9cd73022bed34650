-- Base 3: an injection that is hedged whole (hedge 6, its greatest break) and two withdrawals that differ by their participant alone, clawback on.
-- The mark of schedule 4 with APC 0 makes prices 0. Missing prices on all lines, AGINO on line 1 carried back over rising and falling
-- operating totals, payments below 0 in schedules 2 and 5, so adjusted totals below 0.
use Rattle.std.specs.Prelude.{ℕ, List, [], ◌∷◌, ◌++◌, replicate}
use Rattle.rules.proofs.Worked.Cases.{Case, concat, bytes_of, lines_of, bid, neg, row, number, booked, printed, viewed, cut_into}
use Rattle.rules.specs.Refusals.{day_fault}

unfoldable pub base3_words : List ℕ
base3_words =
    concat
    ((3 ∷ 16 ∷ 64 ∷ 2044 ∷ [])
    -- market prices, cap marks, APC, clawback
    ∷ (1 ∷ 4 ∷ 1 ∷ 3 ∷ 6 ∷ []) ∷ (0 ∷ 0 ∷ 0 ∷ 1 ∷ 0 ∷ []) ∷ (0 ∷ 1 ∷ [])
    -- line 0: participant, point, side, accreditation, hedge; bids; pricing rows; operating rows; actuals
    ∷ (1 ∷ 12 ∷ 0 ∷ 1 ∷ 6 ∷ [])
    ∷ bid (1 ∷ 4 ∷ []) (4 ∷ 5 ∷ [])
    ∷ bid (1 ∷ []) (4 ∷ [])
    ∷ bid (1 ∷ []) (1 ∷ [])
    ∷ bid (4 ∷ []) (1 ∷ [])
    ∷ bid (6 ∷ []) (1 ∷ [])
    ∷ (0 ∷ 0 ∷ 0 ∷ 0 ∷ 0 ∷ []) ∷ (0 ∷ 2 ∷ 0 ∷ 0 ∷ []) ∷ (0 ∷ 0 ∷ 0 ∷ []) ∷ (1 ∷ 0 ∷ []) ∷ (5 ∷ [])
    ∷ (0 ∷ 0 ∷ 0 ∷ 0 ∷ 0 ∷ []) ∷ (0 ∷ 0 ∷ 0 ∷ 0 ∷ 0 ∷ []) ∷ (3 ∷ 0 ∷ 2 ∷ 1 ∷ 0 ∷ []) ∷ (3 ∷ 0 ∷ 2 ∷ 1 ∷ 0 ∷ []) ∷ (0 ∷ 0 ∷ 0 ∷ 0 ∷ 0 ∷ [])
    ∷ (2 ∷ 4 ∷ 0 ∷ 0 ∷ 0 ∷ [])
    -- line 1: participant, point, side, accreditation, hedge; bids; pricing rows; operating rows; actuals
    ∷ (101 ∷ 4294967295 ∷ 1 ∷ 1 ∷ 0 ∷ [])
    ∷ bid (1 ∷ []) (5 ∷ [])
    ∷ bid (4 ∷ []) (5 ∷ [])
    ∷ bid (5 ∷ []) (5 ∷ [])
    ∷ bid (5 ∷ []) (3 ∷ [])
    ∷ bid (5 ∷ []) (3 ∷ [])
    ∷ (0 ∷ 0 ∷ 0 ∷ 0 ∷ 0 ∷ []) ∷ (0 ∷ 0 ∷ 0 ∷ 0 ∷ []) ∷ (0 ∷ 0 ∷ 0 ∷ []) ∷ (0 ∷ 0 ∷ []) ∷ (2 ∷ [])
    ∷ (0 ∷ 0 ∷ 1 ∷ 3 ∷ 0 ∷ []) ∷ (0 ∷ 0 ∷ 0 ∷ 0 ∷ 0 ∷ []) ∷ (0 ∷ 1 ∷ 2 ∷ 2 ∷ 0 ∷ []) ∷ (0 ∷ 4 ∷ 0 ∷ 0 ∷ 0 ∷ []) ∷ (0 ∷ 3 ∷ 0 ∷ 0 ∷ 0 ∷ [])
    ∷ (0 ∷ 0 ∷ 0 ∷ 0 ∷ 2 ∷ [])
    -- line 2: participant, point, side, accreditation, hedge; bids; pricing rows; operating rows; actuals
    ∷ (100 ∷ 4294967295 ∷ 1 ∷ 1 ∷ 0 ∷ [])
    ∷ bid (1 ∷ 7 ∷ 8 ∷ []) (4 ∷ 3 ∷ 3 ∷ [])
    ∷ bid (1 ∷ 7 ∷ 8 ∷ []) (4 ∷ 3 ∷ 3 ∷ [])
    ∷ bid (1 ∷ []) (4 ∷ [])
    ∷ bid (3 ∷ []) (4 ∷ [])
    ∷ bid (1 ∷ 4 ∷ []) (4 ∷ 3 ∷ [])
    ∷ (0 ∷ 0 ∷ 0 ∷ 0 ∷ 0 ∷ []) ∷ (0 ∷ 0 ∷ 0 ∷ 0 ∷ []) ∷ (0 ∷ 4 ∷ 4 ∷ []) ∷ (0 ∷ 0 ∷ []) ∷ (2 ∷ [])
    ∷ (1 ∷ 3 ∷ 2 ∷ 0 ∷ 2 ∷ []) ∷ (2 ∷ 0 ∷ 0 ∷ 0 ∷ 0 ∷ []) ∷ (0 ∷ 0 ∷ 0 ∷ 0 ∷ 0 ∷ []) ∷ (0 ∷ 0 ∷ 0 ∷ 0 ∷ 0 ∷ []) ∷ (0 ∷ 1 ∷ 0 ∷ 0 ∷ 0 ∷ [])
    ∷ (1 ∷ 6 ∷ 0 ∷ 3 ∷ 0 ∷ [])
    ∷ [])

unfoldable pub base3_day : List ℕ
base3_day = bytes_of base3_words

-- the book, as words: n, 16, 96, 96 + 56n; five pairs t, a; of each line participant, point, side, count and payments, low word first
unfoldable pub base3_book : List ℕ
base3_book =
    bytes_of
    (concat
    ((3 ∷ 16 ∷ 96 ∷ 264 ∷ [])
    ∷ (0 ∷ 0 ∷ 0 ∷ 0 ∷ 4294967290 ∷ 4294967295 ∷ 4294967290 ∷ 4294967295 ∷ 0 ∷ 0 ∷ 0 ∷ 0 ∷ 0 ∷ 0 ∷ 0 ∷ 0 ∷ 4294967295 ∷ 4294967295 ∷ 4294967295 ∷ 4294967295 ∷ [])
    ∷ (1 ∷ 12 ∷ 0 ∷ 3 ∷ 0 ∷ 0 ∷ 0 ∷ 0 ∷ 0 ∷ 0 ∷ 0 ∷ 0 ∷ 0 ∷ 0 ∷ [])
    ∷ (101 ∷ 4294967295 ∷ 1 ∷ 3 ∷ 0 ∷ 0 ∷ 0 ∷ 0 ∷ 0 ∷ 0 ∷ 0 ∷ 0 ∷ 4294967295 ∷ 4294967295 ∷ [])
    ∷ (100 ∷ 4294967295 ∷ 1 ∷ 5 ∷ 0 ∷ 0 ∷ 4294967290 ∷ 4294967295 ∷ 0 ∷ 0 ∷ 0 ∷ 0 ∷ 0 ∷ 0 ∷ [])
    ∷ []))

unfoldable pub base3_text : List ℕ
base3_text =
    lines_of
    ("day 3"
    ∷ "1 12 INJ 3 0 0 0 0 0"
    ∷ "101 4294967295 WDR 3 0 0 0 0 -1"
    ∷ "100 4294967295 WDR 5 0 -6 0 0 0"
    ∷ "total 0 -6 0 0 -1"
    ∷ "adjusted 0 -6 0 0 -1"
    ∷ [])

-- each step: line, step; end, width, A; five rows of price, flag, O, E, AGINO, MSIQ, C, initial, revised, modified, final; the ten matches
unfoldable pub base3_views_on : List ℕ → List Case
base3_views_on d =
    viewed d 0 0 (1 ∷ 1 ∷ 0 ∷ [])
    (row 4 0 0 0 0 0 0 0 0 0 0
    ∷ row 4 0 0 1 0 0 0 0 0 0 0
    ∷ row 1 0 1 0 0 0 1 0 0 0 0
    ∷ row 0 0 1 1 0 1 0 0 0 0 0
    ∷ row 1 0 0 1 0 1 0 0 0 0 0 ∷ [])
    (0 ∷ 0 ∷ 0 ∷ 0 ∷ 0 ∷ 1 ∷ 0 ∷ 0 ∷ 0 ∷ 0 ∷ [])
    ∷ viewed d 0 1 (4 ∷ 3 ∷ 0 ∷ [])
    (row 5 0 0 0 0 0 0 0 0 0 0
    ∷ row 4 1 0 1 0 0 0 0 0 0 0
    ∷ row 1 1 3 0 0 0 3 0 0 0 0
    ∷ row 0 0 3 0 0 0 3 0 0 0 0
    ∷ row 1 0 0 3 0 3 0 0 0 0 0 ∷ [])
    (0 ∷ 0 ∷ 0 ∷ 0 ∷ 0 ∷ 0 ∷ 0 ∷ 0 ∷ 3 ∷ 0 ∷ [])
    ∷ viewed d 0 2 (6 ∷ 2 ∷ 0 ∷ [])
    (row 5 1 0 0 0 0 0 0 0 0 0
    ∷ row 4 1 0 0 0 0 0 0 0 0 0
    ∷ row 1 1 2 0 0 0 2 0 0 0 0
    ∷ row 0 1 2 0 0 0 2 0 0 0 0
    ∷ row 1 0 0 2 0 2 0 0 0 0 0 ∷ [])
    (0 ∷ 0 ∷ 0 ∷ 0 ∷ 0 ∷ 0 ∷ 0 ∷ 0 ∷ 2 ∷ 0 ∷ [])
    ∷ viewed d 1 0 (1 ∷ 1 ∷ 0 ∷ [])
    (row 5 0 1 0 0 0 1 0 0 0 0
    ∷ row 5 0 0 0 0 0 0 0 0 0 0
    ∷ row 5 0 1 0 1 0 0 0 0 0 0
    ∷ row 0 0 1 0 1 0 0 0 0 0 0
    ∷ row 3 0 1 1 1 1 0 0 0 0 0 ∷ [])
    (1 ∷ 0 ∷ 0 ∷ 0 ∷ 0 ∷ 0 ∷ 0 ∷ 0 ∷ 0 ∷ 0 ∷ [])
    ∷ viewed d 1 1 (4 ∷ 3 ∷ 0 ∷ [])
    (row 5 1 3 0 0 0 3 0 0 0 0
    ∷ row 5 0 0 0 0 0 0 0 0 0 0
    ∷ row 5 0 3 0 2 0 1 0 0 0 0
    ∷ row 0 0 3 0 2 0 1 0 0 0 0
    ∷ row 3 0 2 1 2 1 0 (neg 3) (neg 1) 0 (neg 1) ∷ [])
    (3 ∷ 0 ∷ 0 ∷ 0 ∷ 0 ∷ 0 ∷ 0 ∷ 0 ∷ 1 ∷ 0 ∷ [])
    ∷ viewed d 1 2 (5 ∷ 1 ∷ 0 ∷ [])
    (row 5 1 0 0 0 0 0 0 0 0 0
    ∷ row 5 1 0 0 0 0 0 0 0 0 0
    ∷ row 5 0 1 0 0 0 1 0 0 0 0
    ∷ row 0 0 0 0 0 0 0 (neg 3) 0 0 0
    ∷ row 3 0 0 0 0 0 0 0 0 0 0 ∷ [])
    (0 ∷ 0 ∷ 0 ∷ 0 ∷ 0 ∷ 1 ∷ 0 ∷ 0 ∷ 0 ∷ 0 ∷ [])
    ∷ viewed d 2 0 (1 ∷ 1 ∷ 1 ∷ [])
    (row 4 0 1 0 0 0 1 0 0 0 0
    ∷ row 4 0 1 0 0 0 1 0 0 0 0
    ∷ row 4 0 0 1 0 0 0 0 0 0 0
    ∷ row 0 0 0 0 0 0 0 0 0 0 0
    ∷ row 4 0 1 1 0 1 0 0 0 0 0 ∷ [])
    (0 ∷ 1 ∷ 0 ∷ 0 ∷ 0 ∷ 0 ∷ 0 ∷ 0 ∷ 0 ∷ 0 ∷ [])
    ∷ viewed d 2 1 (3 ∷ 2 ∷ 0 ∷ [])
    (row 3 0 2 0 0 0 2 0 0 0 0
    ∷ row 3 0 1 0 0 0 1 (neg 1) (neg 1) 0 (neg 1)
    ∷ row 4 1 0 2 0 0 0 0 0 0 0
    ∷ row 0 0 0 0 0 0 0 0 0 0 0
    ∷ row 3 0 0 1 0 1 0 0 0 0 0 ∷ [])
    (1 ∷ 1 ∷ 0 ∷ 0 ∷ 0 ∷ 0 ∷ 0 ∷ 0 ∷ 0 ∷ 0 ∷ [])
    ∷ viewed d 2 2 (4 ∷ 1 ∷ 0 ∷ [])
    (row 3 0 1 0 0 0 1 0 0 0 0
    ∷ row 3 0 0 0 0 0 0 (neg 1) (neg 1) 0 (neg 1)
    ∷ row 4 1 0 1 0 0 0 0 0 0 0
    ∷ row 0 1 0 0 0 0 0 0 0 0 0
    ∷ row 3 0 0 0 0 0 0 0 0 0 0 ∷ [])
    (1 ∷ 0 ∷ 0 ∷ 0 ∷ 0 ∷ 0 ∷ 0 ∷ 0 ∷ 0 ∷ 0 ∷ [])
    ∷ viewed d 2 3 (7 ∷ 3 ∷ 0 ∷ [])
    (row 3 0 3 0 0 0 3 0 0 0 0
    ∷ row 3 0 0 0 0 0 0 (neg 3) (neg 3) 0 (neg 3)
    ∷ row 4 1 0 3 0 0 0 0 0 0 0
    ∷ row 0 1 0 0 0 0 0 0 0 0 0
    ∷ row 3 1 0 0 0 0 0 0 0 0 0 ∷ [])
    (3 ∷ 0 ∷ 0 ∷ 0 ∷ 0 ∷ 0 ∷ 0 ∷ 0 ∷ 0 ∷ 0 ∷ [])
    ∷ viewed d 2 4 (8 ∷ 1 ∷ 0 ∷ [])
    (row 3 0 1 0 0 0 1 0 0 0 0
    ∷ row 3 0 0 0 0 0 0 (neg 1) (neg 1) 0 (neg 1)
    ∷ row 4 1 0 1 0 0 0 0 0 0 0
    ∷ row 0 1 0 0 0 0 0 0 0 0 0
    ∷ row 3 1 0 0 0 0 0 0 0 0 0 ∷ [])
    (1 ∷ 0 ∷ 0 ∷ 0 ∷ 0 ∷ 0 ∷ 0 ∷ 0 ∷ 0 ∷ 0 ∷ [])
    ∷ []

-- each line of the cutter: ends; five rows of uncapped prices; words of flags; how many are set. The uncapped prices are worked out from
-- the words above by document 01's sentence, since the third implementation's steps have capped ones
unfoldable pub base3_cuts_on : List ℕ → List Case
base3_cuts_on d =
    cut_into d 0 (1 ∷ 4 ∷ 6 ∷ [])
    ((4 ∷ 5 ∷ 5 ∷ []) ∷ (4 ∷ 4 ∷ 4 ∷ []) ∷ (1 ∷ 1 ∷ 1 ∷ [])
    ∷ (1 ∷ 1 ∷ 1 ∷ []) ∷ (1 ∷ 1 ∷ 1 ∷ []) ∷ [])
    (4 ∷ 6 ∷ 6 ∷ 4 ∷ 0 ∷ []) (1 ∷ 2 ∷ 2 ∷ 1 ∷ 0 ∷ [])
    ∷ cut_into d 1 (1 ∷ 4 ∷ 5 ∷ [])
    ((5 ∷ 5 ∷ 5 ∷ []) ∷ (5 ∷ 5 ∷ 5 ∷ []) ∷ (5 ∷ 5 ∷ 5 ∷ [])
    ∷ (3 ∷ 3 ∷ 3 ∷ []) ∷ (3 ∷ 3 ∷ 3 ∷ []) ∷ [])
    (6 ∷ 4 ∷ 0 ∷ 0 ∷ 0 ∷ []) (2 ∷ 1 ∷ 0 ∷ 0 ∷ 0 ∷ [])
    ∷ cut_into d 2 (1 ∷ 3 ∷ 4 ∷ 7 ∷ 8 ∷ [])
    ((4 ∷ 3 ∷ 3 ∷ 3 ∷ 3 ∷ []) ∷ (4 ∷ 3 ∷ 3 ∷ 3 ∷ 3 ∷ []) ∷ (4 ∷ 4 ∷ 4 ∷ 4 ∷ 4 ∷ [])
    ∷ (4 ∷ 4 ∷ 4 ∷ 4 ∷ 4 ∷ []) ∷ (4 ∷ 3 ∷ 3 ∷ 3 ∷ 3 ∷ []) ∷ [])
    (0 ∷ 0 ∷ 30 ∷ 28 ∷ 24 ∷ []) (0 ∷ 0 ∷ 4 ∷ 3 ∷ 2 ∷ [])
    ∷ []

-- it is accepted; its book, in a lent one a byte longer; its report; every step of every line; every line
unfoldable pub base3_cases_on : List ℕ → List Case
base3_cases_on d =
    number (day_fault d) 0 ∷ booked d (replicate 265 170) (base3_book ++ (170 ∷ []))
    ∷ printed d base3_text ∷ (base3_views_on d ++ base3_cuts_on d)

unfoldable pub base3_cases : List Case
base3_cases = base3_cases_on base3_day

-- all of this file, opened
unfoldable pub base3_opened : ℕ
unfolding base3_words base3_day base3_book base3_text base3_views_on base3_cuts_on base3_cases_on base3_cases
base3_opened = 0
