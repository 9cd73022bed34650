-- Accredited 2: injections, one accredited in schedules 2, 4 and 5 (58), one all day with a hedge of 5, and a withdrawal accredited in all but
-- schedule 2 (61), clawback on. Marks in schedules 1 and 2 with APC 4. By the third implementation.
use Rattle.std.specs.Prelude.{ℕ, List, [], ◌∷◌, ◌++◌, replicate}
use Rattle.rules.proofs.Worked.Cases.{Case, concat, bytes_of, lines_of, bid, neg, row, number, booked, printed, viewed, cut_into}
use Rattle.rules.specs.Refusals.{day_fault}

unfoldable pub accredited2_words : List ℕ
accredited2_words =
    concat
    ((3 ∷ 16 ∷ 64 ∷ 2044 ∷ [])
    -- market prices, cap marks, APC, clawback
    ∷ (6 ∷ 6 ∷ 0 ∷ 0 ∷ 6 ∷ []) ∷ (1 ∷ 1 ∷ 0 ∷ 0 ∷ 0 ∷ []) ∷ (4 ∷ 1 ∷ [])
    -- line 0: participant, point, side, accreditation, hedge; bids; pricing rows; operating rows; actuals
    ∷ (7 ∷ 4294967295 ∷ 0 ∷ 58 ∷ 0 ∷ [])
    ∷ bid (1 ∷ 12 ∷ []) (0 ∷ 5 ∷ [])
    ∷ bid (1 ∷ 12 ∷ []) (0 ∷ 5 ∷ [])
    ∷ bid (1 ∷ 12 ∷ []) (0 ∷ 5 ∷ [])
    ∷ bid (2 ∷ 3 ∷ 4 ∷ 12 ∷ []) (1 ∷ 3 ∷ 3 ∷ 4 ∷ [])
    ∷ bid (2 ∷ 3 ∷ 4 ∷ 12 ∷ []) (0 ∷ 1 ∷ 2 ∷ 5 ∷ [])
    ∷ (0 ∷ 0 ∷ 0 ∷ 2 ∷ 0 ∷ []) ∷ (0 ∷ 0 ∷ 0 ∷ 0 ∷ []) ∷ (0 ∷ 0 ∷ 0 ∷ []) ∷ (0 ∷ 4 ∷ []) ∷ (0 ∷ [])
    ∷ (3 ∷ 0 ∷ 5 ∷ 0 ∷ 2 ∷ []) ∷ (0 ∷ 0 ∷ 1 ∷ 8 ∷ 3 ∷ []) ∷ (1 ∷ 6 ∷ 2 ∷ 1 ∷ 0 ∷ []) ∷ (0 ∷ 0 ∷ 3 ∷ 6 ∷ 2 ∷ []) ∷ (0 ∷ 0 ∷ 1 ∷ 0 ∷ 0 ∷ [])
    ∷ (0 ∷ 0 ∷ 1 ∷ 0 ∷ 3 ∷ [])
    -- line 1: participant, point, side, accreditation, hedge; bids; pricing rows; operating rows; actuals
    ∷ (3465795242 ∷ 2 ∷ 0 ∷ 1 ∷ 5 ∷ [])
    ∷ bid (4 ∷ 7 ∷ 8 ∷ 12 ∷ []) (0 ∷ 0 ∷ 0 ∷ 6 ∷ [])
    ∷ bid (4 ∷ 7 ∷ 8 ∷ 12 ∷ []) (0 ∷ 2 ∷ 2 ∷ 5 ∷ [])
    ∷ bid (4 ∷ 7 ∷ 8 ∷ 12 ∷ []) (0 ∷ 2 ∷ 2 ∷ 5 ∷ [])
    ∷ bid (4 ∷ 7 ∷ 8 ∷ 12 ∷ []) (0 ∷ 2 ∷ 2 ∷ 5 ∷ [])
    ∷ bid (4 ∷ 7 ∷ 8 ∷ []) (0 ∷ 2 ∷ 2 ∷ [])
    ∷ (0 ∷ 0 ∷ 0 ∷ 0 ∷ 0 ∷ []) ∷ (0 ∷ 0 ∷ 0 ∷ 0 ∷ []) ∷ (0 ∷ 0 ∷ 0 ∷ []) ∷ (2 ∷ 0 ∷ []) ∷ (10 ∷ [])
    ∷ (0 ∷ 2 ∷ 1 ∷ 4 ∷ 1 ∷ []) ∷ (0 ∷ 2 ∷ 1 ∷ 4 ∷ 1 ∷ []) ∷ (0 ∷ 0 ∷ 0 ∷ 0 ∷ 0 ∷ []) ∷ (6 ∷ 1 ∷ 5 ∷ 0 ∷ 0 ∷ []) ∷ (6 ∷ 1 ∷ 5 ∷ 0 ∷ 0 ∷ [])
    ∷ (94 ∷ 1 ∷ 2 ∷ 0 ∷ 0 ∷ [])
    -- line 2: participant, point, side, accreditation, hedge; bids; pricing rows; operating rows; actuals
    ∷ (3465795242 ∷ 3 ∷ 1 ∷ 61 ∷ 0 ∷ [])
    ∷ bid (7 ∷ []) (6 ∷ [])
    ∷ bid (7 ∷ []) (0 ∷ [])
    ∷ bid (7 ∷ []) (0 ∷ [])
    ∷ bid (7 ∷ []) (5 ∷ [])
    ∷ bid (7 ∷ []) (2 ∷ [])
    ∷ (0 ∷ 0 ∷ 0 ∷ 0 ∷ 0 ∷ []) ∷ (0 ∷ 0 ∷ 0 ∷ 0 ∷ []) ∷ (0 ∷ 0 ∷ 0 ∷ []) ∷ (0 ∷ 5 ∷ []) ∷ (1 ∷ [])
    ∷ (2 ∷ 2 ∷ 2 ∷ 0 ∷ 1 ∷ []) ∷ (2 ∷ 2 ∷ 2 ∷ 0 ∷ 1 ∷ []) ∷ (0 ∷ 0 ∷ 0 ∷ 0 ∷ 0 ∷ []) ∷ (0 ∷ 0 ∷ 1 ∷ 0 ∷ 0 ∷ []) ∷ (0 ∷ 1 ∷ 2 ∷ 2 ∷ 0 ∷ [])
    ∷ (0 ∷ 0 ∷ 2 ∷ 2 ∷ 0 ∷ [])
    ∷ [])

unfoldable pub accredited2_day : List ℕ
accredited2_day = bytes_of accredited2_words

-- the book, as words: n, 16, 96, 96 + 56n; five pairs t, a; of each line participant, point, side, count and payments, low word first
unfoldable pub accredited2_book : List ℕ
accredited2_book =
    bytes_of
    (concat
    ((3 ∷ 16 ∷ 96 ∷ 264 ∷ [])
    ∷ (14 ∷ 0 ∷ 14 ∷ 0 ∷ 0 ∷ 0 ∷ 0 ∷ 0 ∷ 0 ∷ 0 ∷ 0 ∷ 0 ∷ 7 ∷ 0 ∷ 7 ∷ 0 ∷ 12 ∷ 0 ∷ 12 ∷ 0 ∷ [])
    ∷ (7 ∷ 4294967295 ∷ 0 ∷ 5 ∷ 0 ∷ 0 ∷ 0 ∷ 0 ∷ 0 ∷ 0 ∷ 4294967292 ∷ 4294967295 ∷ 0 ∷ 0 ∷ [])
    ∷ (3465795242 ∷ 2 ∷ 0 ∷ 5 ∷ 0 ∷ 0 ∷ 0 ∷ 0 ∷ 0 ∷ 0 ∷ 11 ∷ 0 ∷ 0 ∷ 0 ∷ [])
    ∷ (3465795242 ∷ 3 ∷ 1 ∷ 1 ∷ 14 ∷ 0 ∷ 0 ∷ 0 ∷ 0 ∷ 0 ∷ 0 ∷ 0 ∷ 12 ∷ 0 ∷ [])
    ∷ []))

unfoldable pub accredited2_text : List ℕ
accredited2_text =
    lines_of
    ("day 3"
    ∷ "7 4294967295 INJ 5 0 0 0 -4 0"
    ∷ "3465795242 2 INJ 5 0 0 0 11 0"
    ∷ "3465795242 3 WDR 1 14 0 0 0 12"
    ∷ "total 14 0 0 7 12"
    ∷ "adjusted 14 0 0 7 12"
    ∷ [])

-- each step: line, step; end, width, A; five rows of price, flag, O, E, AGINO, MSIQ, C, initial, revised, modified, final; the ten matches
unfoldable pub accredited2_views_on : List ℕ → List Case
accredited2_views_on d =
    viewed d 0 0 (1 ∷ 1 ∷ 1 ∷ [])
    (row 0 0 1 1 0 0 1 0 0 0 0
    ∷ row 0 0 1 0 0 0 1 0 0 0 0
    ∷ row 0 0 1 0 0 0 1 0 0 0 0
    ∷ row 1 0 1 1 0 1 0 (neg 1) 0 0 (neg 1)
    ∷ row 0 0 1 0 0 0 1 0 0 0 0 ∷ [])
    (0 ∷ 0 ∷ 0 ∷ 1 ∷ 0 ∷ 0 ∷ 0 ∷ 0 ∷ 0 ∷ 0 ∷ [])
    ∷ viewed d 0 1 (2 ∷ 1 ∷ 0 ∷ [])
    (row 4 0 1 1 0 0 1 0 0 0 0
    ∷ row 4 0 1 0 0 0 1 0 0 0 0
    ∷ row 5 0 1 0 0 0 1 0 0 0 0
    ∷ row 1 0 1 1 0 1 0 (neg 1) (neg 1) 0 (neg 1)
    ∷ row 0 0 0 0 0 0 0 0 0 0 0 ∷ [])
    (0 ∷ 0 ∷ 0 ∷ 1 ∷ 0 ∷ 0 ∷ 0 ∷ 0 ∷ 0 ∷ 0 ∷ [])
    ∷ viewed d 0 2 (3 ∷ 1 ∷ 0 ∷ [])
    (row 4 0 1 0 0 0 1 0 0 0 0
    ∷ row 4 0 1 0 0 0 1 0 0 0 0
    ∷ row 5 0 1 0 0 0 1 0 0 0 0
    ∷ row 3 0 1 1 0 1 0 (neg 3) (neg 3) 0 (neg 3)
    ∷ row 1 0 0 0 0 0 0 0 0 0 0 ∷ [])
    (0 ∷ 0 ∷ 0 ∷ 1 ∷ 0 ∷ 0 ∷ 0 ∷ 0 ∷ 0 ∷ 0 ∷ [])
    ∷ viewed d 0 3 (4 ∷ 1 ∷ 0 ∷ [])
    (row 4 0 1 0 0 0 1 0 0 0 0
    ∷ row 4 0 1 0 0 0 1 0 0 0 0
    ∷ row 5 0 1 0 0 0 1 0 0 0 0
    ∷ row 3 0 1 1 0 1 0 (neg 3) (neg 3) 0 (neg 3)
    ∷ row 2 0 0 0 0 0 0 0 0 0 0 ∷ [])
    (0 ∷ 0 ∷ 0 ∷ 1 ∷ 0 ∷ 0 ∷ 0 ∷ 0 ∷ 0 ∷ 0 ∷ [])
    ∷ viewed d 0 4 (12 ∷ 8 ∷ 0 ∷ [])
    (row 4 0 6 0 0 0 6 0 0 0 0
    ∷ row 4 0 8 0 0 0 8 0 0 0 0
    ∷ row 5 0 6 0 0 0 6 0 0 0 0
    ∷ row 4 0 7 0 0 0 7 4 4 4 4
    ∷ row 5 0 0 0 0 0 0 0 0 0 0 ∷ [])
    (0 ∷ 0 ∷ 2 ∷ 0 ∷ 0 ∷ 0 ∷ 6 ∷ 0 ∷ 0 ∷ 1 ∷ [])
    ∷ viewed d 1 0 (4 ∷ 4 ∷ 4 ∷ [])
    (row 0 0 4 0 0 0 4 0 0 0 0
    ∷ row 0 0 4 0 0 0 4 0 0 0 0
    ∷ row 0 0 0 0 0 0 0 0 0 0 0
    ∷ row 0 0 4 2 0 2 2 0 0 0 0
    ∷ row 0 0 4 4 0 4 0 0 0 0 0 ∷ [])
    (0 ∷ 4 ∷ 0 ∷ 0 ∷ 0 ∷ 0 ∷ 0 ∷ 0 ∷ 0 ∷ 2 ∷ [])
    ∷ viewed d 1 1 (5 ∷ 1 ∷ 1 ∷ [])
    (row 0 0 1 0 0 0 1 0 0 0 0
    ∷ row 2 0 1 0 0 0 1 0 0 0 0
    ∷ row 2 0 0 0 0 0 0 0 0 0 0
    ∷ row 2 0 1 0 0 0 1 0 0 0 0
    ∷ row 2 0 1 1 0 1 0 0 0 0 0 ∷ [])
    (0 ∷ 1 ∷ 0 ∷ 0 ∷ 0 ∷ 0 ∷ 0 ∷ 0 ∷ 0 ∷ 1 ∷ [])
    ∷ viewed d 1 2 (7 ∷ 2 ∷ 2 ∷ [])
    (row 0 0 2 0 0 0 2 0 0 0 0
    ∷ row 2 0 2 0 0 0 2 0 0 0 0
    ∷ row 2 0 0 0 0 0 0 (neg 4) 0 0 0
    ∷ row 2 0 2 0 0 0 2 4 4 4 4
    ∷ row 2 0 2 2 0 2 0 0 0 0 0 ∷ [])
    (0 ∷ 2 ∷ 0 ∷ 0 ∷ 0 ∷ 0 ∷ 0 ∷ 0 ∷ 0 ∷ 2 ∷ [])
    ∷ viewed d 1 3 (8 ∷ 1 ∷ 1 ∷ [])
    (row 0 0 1 0 0 0 1 0 0 0 0
    ∷ row 2 0 1 0 0 0 1 0 0 0 0
    ∷ row 2 0 0 0 0 0 0 (neg 2) 0 0 0
    ∷ row 2 0 1 0 0 0 1 2 2 2 2
    ∷ row 2 0 1 1 0 1 0 0 0 0 0 ∷ [])
    (0 ∷ 1 ∷ 0 ∷ 0 ∷ 0 ∷ 0 ∷ 0 ∷ 0 ∷ 0 ∷ 1 ∷ [])
    ∷ viewed d 1 4 (12 ∷ 4 ∷ 1 ∷ [])
    (row 4 0 0 0 0 0 0 0 0 0 0
    ∷ row 4 0 0 0 0 0 0 0 0 0 0
    ∷ row 5 0 0 0 0 0 0 0 0 0 0
    ∷ row 5 0 4 0 3 0 1 5 5 5 5
    ∷ row 2 1 4 4 3 4 0 0 0 0 0 ∷ [])
    (0 ∷ 0 ∷ 0 ∷ 0 ∷ 0 ∷ 0 ∷ 0 ∷ 0 ∷ 0 ∷ 1 ∷ [])
    ∷ viewed d 2 0 (7 ∷ 7 ∷ 4 ∷ [])
    (row 4 0 7 0 0 0 7 14 14 14 14
    ∷ row 0 0 7 0 0 0 7 0 0 0 0
    ∷ row 0 0 0 0 0 0 0 0 0 0 0
    ∷ row 5 0 1 5 0 1 0 0 0 0 0
    ∷ row 2 0 5 1 1 1 3 12 12 12 12 ∷ [])
    (0 ∷ 7 ∷ 0 ∷ 0 ∷ 0 ∷ 0 ∷ 0 ∷ 0 ∷ 0 ∷ 0 ∷ [])
    ∷ []

-- each line of the cutter: ends; five rows of uncapped prices; words of flags; how many are set. The uncapped prices are worked out from
-- the words above by document 01's sentence, since the third implementation's steps have capped ones
unfoldable pub accredited2_cuts_on : List ℕ → List Case
accredited2_cuts_on d =
    cut_into d 0 (1 ∷ 2 ∷ 3 ∷ 4 ∷ 12 ∷ [])
    ((0 ∷ 5 ∷ 5 ∷ 5 ∷ 5 ∷ []) ∷ (0 ∷ 5 ∷ 5 ∷ 5 ∷ 5 ∷ []) ∷ (0 ∷ 5 ∷ 5 ∷ 5 ∷ 5 ∷ [])
    ∷ (1 ∷ 1 ∷ 3 ∷ 3 ∷ 4 ∷ []) ∷ (0 ∷ 0 ∷ 1 ∷ 2 ∷ 5 ∷ []) ∷ [])
    (0 ∷ 0 ∷ 0 ∷ 0 ∷ 0 ∷ []) (0 ∷ 0 ∷ 0 ∷ 0 ∷ 0 ∷ [])
    ∷ cut_into d 1 (4 ∷ 5 ∷ 7 ∷ 8 ∷ 12 ∷ [])
    ((0 ∷ 0 ∷ 0 ∷ 0 ∷ 6 ∷ []) ∷ (0 ∷ 2 ∷ 2 ∷ 2 ∷ 5 ∷ []) ∷ (0 ∷ 2 ∷ 2 ∷ 2 ∷ 5 ∷ [])
    ∷ (0 ∷ 2 ∷ 2 ∷ 2 ∷ 5 ∷ []) ∷ (0 ∷ 2 ∷ 2 ∷ 2 ∷ 2 ∷ []) ∷ [])
    (0 ∷ 0 ∷ 0 ∷ 0 ∷ 16 ∷ []) (0 ∷ 0 ∷ 0 ∷ 0 ∷ 1 ∷ [])
    ∷ cut_into d 2 (7 ∷ [])
    ((6 ∷ []) ∷ (0 ∷ []) ∷ (0 ∷ [])
    ∷ (5 ∷ []) ∷ (2 ∷ []) ∷ [])
    (0 ∷ 0 ∷ 0 ∷ 0 ∷ 0 ∷ []) (0 ∷ 0 ∷ 0 ∷ 0 ∷ 0 ∷ [])
    ∷ []

-- it is accepted; its book, in a lent one a byte longer; its report; every step of every line; every line
unfoldable pub accredited2_cases_on : List ℕ → List Case
accredited2_cases_on d =
    number (day_fault d) 0 ∷ booked d (replicate 265 170) (accredited2_book ++ (170 ∷ []))
    ∷ printed d accredited2_text ∷ (accredited2_views_on d ++ accredited2_cuts_on d)

unfoldable pub accredited2_cases : List Case
accredited2_cases = accredited2_cases_on accredited2_day

-- all of this file, opened
unfoldable pub accredited2_opened : ℕ
unfolding accredited2_words accredited2_day accredited2_book accredited2_text accredited2_views_on accredited2_cuts_on accredited2_cases_on accredited2_cases
accredited2_opened = 0
