-- Base 1: three withdrawals and an injection, clawback on. Marks in schedules 2 and 3 with APC 4 lower prices of lines 1 and 2. No hedge.
-- Line 1 is not accredited; it has participant and point of line 3, on the other side. Lines 0 and 3 have bids that end below the last
-- step (flag 1), and a final there that is the modified payment. Effective actuals below the operating total (AGINO) on line 1. Operating
-- totals that rise and fall, with a fall that takes two rises (line 0, step 2). Totals of both signs, so that some adjusted ones are 0.
use Rattle.std.specs.Prelude.{ℕ, List, [], ◌∷◌, ◌++◌, replicate}
use Rattle.rules.proofs.Worked.Cases.{Case, concat, bytes_of, lines_of, bid, neg, row, number, booked, printed, viewed, cut_into}
use Rattle.rules.specs.Refusals.{day_fault}

unfoldable pub base1_words : List ℕ
base1_words =
    concat
    ((4 ∷ 16 ∷ 64 ∷ 2704 ∷ [])
    -- market prices, cap marks, APC, clawback
    ∷ (1 ∷ 1 ∷ 1 ∷ 6 ∷ 3 ∷ []) ∷ (0 ∷ 1 ∷ 1 ∷ 0 ∷ 0 ∷ []) ∷ (4 ∷ 1 ∷ [])
    -- line 0: participant, point, side, accreditation, hedge; bids; pricing rows; operating rows; actuals
    ∷ (103 ∷ 2 ∷ 1 ∷ 1 ∷ 0 ∷ [])
    ∷ bid (3 ∷ 12 ∷ []) (4 ∷ 1 ∷ [])
    ∷ bid (3 ∷ 12 ∷ []) (4 ∷ 1 ∷ [])
    ∷ bid (3 ∷ 12 ∷ []) (3 ∷ 0 ∷ [])
    ∷ bid (3 ∷ []) (3 ∷ [])
    ∷ bid (4 ∷ []) (3 ∷ [])
    ∷ (0 ∷ 0 ∷ 0 ∷ 8 ∷ 0 ∷ []) ∷ (0 ∷ 0 ∷ 0 ∷ 0 ∷ []) ∷ (0 ∷ 0 ∷ 0 ∷ []) ∷ (0 ∷ 0 ∷ []) ∷ (12 ∷ [])
    ∷ (0 ∷ 0 ∷ 0 ∷ 0 ∷ 0 ∷ []) ∷ (0 ∷ 0 ∷ 0 ∷ 0 ∷ 0 ∷ []) ∷ (0 ∷ 1 ∷ 1 ∷ 0 ∷ 3 ∷ []) ∷ (2 ∷ 0 ∷ 1 ∷ 4 ∷ 0 ∷ []) ∷ (0 ∷ 0 ∷ 0 ∷ 0 ∷ 0 ∷ [])
    ∷ (0 ∷ 0 ∷ 7 ∷ 0 ∷ 0 ∷ [])
    -- line 1: participant, point, side, accreditation, hedge; bids; pricing rows; operating rows; actuals
    ∷ (103 ∷ 3 ∷ 1 ∷ 0 ∷ 0 ∷ [])
    ∷ bid (7 ∷ 9 ∷ []) (5 ∷ 2 ∷ [])
    ∷ bid (7 ∷ 9 ∷ []) (5 ∷ 2 ∷ [])
    ∷ bid (7 ∷ 9 ∷ []) (5 ∷ 0 ∷ [])
    ∷ bid (7 ∷ 9 ∷ []) (5 ∷ 0 ∷ [])
    ∷ bid (7 ∷ 9 ∷ []) (3 ∷ 3 ∷ [])
    ∷ (0 ∷ 0 ∷ 0 ∷ 0 ∷ 0 ∷ []) ∷ (0 ∷ 0 ∷ 0 ∷ 0 ∷ []) ∷ (0 ∷ 4 ∷ 5 ∷ []) ∷ (0 ∷ 0 ∷ []) ∷ (0 ∷ [])
    ∷ (0 ∷ 0 ∷ 0 ∷ 0 ∷ 0 ∷ []) ∷ (0 ∷ 0 ∷ 0 ∷ 1 ∷ 0 ∷ []) ∷ (0 ∷ 0 ∷ 0 ∷ 0 ∷ 0 ∷ []) ∷ (2 ∷ 1 ∷ 1 ∷ 2 ∷ 2 ∷ []) ∷ (4 ∷ 3 ∷ 0 ∷ 1 ∷ 1 ∷ [])
    ∷ (0 ∷ 3 ∷ 24 ∷ 1 ∷ 65 ∷ [])
    -- line 2: participant, point, side, accreditation, hedge; bids; pricing rows; operating rows; actuals
    ∷ (1 ∷ 1 ∷ 1 ∷ 1 ∷ 0 ∷ [])
    ∷ bid (2 ∷ 3 ∷ 5 ∷ 11 ∷ []) (5 ∷ 4 ∷ 2 ∷ 0 ∷ [])
    ∷ bid (2 ∷ 3 ∷ 5 ∷ 11 ∷ []) (5 ∷ 4 ∷ 2 ∷ 0 ∷ [])
    ∷ bid (2 ∷ 3 ∷ 5 ∷ 11 ∷ []) (6 ∷ 5 ∷ 4 ∷ 0 ∷ [])
    ∷ bid (2 ∷ 3 ∷ 5 ∷ 11 ∷ []) (6 ∷ 5 ∷ 1 ∷ 1 ∷ [])
    ∷ bid (2 ∷ 3 ∷ 5 ∷ 11 ∷ []) (6 ∷ 1 ∷ 1 ∷ 0 ∷ [])
    ∷ (0 ∷ 0 ∷ 0 ∷ 0 ∷ 0 ∷ []) ∷ (0 ∷ 2 ∷ 1 ∷ 0 ∷ []) ∷ (0 ∷ 3 ∷ 0 ∷ []) ∷ (0 ∷ 1 ∷ []) ∷ (0 ∷ [])
    ∷ (0 ∷ 0 ∷ 0 ∷ 0 ∷ 0 ∷ []) ∷ (2 ∷ 1 ∷ 1 ∷ 7 ∷ 0 ∷ []) ∷ (0 ∷ 0 ∷ 4 ∷ 0 ∷ 0 ∷ []) ∷ (1 ∷ 8 ∷ 2 ∷ 0 ∷ 0 ∷ []) ∷ (4 ∷ 1 ∷ 0 ∷ 0 ∷ 2 ∷ [])
    ∷ (4 ∷ 1 ∷ 0 ∷ 0 ∷ 2 ∷ [])
    -- line 3: participant, point, side, accreditation, hedge; bids; pricing rows; operating rows; actuals
    ∷ (103 ∷ 3 ∷ 0 ∷ 1 ∷ 0 ∷ [])
    ∷ bid (3 ∷ 10 ∷ []) (6 ∷ 6 ∷ [])
    ∷ bid (1 ∷ 10 ∷ []) (3 ∷ 4 ∷ [])
    ∷ bid (1 ∷ 10 ∷ []) (3 ∷ 4 ∷ [])
    ∷ bid (1 ∷ 10 ∷ []) (3 ∷ 6 ∷ [])
    ∷ bid (3 ∷ 11 ∷ []) (5 ∷ 5 ∷ [])
    ∷ (0 ∷ 0 ∷ 0 ∷ 0 ∷ 0 ∷ []) ∷ (0 ∷ 0 ∷ 0 ∷ 0 ∷ []) ∷ (0 ∷ 11 ∷ 0 ∷ []) ∷ (0 ∷ 2 ∷ []) ∷ (0 ∷ [])
    ∷ (2 ∷ 1 ∷ 3 ∷ 1 ∷ 4 ∷ []) ∷ (1 ∷ 5 ∷ 1 ∷ 2 ∷ 2 ∷ []) ∷ (0 ∷ 0 ∷ 0 ∷ 0 ∷ 0 ∷ []) ∷ (1 ∷ 5 ∷ 3 ∷ 2 ∷ 0 ∷ []) ∷ (1 ∷ 1 ∷ 1 ∷ 3 ∷ 3 ∷ [])
    ∷ (3 ∷ 1 ∷ 1 ∷ 3 ∷ 3 ∷ [])
    ∷ [])

unfoldable pub base1_day : List ℕ
base1_day = bytes_of base1_words

-- the book, as words: n, 16, 96, 96 + 56n; five pairs t, a; of each line participant, point, side, count and payments, low word first
unfoldable pub base1_book : List ℕ
base1_book =
    bytes_of
    (concat
    ((4 ∷ 16 ∷ 96 ∷ 320 ∷ [])
    ∷ (55 ∷ 0 ∷ 23 ∷ 0 ∷ 6 ∷ 0 ∷ 0 ∷ 0 ∷ 4294967258 ∷ 4294967295 ∷ 0 ∷ 0 ∷ 41 ∷ 0 ∷ 29 ∷ 0 ∷ 4294967284 ∷ 4294967295 ∷ 0 ∷ 0 ∷ [])
    ∷ (103 ∷ 2 ∷ 1 ∷ 3 ∷ 0 ∷ 0 ∷ 0 ∷ 0 ∷ 2 ∷ 0 ∷ 6 ∷ 0 ∷ 0 ∷ 0 ∷ [])
    ∷ (103 ∷ 3 ∷ 1 ∷ 2 ∷ 0 ∷ 0 ∷ 0 ∷ 0 ∷ 0 ∷ 0 ∷ 0 ∷ 0 ∷ 0 ∷ 0 ∷ [])
    ∷ (1 ∷ 1 ∷ 1 ∷ 4 ∷ 0 ∷ 0 ∷ 6 ∷ 0 ∷ 4294967290 ∷ 4294967295 ∷ 35 ∷ 0 ∷ 4294967288 ∷ 4294967295 ∷ [])
    ∷ (103 ∷ 3 ∷ 0 ∷ 4 ∷ 55 ∷ 0 ∷ 0 ∷ 0 ∷ 4294967262 ∷ 4294967295 ∷ 0 ∷ 0 ∷ 4294967292 ∷ 4294967295 ∷ [])
    ∷ []))

unfoldable pub base1_text : List ℕ
base1_text =
    lines_of
    ("day 4"
    ∷ "103 2 WDR 3 0 0 2 6 0"
    ∷ "103 3 WDR 2 0 0 0 0 0"
    ∷ "1 1 WDR 4 0 6 -6 35 -8"
    ∷ "103 3 INJ 4 55 0 -34 0 -4"
    ∷ "total 55 6 -38 41 -12"
    ∷ "adjusted 23 0 0 29 0"
    ∷ [])

-- each step: line, step; end, width, A; five rows of price, flag, O, E, AGINO, MSIQ, C, initial, revised, modified, final; the ten matches
unfoldable pub base1_views_on : List ℕ → List Case
base1_views_on d =
    viewed d 0 0 (3 ∷ 3 ∷ 0 ∷ [])
    (row 4 0 0 3 0 0 0 0 0 0 0
    ∷ row 4 0 0 0 0 0 0 0 0 0 0
    ∷ row 3 0 3 0 0 0 3 0 0 0 0
    ∷ row 3 0 3 0 0 0 3 0 0 0 0
    ∷ row 3 0 0 3 0 3 0 0 0 0 0 ∷ [])
    (0 ∷ 0 ∷ 0 ∷ 0 ∷ 0 ∷ 0 ∷ 0 ∷ 0 ∷ 3 ∷ 0 ∷ [])
    ∷ viewed d 0 1 (4 ∷ 1 ∷ 0 ∷ [])
    (row 1 0 0 1 0 0 0 0 0 0 0
    ∷ row 1 0 0 0 0 0 0 0 0 0 0
    ∷ row 0 0 1 0 0 0 1 1 1 1 1
    ∷ row 3 1 1 0 0 0 1 0 0 0 0
    ∷ row 3 0 0 1 0 1 0 0 0 0 0 ∷ [])
    (0 ∷ 0 ∷ 0 ∷ 0 ∷ 0 ∷ 0 ∷ 0 ∷ 0 ∷ 1 ∷ 0 ∷ [])
    ∷ viewed d 0 2 (12 ∷ 8 ∷ 0 ∷ [])
    (row 1 0 0 4 0 0 0 0 0 0 0
    ∷ row 1 0 0 0 0 0 0 0 0 0 0
    ∷ row 0 0 1 0 0 0 1 1 1 1 1
    ∷ row 3 1 3 0 0 0 3 6 6 6 6
    ∷ row 3 1 0 8 0 8 0 0 0 0 0 ∷ [])
    (0 ∷ 0 ∷ 0 ∷ 0 ∷ 0 ∷ 0 ∷ 0 ∷ 0 ∷ 1 ∷ 2 ∷ [])
    ∷ viewed d 1 0 (7 ∷ 7 ∷ 5 ∷ [])
    (row 5 0 0 0 0 0 0 0 0 0 0
    ∷ row 4 0 1 0 0 0 1 0 0 0 0
    ∷ row 4 0 0 7 0 0 0 0 0 0 0
    ∷ row 5 0 7 0 2 0 5 0 0 0 0
    ∷ row 3 0 7 0 2 0 5 0 0 0 0 ∷ [])
    (0 ∷ 0 ∷ 1 ∷ 0 ∷ 0 ∷ 0 ∷ 0 ∷ 0 ∷ 0 ∷ 0 ∷ [])
    ∷ viewed d 1 1 (9 ∷ 2 ∷ 0 ∷ [])
    (row 2 0 0 0 0 0 0 0 0 0 0
    ∷ row 2 0 0 0 0 0 0 0 0 0 0
    ∷ row 0 0 0 2 0 2 0 0 0 0 0
    ∷ row 0 0 1 0 1 0 0 0 0 0 0
    ∷ row 3 0 2 0 2 0 0 0 0 0 0 ∷ [])
    (0 ∷ 0 ∷ 0 ∷ 0 ∷ 0 ∷ 0 ∷ 0 ∷ 0 ∷ 0 ∷ 0 ∷ [])
    ∷ viewed d 2 0 (2 ∷ 2 ∷ 2 ∷ [])
    (row 5 0 0 0 0 0 0 0 0 0 0
    ∷ row 4 0 2 2 0 0 2 0 0 0 0
    ∷ row 4 0 2 2 0 0 2 0 0 0 0
    ∷ row 6 0 2 1 0 0 2 0 0 0 0
    ∷ row 6 0 2 0 0 0 2 0 0 0 0 ∷ [])
    (0 ∷ 0 ∷ 0 ∷ 0 ∷ 0 ∷ 0 ∷ 0 ∷ 0 ∷ 0 ∷ 0 ∷ [])
    ∷ viewed d 2 1 (3 ∷ 1 ∷ 1 ∷ [])
    (row 4 0 0 0 0 0 0 0 0 0 0
    ∷ row 4 0 1 1 0 0 1 0 0 0 0
    ∷ row 4 0 1 1 0 0 1 0 0 0 0
    ∷ row 5 0 1 0 0 0 1 0 0 0 0
    ∷ row 1 0 1 0 0 0 1 0 0 0 0 ∷ [])
    (0 ∷ 0 ∷ 0 ∷ 0 ∷ 0 ∷ 0 ∷ 0 ∷ 0 ∷ 0 ∷ 0 ∷ [])
    ∷ viewed d 2 2 (5 ∷ 2 ∷ 2 ∷ [])
    (row 2 0 0 0 0 0 0 0 0 0 0
    ∷ row 2 0 2 0 0 0 2 0 0 0 0
    ∷ row 4 0 1 0 0 0 1 0 0 0 0
    ∷ row 1 0 2 0 0 0 2 5 5 5 5
    ∷ row 1 0 2 0 0 0 2 0 0 0 0 ∷ [])
    (0 ∷ 0 ∷ 1 ∷ 0 ∷ 0 ∷ 0 ∷ 0 ∷ 0 ∷ 0 ∷ 0 ∷ [])
    ∷ viewed d 2 3 (11 ∷ 6 ∷ 2 ∷ [])
    (row 0 0 0 0 0 0 0 0 0 0 0
    ∷ row 0 0 6 0 0 0 6 6 6 6 6
    ∷ row 0 0 0 0 0 0 0 (neg 6) (neg 6) (neg 6) (neg 6)
    ∷ row 1 0 6 0 0 0 6 30 30 30 30
    ∷ row 0 0 2 0 0 0 2 (neg 12) (neg 8) (neg 20) (neg 8) ∷ [])
    (0 ∷ 0 ∷ 6 ∷ 0 ∷ 0 ∷ 0 ∷ 0 ∷ 0 ∷ 0 ∷ 4 ∷ [])
    ∷ viewed d 3 0 (1 ∷ 1 ∷ 1 ∷ [])
    (row 6 0 1 0 0 0 1 5 5 5 5
    ∷ row 3 0 1 0 0 0 1 0 0 0 0
    ∷ row 3 0 0 1 0 1 0 (neg 2) (neg 2) (neg 5) (neg 2)
    ∷ row 3 0 1 1 0 0 1 0 0 0 0
    ∷ row 5 0 1 0 0 0 1 0 0 0 0 ∷ [])
    (0 ∷ 1 ∷ 0 ∷ 0 ∷ 0 ∷ 0 ∷ 0 ∷ 0 ∷ 0 ∷ 0 ∷ [])
    ∷ viewed d 3 1 (3 ∷ 2 ∷ 2 ∷ [])
    (row 6 0 2 0 0 0 2 10 10 10 10
    ∷ row 4 0 2 0 0 0 2 0 0 0 0
    ∷ row 4 0 0 2 0 2 0 (neg 6) (neg 6) (neg 10) (neg 6)
    ∷ row 6 0 2 1 0 0 2 0 0 0 0
    ∷ row 5 0 2 0 0 0 2 0 0 0 0 ∷ [])
    (0 ∷ 2 ∷ 0 ∷ 0 ∷ 0 ∷ 0 ∷ 0 ∷ 0 ∷ 0 ∷ 0 ∷ [])
    ∷ viewed d 3 2 (10 ∷ 7 ∷ 6 ∷ [])
    (row 6 0 7 0 0 0 7 35 35 35 35
    ∷ row 4 0 7 0 0 0 7 0 0 0 0
    ∷ row 4 0 0 7 0 7 0 (neg 21) (neg 21) (neg 35) (neg 21)
    ∷ row 6 0 7 0 0 0 7 0 0 0 0
    ∷ row 5 0 6 0 0 0 6 (neg 2) (neg 2) 0 (neg 2) ∷ [])
    (0 ∷ 7 ∷ 0 ∷ 0 ∷ 0 ∷ 0 ∷ 0 ∷ 0 ∷ 0 ∷ 1 ∷ [])
    ∷ viewed d 3 3 (11 ∷ 1 ∷ 0 ∷ [])
    (row 6 1 1 0 0 0 1 5 5 5 5
    ∷ row 4 1 1 0 0 0 1 0 0 0 0
    ∷ row 4 1 0 1 0 1 0 (neg 3) (neg 3) (neg 5) (neg 5)
    ∷ row 6 1 1 0 0 0 1 0 0 0 0
    ∷ row 5 0 0 0 0 0 0 (neg 2) (neg 2) 0 (neg 2) ∷ [])
    (0 ∷ 1 ∷ 0 ∷ 0 ∷ 0 ∷ 0 ∷ 0 ∷ 0 ∷ 0 ∷ 1 ∷ [])
    ∷ []

-- each line of the cutter: ends; five rows of uncapped prices; words of flags; how many are set. The uncapped prices are worked out from
-- the words above by document 01's sentence, since the third implementation's steps have capped ones
unfoldable pub base1_cuts_on : List ℕ → List Case
base1_cuts_on d =
    cut_into d 0 (3 ∷ 4 ∷ 12 ∷ [])
    ((4 ∷ 1 ∷ 1 ∷ []) ∷ (4 ∷ 1 ∷ 1 ∷ []) ∷ (3 ∷ 0 ∷ 0 ∷ [])
    ∷ (3 ∷ 3 ∷ 3 ∷ []) ∷ (3 ∷ 3 ∷ 3 ∷ []) ∷ [])
    (0 ∷ 0 ∷ 0 ∷ 6 ∷ 4 ∷ []) (0 ∷ 0 ∷ 0 ∷ 2 ∷ 1 ∷ [])
    ∷ cut_into d 1 (7 ∷ 9 ∷ [])
    ((5 ∷ 2 ∷ []) ∷ (5 ∷ 2 ∷ []) ∷ (5 ∷ 0 ∷ [])
    ∷ (5 ∷ 0 ∷ []) ∷ (3 ∷ 3 ∷ []) ∷ [])
    (0 ∷ 0 ∷ 0 ∷ 0 ∷ 0 ∷ []) (0 ∷ 0 ∷ 0 ∷ 0 ∷ 0 ∷ [])
    ∷ cut_into d 2 (2 ∷ 3 ∷ 5 ∷ 11 ∷ [])
    ((5 ∷ 4 ∷ 2 ∷ 0 ∷ []) ∷ (5 ∷ 4 ∷ 2 ∷ 0 ∷ []) ∷ (6 ∷ 5 ∷ 4 ∷ 0 ∷ [])
    ∷ (6 ∷ 5 ∷ 1 ∷ 1 ∷ []) ∷ (6 ∷ 1 ∷ 1 ∷ 0 ∷ []) ∷ [])
    (0 ∷ 0 ∷ 0 ∷ 0 ∷ 0 ∷ []) (0 ∷ 0 ∷ 0 ∷ 0 ∷ 0 ∷ [])
    ∷ cut_into d 3 (1 ∷ 3 ∷ 10 ∷ 11 ∷ [])
    ((6 ∷ 6 ∷ 6 ∷ 6 ∷ []) ∷ (3 ∷ 4 ∷ 4 ∷ 4 ∷ []) ∷ (3 ∷ 4 ∷ 4 ∷ 4 ∷ [])
    ∷ (3 ∷ 6 ∷ 6 ∷ 6 ∷ []) ∷ (5 ∷ 5 ∷ 5 ∷ 5 ∷ []) ∷ [])
    (8 ∷ 8 ∷ 8 ∷ 8 ∷ 0 ∷ []) (1 ∷ 1 ∷ 1 ∷ 1 ∷ 0 ∷ [])
    ∷ []

-- it is accepted; its book, in a lent one a byte longer; its report; every step of every line; every line
unfoldable pub base1_cases_on : List ℕ → List Case
base1_cases_on d =
    number (day_fault d) 0 ∷ booked d (replicate 321 170) (base1_book ++ (170 ∷ []))
    ∷ printed d base1_text ∷ (base1_views_on d ++ base1_cuts_on d)

unfoldable pub base1_cases : List Case
base1_cases = base1_cases_on base1_day

-- all of this file, opened
unfoldable pub base1_opened : ℕ
unfolding base1_words base1_day base1_book base1_text base1_views_on base1_cuts_on base1_cases_on base1_cases
base1_opened = 0
