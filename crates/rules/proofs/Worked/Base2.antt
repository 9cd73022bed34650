-- Base 2: an injection that is hedged whole (hedge 7, its greatest break) and a withdrawal, clawback on. Marks in schedules 2 and 5 with APC 4
-- lower prices of both lines. Bids of one step, so missing prices on both lines. On line 1: finals that are the modified payment (schedule 4),
-- and one that is pooled (step 1, schedule 5, where T is 11, B 6 and D 1). A rise that two falls take (line 1, step 1).
-- Participant and point of line 0 are the greatest words.
use Rattle.std.specs.Prelude.{ℕ, List, [], ◌∷◌, ◌++◌, replicate}
use Rattle.rules.proofs.Worked.Cases.{Case, concat, bytes_of, lines_of, bid, neg, row, view_fields, number, booked, printed, viewed, cut_into}
use Rattle.rules.specs.Refusals.{day_fault, settle_fault, view_fault, line_part_fault}
use Rattle.rules.specs.Viewing.{view_answer}

unfoldable pub base2_words : List ℕ
base2_words =
    concat
    ((2 ∷ 16 ∷ 64 ∷ 1384 ∷ [])
    -- market prices, cap marks, APC, clawback
    ∷ (1 ∷ 1 ∷ 0 ∷ 5 ∷ 6 ∷ []) ∷ (0 ∷ 1 ∷ 0 ∷ 0 ∷ 1 ∷ []) ∷ (4 ∷ 1 ∷ [])
    -- line 0: participant, point, side, accreditation, hedge; bids; pricing rows; operating rows; actuals
    ∷ (4294967295 ∷ 4294967295 ∷ 0 ∷ 1 ∷ 7 ∷ [])
    ∷ bid (2 ∷ []) (6 ∷ [])
    ∷ bid (2 ∷ []) (5 ∷ [])
    ∷ bid (2 ∷ []) (3 ∷ [])
    ∷ bid (2 ∷ []) (3 ∷ [])
    ∷ bid (3 ∷ 4 ∷ 5 ∷ 7 ∷ []) (1 ∷ 2 ∷ 2 ∷ 5 ∷ [])
    ∷ (0 ∷ 0 ∷ 1 ∷ 1 ∷ 0 ∷ []) ∷ (0 ∷ 0 ∷ 0 ∷ 0 ∷ []) ∷ (0 ∷ 0 ∷ 0 ∷ []) ∷ (0 ∷ 0 ∷ []) ∷ (2 ∷ [])
    ∷ (1 ∷ 1 ∷ 0 ∷ 1 ∷ 4 ∷ []) ∷ (0 ∷ 0 ∷ 0 ∷ 0 ∷ 0 ∷ []) ∷ (1 ∷ 3 ∷ 1 ∷ 1 ∷ 1 ∷ []) ∷ (0 ∷ 1 ∷ 1 ∷ 1 ∷ 0 ∷ []) ∷ (0 ∷ 0 ∷ 0 ∷ 0 ∷ 0 ∷ [])
    ∷ (0 ∷ 0 ∷ 0 ∷ 0 ∷ 0 ∷ [])
    -- line 1: participant, point, side, accreditation, hedge; bids; pricing rows; operating rows; actuals
    ∷ (4294967295 ∷ 47 ∷ 1 ∷ 1 ∷ 0 ∷ [])
    ∷ bid (2 ∷ 4 ∷ 5 ∷ 7 ∷ 11 ∷ 12 ∷ []) (6 ∷ 5 ∷ 5 ∷ 5 ∷ 0 ∷ 0 ∷ [])
    ∷ bid (2 ∷ 4 ∷ 5 ∷ 7 ∷ 11 ∷ 12 ∷ []) (6 ∷ 5 ∷ 5 ∷ 2 ∷ 2 ∷ 1 ∷ [])
    ∷ bid (2 ∷ 4 ∷ 5 ∷ 7 ∷ 11 ∷ 12 ∷ []) (6 ∷ 5 ∷ 5 ∷ 2 ∷ 2 ∷ 1 ∷ [])
    ∷ bid (7 ∷ 8 ∷ []) (4 ∷ 2 ∷ [])
    ∷ bid (7 ∷ []) (4 ∷ [])
    ∷ (0 ∷ 0 ∷ 0 ∷ 0 ∷ 0 ∷ []) ∷ (0 ∷ 0 ∷ 0 ∷ 0 ∷ []) ∷ (0 ∷ 0 ∷ 0 ∷ []) ∷ (0 ∷ 3 ∷ []) ∷ (4 ∷ [])
    ∷ (0 ∷ 3 ∷ 0 ∷ 1 ∷ 2 ∷ []) ∷ (0 ∷ 0 ∷ 0 ∷ 0 ∷ 0 ∷ []) ∷ (0 ∷ 10 ∷ 1 ∷ 1 ∷ 0 ∷ []) ∷ (0 ∷ 6 ∷ 0 ∷ 0 ∷ 0 ∷ []) ∷ (0 ∷ 0 ∷ 12 ∷ 0 ∷ 0 ∷ [])
    ∷ (3 ∷ 0 ∷ 17 ∷ 0 ∷ 0 ∷ [])
    ∷ [])

unfoldable pub base2_day : List ℕ
base2_day = bytes_of base2_words

-- the book, as words: n, 16, 96, 96 + 56n; five pairs t, a; of each line participant, point, side, count and payments, low word first
unfoldable pub base2_book : List ℕ
base2_book =
    bytes_of
    (concat
    ((2 ∷ 16 ∷ 96 ∷ 208 ∷ [])
    ∷ (0 ∷ 0 ∷ 0 ∷ 0 ∷ 0 ∷ 0 ∷ 0 ∷ 0 ∷ 0 ∷ 0 ∷ 0 ∷ 0 ∷ 4294967292 ∷ 4294967295 ∷ 4294967292 ∷ 4294967295 ∷ 10 ∷ 0 ∷ 10 ∷ 0 ∷ [])
    ∷ (4294967295 ∷ 4294967295 ∷ 0 ∷ 5 ∷ 0 ∷ 0 ∷ 0 ∷ 0 ∷ 0 ∷ 0 ∷ 0 ∷ 0 ∷ 0 ∷ 0 ∷ [])
    ∷ (4294967295 ∷ 47 ∷ 1 ∷ 7 ∷ 0 ∷ 0 ∷ 0 ∷ 0 ∷ 0 ∷ 0 ∷ 4294967292 ∷ 4294967295 ∷ 10 ∷ 0 ∷ [])
    ∷ []))

unfoldable pub base2_text : List ℕ
base2_text =
    lines_of
    ("day 2"
    ∷ "4294967295 4294967295 INJ 5 0 0 0 0 0"
    ∷ "4294967295 47 WDR 7 0 0 0 -4 10"
    ∷ "total 0 0 0 -4 10"
    ∷ "adjusted 0 0 0 -4 10"
    ∷ [])

-- each step: line, step; end, width, A; five rows of price, flag, O, E, AGINO, MSIQ, C, initial, revised, modified, final; the ten matches
unfoldable pub base2_views_on : List ℕ → List Case
base2_views_on d =
    viewed d 0 0 (2 ∷ 2 ∷ 0 ∷ [])
    (row 6 0 2 2 0 2 0 0 0 0 0
    ∷ row 4 0 0 0 0 0 0 0 0 0 0
    ∷ row 3 0 2 0 0 0 2 0 0 0 0
    ∷ row 3 0 2 0 0 0 2 0 0 0 0
    ∷ row 1 0 0 2 0 2 0 0 0 0 0 ∷ [])
    (0 ∷ 0 ∷ 0 ∷ 0 ∷ 0 ∷ 0 ∷ 0 ∷ 0 ∷ 2 ∷ 0 ∷ [])
    ∷ viewed d 0 1 (3 ∷ 1 ∷ 0 ∷ [])
    (row 6 1 1 0 0 0 1 0 0 0 0
    ∷ row 4 1 0 0 0 0 0 0 0 0 0
    ∷ row 3 1 1 0 0 0 1 0 0 0 0
    ∷ row 3 1 1 0 0 0 1 0 0 0 0
    ∷ row 1 0 0 0 0 0 0 0 0 0 0 ∷ [])
    (1 ∷ 0 ∷ 0 ∷ 0 ∷ 0 ∷ 0 ∷ 0 ∷ 0 ∷ 1 ∷ 0 ∷ [])
    ∷ viewed d 0 2 (4 ∷ 1 ∷ 0 ∷ [])
    (row 6 1 1 0 0 0 1 0 0 0 0
    ∷ row 4 1 0 0 0 0 0 0 0 0 0
    ∷ row 3 1 1 0 0 0 1 0 0 0 0
    ∷ row 3 1 0 0 0 0 0 0 0 0 0
    ∷ row 2 0 0 0 0 0 0 0 0 0 0 ∷ [])
    (1 ∷ 0 ∷ 0 ∷ 0 ∷ 0 ∷ 1 ∷ 0 ∷ 0 ∷ 0 ∷ 0 ∷ [])
    ∷ viewed d 0 3 (5 ∷ 1 ∷ 0 ∷ [])
    (row 6 1 1 0 0 0 1 0 0 0 0
    ∷ row 4 1 0 0 0 0 0 0 0 0 0
    ∷ row 3 1 1 0 0 0 1 0 0 0 0
    ∷ row 3 1 0 0 0 0 0 0 0 0 0
    ∷ row 2 0 0 0 0 0 0 0 0 0 0 ∷ [])
    (1 ∷ 0 ∷ 0 ∷ 0 ∷ 0 ∷ 1 ∷ 0 ∷ 0 ∷ 0 ∷ 0 ∷ [])
    ∷ viewed d 0 4 (7 ∷ 2 ∷ 0 ∷ [])
    (row 6 1 2 0 0 0 2 0 0 0 0
    ∷ row 4 1 0 0 0 0 0 0 0 0 0
    ∷ row 3 1 2 0 0 0 2 0 0 0 0
    ∷ row 3 1 0 0 0 0 0 0 0 0 0
    ∷ row 4 0 0 0 0 0 0 0 0 0 0 ∷ [])
    (2 ∷ 0 ∷ 0 ∷ 0 ∷ 0 ∷ 2 ∷ 0 ∷ 0 ∷ 0 ∷ 0 ∷ [])
    ∷ viewed d 1 0 (2 ∷ 2 ∷ 2 ∷ [])
    (row 6 0 2 0 0 0 2 0 0 0 0
    ∷ row 4 0 0 0 0 0 0 0 0 0 0
    ∷ row 6 0 2 0 0 0 2 0 0 0 0
    ∷ row 4 0 2 2 0 2 0 (neg 2) 0 0 0
    ∷ row 4 0 2 2 0 2 0 0 0 0 0 ∷ [])
    (2 ∷ 0 ∷ 0 ∷ 0 ∷ 0 ∷ 2 ∷ 0 ∷ 0 ∷ 0 ∷ 0 ∷ [])
    ∷ viewed d 1 1 (4 ∷ 2 ∷ 2 ∷ [])
    (row 5 0 2 0 0 0 2 0 0 0 0
    ∷ row 4 0 0 0 0 0 0 0 0 0 0
    ∷ row 5 0 2 0 0 0 2 0 0 0 0
    ∷ row 4 0 2 1 0 1 1 (neg 1) 0 0 0
    ∷ row 4 0 2 2 0 2 0 (neg 2) (neg 1) 0 (neg 2) ∷ [])
    (2 ∷ 0 ∷ 0 ∷ 0 ∷ 0 ∷ 1 ∷ 0 ∷ 0 ∷ 1 ∷ 0 ∷ [])
    ∷ viewed d 1 2 (5 ∷ 1 ∷ 1 ∷ [])
    (row 5 0 1 0 0 0 1 0 0 0 0
    ∷ row 4 0 0 0 0 0 0 0 0 0 0
    ∷ row 5 0 1 0 0 0 1 0 0 0 0
    ∷ row 4 0 1 0 0 0 1 0 0 0 0
    ∷ row 4 0 1 0 0 0 1 0 0 0 0 ∷ [])
    (1 ∷ 0 ∷ 0 ∷ 0 ∷ 0 ∷ 0 ∷ 0 ∷ 0 ∷ 0 ∷ 0 ∷ [])
    ∷ viewed d 1 3 (7 ∷ 2 ∷ 2 ∷ [])
    (row 5 0 1 0 0 0 1 0 0 0 0
    ∷ row 2 0 0 0 0 0 0 0 0 0 0
    ∷ row 2 0 2 0 0 0 2 0 0 0 0
    ∷ row 4 0 1 0 0 0 1 (neg 1) (neg 1) 0 (neg 1)
    ∷ row 4 0 2 0 0 0 2 2 2 2 2 ∷ [])
    (1 ∷ 0 ∷ 0 ∷ 0 ∷ 0 ∷ 1 ∷ 0 ∷ 0 ∷ 0 ∷ 0 ∷ [])
    ∷ viewed d 1 4 (8 ∷ 1 ∷ 1 ∷ [])
    (row 0 0 0 0 0 0 0 0 0 0 0
    ∷ row 2 0 0 0 0 0 0 0 0 0 0
    ∷ row 2 0 1 0 0 0 1 0 0 0 0
    ∷ row 2 0 0 0 0 0 0 (neg 3) (neg 3) 0 (neg 3)
    ∷ row 4 1 1 0 0 0 1 2 2 2 2 ∷ [])
    (0 ∷ 0 ∷ 0 ∷ 0 ∷ 0 ∷ 1 ∷ 0 ∷ 0 ∷ 0 ∷ 0 ∷ [])
    ∷ viewed d 1 5 (11 ∷ 3 ∷ 3 ∷ [])
    (row 0 0 0 0 0 0 0 0 0 0 0
    ∷ row 2 0 0 0 0 0 0 0 0 0 0
    ∷ row 2 0 3 0 0 0 3 0 0 0 0
    ∷ row 2 1 0 0 0 0 0 (neg 9) (neg 9) 0 0
    ∷ row 4 1 3 0 0 0 3 6 6 6 6 ∷ [])
    (0 ∷ 0 ∷ 0 ∷ 0 ∷ 0 ∷ 3 ∷ 0 ∷ 0 ∷ 0 ∷ 0 ∷ [])
    ∷ viewed d 1 6 (12 ∷ 1 ∷ 1 ∷ [])
    (row 0 0 0 0 0 0 0 0 0 0 0
    ∷ row 1 0 0 0 0 0 0 0 0 0 0
    ∷ row 1 0 1 0 0 0 1 0 0 0 0
    ∷ row 2 1 0 0 0 0 0 (neg 3) (neg 3) 0 0
    ∷ row 4 1 1 0 0 0 1 2 2 2 2 ∷ [])
    (0 ∷ 0 ∷ 0 ∷ 0 ∷ 0 ∷ 1 ∷ 0 ∷ 0 ∷ 0 ∷ 0 ∷ [])
    ∷ []

-- each line of the cutter: ends; five rows of uncapped prices; words of flags; how many are set. The uncapped prices are worked out from
-- the words above by document 01's sentence, since the third implementation's steps have capped ones
unfoldable pub base2_cuts_on : List ℕ → List Case
base2_cuts_on d =
    cut_into d 0 (2 ∷ 3 ∷ 4 ∷ 5 ∷ 7 ∷ [])
    ((6 ∷ 6 ∷ 6 ∷ 6 ∷ 6 ∷ []) ∷ (5 ∷ 5 ∷ 5 ∷ 5 ∷ 5 ∷ []) ∷ (3 ∷ 3 ∷ 3 ∷ 3 ∷ 3 ∷ [])
    ∷ (3 ∷ 3 ∷ 3 ∷ 3 ∷ 3 ∷ []) ∷ (1 ∷ 1 ∷ 2 ∷ 2 ∷ 5 ∷ []) ∷ [])
    (30 ∷ 30 ∷ 30 ∷ 30 ∷ 0 ∷ []) (4 ∷ 4 ∷ 4 ∷ 4 ∷ 0 ∷ [])
    ∷ cut_into d 1 (2 ∷ 4 ∷ 5 ∷ 7 ∷ 8 ∷ 11 ∷ 12 ∷ [])
    ((6 ∷ 5 ∷ 5 ∷ 5 ∷ 0 ∷ 0 ∷ 0 ∷ []) ∷ (6 ∷ 5 ∷ 5 ∷ 2 ∷ 2 ∷ 2 ∷ 1 ∷ []) ∷ (6 ∷ 5 ∷ 5 ∷ 2 ∷ 2 ∷ 2 ∷ 1 ∷ [])
    ∷ (4 ∷ 4 ∷ 4 ∷ 4 ∷ 2 ∷ 2 ∷ 2 ∷ []) ∷ (4 ∷ 4 ∷ 4 ∷ 4 ∷ 4 ∷ 4 ∷ 4 ∷ []) ∷ [])
    (0 ∷ 0 ∷ 0 ∷ 96 ∷ 112 ∷ []) (0 ∷ 0 ∷ 0 ∷ 2 ∷ 3 ∷ [])
    ∷ []

-- numbers of calls on it, on both sides of their boundaries: a lent book, a line, a step; a refused call changes no byte of the book and is
-- answered with zeros
unfoldable pub base2_calls_on : List ℕ → List Case
base2_calls_on d =
    number (settle_fault d 208) 0
    ∷ number (settle_fault d 207) 15
    ∷ number (view_fault d 1 0) 0
    ∷ number (view_fault d 2 0) 16
    ∷ number (view_fault d 2 99) 16
    ∷ number (view_fault d 1 6) 0
    ∷ number (view_fault d 1 7) 17
    ∷ number (view_fault d 0 4) 0
    ∷ number (view_fault d 0 5) 17
    ∷ number (line_part_fault d 1) 0
    ∷ number (line_part_fault d 2) 16
    ∷ booked d (replicate 207 170) (replicate 207 170)
    ∷ record { found = view_fields (view_answer d 2 0); expected = 16 ∷ replicate 79 0 }
    ∷ []

-- it is accepted; its book, in a lent one a byte longer; its report; every step of every line; every line
unfoldable pub base2_cases_on : List ℕ → List Case
base2_cases_on d =
    number (day_fault d) 0 ∷ booked d (replicate 209 170) (base2_book ++ (170 ∷ []))
    ∷ printed d base2_text ∷ (base2_views_on d ++ base2_cuts_on d ++ base2_calls_on d)

unfoldable pub base2_cases : List Case
base2_cases = base2_cases_on base2_day

-- all of this file, opened
unfoldable pub base2_opened : ℕ
unfolding base2_words base2_day base2_book base2_text base2_views_on base2_cuts_on base2_calls_on base2_cases_on base2_cases
base2_opened = 0
