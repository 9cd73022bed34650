-- Refusals and rows in force on small lines and files, expected by the sentences of documents 01 and 02: one lemma, computed before the whole
-- days, because a wrong definition that it refuses costs less.
use Rattle.std.specs.Prelude.{ℕ, ◌+◌, ◌*◌, ◌≡◌, refl, List, [], ◌∷◌, ◌++◌, true, replicate}
use Rattle.rules.specs.Refusals.{records_fault, total_fault, line_fault_with, line_fault_at, day_fault}
use Rattle.rules.specs.InForce.{effective_actual}
use Rattle.rules.proofs.Worked.Cases.{Case, every, number, concat, bytes_of, bid}
use Rattle.rules.proofs.Worked.Opened.{opened}
use Rattle.rules.proofs.Worked.ByHand.{by_hand}

-- an accredited injection with hedge h, a first bid of one step up to m, the others pulled, and p as the first of its pricing quantities
abbrev one_step : ℕ → ℕ → ℕ → List ℕ
one_step h m p = bytes_of ((0 ∷ 0 ∷ 0 ∷ 1 ∷ h ∷ []) ++ bid (m ∷ []) (5 ∷ []) ++ replicate 92 0 ++ (p ∷ replicate 44 0))

-- refusal 12 "starts at M + 1,001", of an operating total q or of the pricing total; a hedge of M passes
abbrev total_of : ℕ → ℕ → ℕ → ℕ
total_of m p q = total_fault ((q ∷ []) ∷ []) (one_step 0 m p) 0

-- a file of one line, which has 2000 in its operating row 1 and the actuals 4 4 4 4 4, with c records r
abbrev file_with : ℕ → List ℕ → List ℕ
file_with c r =
    bytes_of
    (concat
    ((1 ∷ 24 ∷ 72 ∷ (732 + 32 * c) ∷ c ∷ 732 ∷ []) ∷ replicate 12 0
    ∷ (0 ∷ 0 ∷ 0 ∷ 1 ∷ 0 ∷ []) ∷ bid (10 ∷ []) (5 ∷ []) ∷ replicate 107 0 ∷ (2000 ∷ replicate 24 0) ∷ replicate 5 4 ∷ r ∷ []))

-- rows in force for schedules 1 and 5: of row 5 the lesser with the actuals is 1 + 2 + 3 + 4 + 4, and row 1 is not above M + 1,000
abbrev rows_day : List ℕ
rows_day = file_with 2 ((0 ∷ 5 ∷ 0 ∷ 1 ∷ 2 ∷ 3 ∷ 9 ∷ 9 ∷ []) ++ (0 ∷ 1 ∷ 0 ∷ replicate 5 0))

-- two records that agree, and one that names schedule 6: "20 when, after the market table, ..; 21 when, after that"
abbrev twin_day : List ℕ
twin_day = file_with 3 ((0 ∷ 1 ∷ 5 ∷ replicate 5 0) ++ (0 ∷ 1 ∷ 5 ∷ replicate 5 0) ++ (0 ∷ 6 ∷ 0 ∷ replicate 5 0))

-- two lines with equal keys, the first with accreditation 2: 6 comes before 14
abbrev keys_day : List ℕ
keys_day = bytes_of (concat ((2 ∷ 16 ∷ 64 ∷ 1384 ∷ []) ∷ replicate 12 0 ∷ (0 ∷ 0 ∷ 0 ∷ 2 ∷ []) ∷ replicate 326 0 ∷ []))

abbrev line_cases : List Case
line_cases =
    record { found = total_of 10 1010 1010 ∷ total_of 10 0 1011 ∷ total_of 10 1011 0 ∷ []; expected = 0 ∷ 12 ∷ 12 ∷ [] }
    ∷ number (total_of 200000000 200001000 200001000) 0
    ∷ number (records_fault twin_day) 20
    ∷ number (day_fault keys_day) 6
    ∷ number (effective_actual rows_day 0) 14
    ∷ number (line_fault_with [] (one_step 10 10 0)) 0
    ∷ number (line_fault_at rows_day 0) 0
    ∷ []

-- it names the lemma of the figures by hand, so that where that is refused this is not computed
pub small_lines : every line_cases ≡ true
unfolding opened
small_lines = let k = by_hand in refl
