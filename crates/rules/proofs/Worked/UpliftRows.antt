-- Document 02, F-1, on rows of five totals: the adjusted totals by document 01 and the shares, worked out by hand and by a program that was
-- written from the two papers with exact fractions. One lemma, computed on the definitions.
use Rattle.std.specs.Prelude.{ℕ, ◌-◌, ◌≡◌, refl, List, [], ◌∷◌, ◌++◌, map, true, replicate, ℤ, pos, negsuc}
use Rattle.rules.specs.Fold.{five}
use Rattle.rules.specs.Payments.{bit}
use Rattle.rules.specs.Totals.{adjusted}
use Rattle.rules.specs.Uplift.{same_group, group_total, group_adjusted, rounded_size, units_left, unit_for, share_of}
use Rattle.rules.specs.Book.{bits64}
use Rattle.rules.proofs.Worked.Cases.{Case, every, neg}
use Rattle.rules.proofs.Worked.Opened.{opened}
use Rattle.rules.proofs.Worked.SmallCases.{small_cases_lem}

-- minus n, for n above 0
abbrev minus : ℕ → ℤ
minus n = negsuc (n - 1)

-- from the totals t: the adjusted totals a and the shares e
abbrev shared : List ℤ → List ℕ → List ℕ → Case
shared t a e = record { found = map bits64 (five (adjusted t) ++ five (share_of t)); expected = a ++ e }

-- a member whose division leaves no remainder among others: the group 4 1 1 2 has the total 8 and, since -2 is taken back from its last
-- schedule, the adjusted total 6; 24/8 = 3, 6/8, 6/8 and 12/8 give 3 0 0 1, and the two units left go to schedules 2 and 3
abbrev exact_first : List ℤ
exact_first = pos 4 ∷ pos 1 ∷ pos 1 ∷ pos 2 ∷ minus 2 ∷ []

abbrev row_cases : List Case
row_cases =
    shared exact_first (4 ∷ 1 ∷ 1 ∷ 0 ∷ 0 ∷ []) (3 ∷ 1 ∷ 1 ∷ 1 ∷ 0 ∷ [])
    ∷ record { found = five (λ s. bit (same_group exact_first 1 s)); expected = 1 ∷ 1 ∷ 1 ∷ 1 ∷ 0 ∷ [] }
    ∷ record { found = map bits64 (five (group_total exact_first)); expected = 8 ∷ 8 ∷ 8 ∷ 8 ∷ neg 2 ∷ [] }
    ∷ record { found = map bits64 (five (group_adjusted exact_first)); expected = 6 ∷ 6 ∷ 6 ∷ 6 ∷ 0 ∷ [] }
    ∷ record { found = five (rounded_size exact_first); expected = 3 ∷ 0 ∷ 0 ∷ 1 ∷ 0 ∷ [] }
    ∷ record { found = five (units_left exact_first); expected = 2 ∷ 2 ∷ 2 ∷ 2 ∷ 0 ∷ [] }
    ∷ record { found = five (unit_for exact_first); expected = 0 ∷ 1 ∷ 1 ∷ 0 ∷ 0 ∷ [] }
    -- zeros between groups: of 5, in the group of schedule 3 alone, 3 are taken back; then a group of two behind a 0; then two groups of one
    ∷ shared (pos 7 ∷ pos 0 ∷ pos 5 ∷ minus 3 ∷ pos 0 ∷ []) (7 ∷ 0 ∷ 2 ∷ 0 ∷ 0 ∷ []) (7 ∷ 0 ∷ 2 ∷ 0 ∷ 0 ∷ [])
    ∷ shared (pos 4 ∷ pos 0 ∷ pos 3 ∷ pos 2 ∷ minus 4 ∷ []) (4 ∷ 0 ∷ 1 ∷ 0 ∷ 0 ∷ []) (4 ∷ 0 ∷ 1 ∷ 0 ∷ 0 ∷ [])
    ∷ shared (pos 0 ∷ pos 6 ∷ pos 0 ∷ pos 0 ∷ pos 5 ∷ []) (0 ∷ 6 ∷ 0 ∷ 0 ∷ 5 ∷ []) (0 ∷ 6 ∷ 0 ∷ 0 ∷ 5 ∷ [])
    -- all zeros
    ∷ shared (replicate 5 (pos 0)) (replicate 5 0) (replicate 5 0)
    -- a group of five: where nothing is taken back, all totals are their own shares
    ∷ shared (pos 1 ∷ pos 2 ∷ pos 3 ∷ pos 4 ∷ pos 5 ∷ []) (1 ∷ 2 ∷ 3 ∷ 4 ∷ 5 ∷ []) (1 ∷ 2 ∷ 3 ∷ 4 ∷ 5 ∷ [])
    -- no unit is left: 4 x 3/6 and 2 x 3/6
    ∷ shared (pos 4 ∷ pos 2 ∷ minus 3 ∷ pos 0 ∷ pos 0 ∷ []) (3 ∷ 0 ∷ 0 ∷ 0 ∷ 0 ∷ []) (2 ∷ 1 ∷ 0 ∷ 0 ∷ 0 ∷ [])
    -- groups of four with units left: 21/10 thrice and 7/10, one unit; 6/7 thrice and 3/7, three; 15/14 thrice and 25/14, one, which the
    -- greatest remainder does not get
    ∷ shared (pos 3 ∷ pos 3 ∷ pos 3 ∷ pos 1 ∷ minus 3 ∷ []) (3 ∷ 3 ∷ 1 ∷ 0 ∷ 0 ∷ []) (3 ∷ 2 ∷ 2 ∷ 0 ∷ 0 ∷ [])
    ∷ shared (pos 2 ∷ pos 2 ∷ pos 2 ∷ pos 1 ∷ minus 4 ∷ []) (2 ∷ 1 ∷ 0 ∷ 0 ∷ 0 ∷ []) (1 ∷ 1 ∷ 1 ∷ 0 ∷ 0 ∷ [])
    ∷ shared (pos 3 ∷ pos 3 ∷ pos 3 ∷ pos 5 ∷ minus 9 ∷ []) (3 ∷ 2 ∷ 0 ∷ 0 ∷ 0 ∷ []) (2 ∷ 1 ∷ 1 ∷ 1 ∷ 0 ∷ [])
    -- alternating signs, K8 and K9: in a group of one the share is the adjusted total
    ∷ shared (pos 5 ∷ minus 2 ∷ pos 4 ∷ minus 3 ∷ pos 0 ∷ []) (3 ∷ 0 ∷ 1 ∷ 0 ∷ 0 ∷ []) (3 ∷ 0 ∷ 1 ∷ 0 ∷ 0 ∷ [])
    ∷ shared (pos 5 ∷ minus 8 ∷ pos 4 ∷ pos 0 ∷ pos 0 ∷ []) (0 ∷ neg 3 ∷ 4 ∷ 0 ∷ 0 ∷ []) (0 ∷ neg 3 ∷ 4 ∷ 0 ∷ 0 ∷ [])
    -- groups of two below 0: -3 x 5/7 and -4 x 5/7 give -2 -2 and a unit; -4/10 and -6/10 give 0 0 and a unit, which goes to a schedule whose
    -- adjusted total is 0
    ∷ shared (pos 2 ∷ minus 3 ∷ minus 4 ∷ pos 0 ∷ pos 0 ∷ []) (0 ∷ neg 1 ∷ neg 4 ∷ 0 ∷ 0 ∷ []) (0 ∷ neg 3 ∷ neg 2 ∷ 0 ∷ 0 ∷ [])
    ∷ shared (pos 9 ∷ minus 4 ∷ minus 6 ∷ pos 8 ∷ minus 2 ∷ []) (0 ∷ 0 ∷ neg 1 ∷ 6 ∷ 0 ∷ []) (0 ∷ neg 1 ∷ 0 ∷ 6 ∷ 0 ∷ [])
    -- totals at the limit 128,000,000,000,000,000 and beside it, whose products need 116 bits
    ∷ shared
    (pos 127999999999999999 ∷ pos 128000000000000000 ∷ pos 127999999999999997 ∷ pos 127999999999999993 ∷ minus 127999999999999999 ∷ [])
    (127999999999999999 ∷ 128000000000000000 ∷ 127999999999999991 ∷ 0 ∷ 0 ∷ [])
    (95999999999999999 ∷ 96000000000000000 ∷ 95999999999999997 ∷ 95999999999999994 ∷ 0 ∷ [])
    ∷ shared
    (pos 127999999999999998 ∷ minus 128000000000000000 ∷ minus 127999999999999999 ∷ minus 127999999999999997 ∷ pos 5 ∷ [])
    (0 ∷ neg 2 ∷ neg 127999999999999999 ∷ neg 127999999999999997 ∷ 5 ∷ [])
    (0 ∷ neg 85333333333333334 ∷ neg 85333333333333333 ∷ neg 85333333333333331 ∷ 5 ∷ [])
    ∷ []

-- it names the lemma of the small cases, so that where that is refused this is not computed
pub uplift_rows : every row_cases ≡ true
unfolding opened
uplift_rows = let k = small_cases_lem in refl
