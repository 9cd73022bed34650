-- The line of K1 to K5 (document 01, "Figures to check against").
use Rattle.std.specs.Prelude.{ℕ, List, [], ◌∷◌, ◌++◌, replicate}
use Rattle.rules.proofs.Worked.Cases.{bytes_of}

-- "Bids of FD Table 1, its GJ taken as MJ and each dollar as 10,000 price units, schedules 4 and 5 like its 2nd
-- reschedule, hedge 37"; pricing quantities of FD Table 4, operating row 5 and actuals of FD Table 7
abbrev pub table_bid : ℕ → List ℕ
table_bid s = 4 ∷ 17 ∷ 34 ∷ 51 ∷ 68 ∷ 0 ∷ 0 ∷ 0 ∷ 0 ∷ 0 ∷ 0 ∷ 0 ∷ 22000 ∷ 27000 ∷ 32000 ∷ 37000 ∷ 0 ∷ 0 ∷ 0 ∷ 0 ∷ 0 ∷ 0 ∷ 0 ∷ []

abbrev pub table_line : List ℕ
table_line =
    bytes_of
    ((1 ∷ 1 ∷ 0 ∷ 1 ∷ 37 ∷ [])
    ++ (5 ∷ 15 ∷ 30 ∷ 45 ∷ 60 ∷ 75 ∷ 0 ∷ 0 ∷ 0 ∷ 0 ∷ 0 ∷ 0 ∷ 20000 ∷ 25000 ∷ 30000 ∷ 35000 ∷ 40000 ∷ 0 ∷ 0 ∷ 0 ∷ 0 ∷ 0 ∷ 0 ∷ [])
    ++ (4 ∷ 16 ∷ 32 ∷ 48 ∷ 64 ∷ 0 ∷ 0 ∷ 0 ∷ 0 ∷ 0 ∷ 0 ∷ 0 ∷ 21000 ∷ 26000 ∷ 31000 ∷ 36000 ∷ 0 ∷ 0 ∷ 0 ∷ 0 ∷ 0 ∷ 0 ∷ 0 ∷ [])
    ++ table_bid 2 ++ table_bid 3 ++ table_bid 4
    ++ (1 ∷ 2 ∷ 3 ∷ 4 ∷ 5 ∷ 6 ∷ 7 ∷ 8 ∷ 9 ∷ 10 ∷ 11 ∷ 12 ∷ 13 ∷ 14 ∷ 15 ∷ [])
    ++ replicate 20 0
    ++ (10 ∷ 10 ∷ 10 ∷ 10 ∷ 10 ∷ [])
    ++ (8 ∷ 9 ∷ 10 ∷ 11 ∷ 12 ∷ []))
