-- Document 01, "Quantities" (FD 5 to 7).
use Rattle.std.specs.Prelude.{ℕ, zero, suc, ◌-◌, min, List, [], Bool, cond, get_or, ltb}
use Rattle.rules.specs.Fold.{sum_to, at}
use Rattle.rules.specs.Layout.{pricing_entry, actual_entry, withdrawal}

-- "Pricing total of s: the sum over intervals i of the entry for i in row min(s, i)" (FD 5.1.1)
unfoldable pub pricing_total : List ℕ → ℕ → ℕ
pricing_total w s = sum_to 5 (λ i. pricing_entry w (min s i) i)

-- "Operating total: the sum of the whole operating row s" (FD 5.2.1), of a table of operating quantities
unfoldable pub table_total : List (List ℕ) → ℕ → ℕ
table_total t s = sum_to 5 (at (get_or t s []))

-- "Effective actual: the sum over intervals of the lesser of operating row 5 and the actual" (FD 6.1.1, 6.2.1), with that table
unfoldable pub table_actual : List (List ℕ) → List ℕ → ℕ
table_actual t w = sum_to 5 (λ i. min (at (get_or t 4 []) i) (actual_entry w i))

-- "Allocating Q to a step from l to u gives max(0, min(Q, u) - l), on both sides of the market" (FD 5.1.2, 5.2.2, 6.1.2);
-- a difference of natural numbers is 0 where it would be below 0
unfoldable pub allocated : ℕ → ℕ → ℕ → ℕ
allocated q l u = min q u - l

-- "Allocation now also hands back what no step took" (document 02, F-2): a line's steps end at M, so of Q that is max(0, Q - M)
unfoldable pub untaken : ℕ → ℕ → ℕ
untaken q m = q - m

-- min(O(s)..O(s + m))
unfoldable pub least_from : List ℕ → ℕ → ℕ → ℕ
least_from o s zero = at o s
least_from o s (suc m) = min (at o s) (least_from o (suc s) m)

-- "AGINO(5) = max(0, O(5) - A)" (FD 6.1.3), from O for the five schedules and A
unfoldable pub last_agino : List ℕ → ℕ → ℕ
last_agino o a = at o 4 - a

-- "For s < 5, AGINO(s) = max(0, AGINO(5) - (O(5) - min(O(s)..O(5))))" (FD 6.1.4); at s = 5 this is AGINO(5)
unfoldable pub agino : List ℕ → ℕ → ℕ → ℕ
agino o a s = last_agino o a - (at o 4 - least_from o s (4 - s))

-- "price > market price (withdrawal: price < market price)"
unfoldable pub beyond : ℕ → ℕ → ℕ → Bool
beyond sd p m = cond (withdrawal sd) (ltb p m) (ltb m p)

-- "MSIQ(5) = E(5). For s < 5: E(s) if price > market price .., else min(E(s), MSIQ(s+1))" (FD 7.1, 7.2):
-- from the side, the prices, the market prices and E for the five schedules; m schedules follow s
unfoldable pub msiq_from : ℕ → List ℕ → List ℕ → List ℕ → ℕ → ℕ → ℕ
msiq_from sd p mp e s zero = at e s
msiq_from sd p mp e s (suc m) = cond (beyond sd (at p s) (at mp s)) (at e s) (min (at e s) (msiq_from sd p mp e (suc s) m))

unfoldable pub msiq : ℕ → List ℕ → List ℕ → List ℕ → ℕ → ℕ
msiq sd p mp e s = msiq_from sd p mp e s (4 - s)

-- "Constrained on C(s) = max(0, O(s) - AGINO(s) - MSIQ(s))" (FD 8.1, as document 01 words it)
unfoldable pub constrained : List ℕ → List ℕ → List ℕ → ℕ → ℕ
constrained o g q s = at o s - at g s - at q s
