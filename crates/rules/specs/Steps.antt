-- Document 01, "Steps and prices" (FD 4.2, 4.3); pulled bids by document 02, F-6, whether a step is paid by F-7.
use Rattle.std.specs.Prelude.{ℕ, zero, suc, ◌-◌, ◌/◌, ◌%◌, ◌^◌, min, List, [], ◌∷◌, ◌++◌, Bool, cond, not, ◌&&◌, length, get_or, eqb, ltb, leb}
use Rattle.rules.specs.Fold.{most_to, joined, list_to}
use Rattle.rules.specs.Layout.{hedge, bid_count, bid_break, bid_price, accreditation, cap_mark, price_cap}

-- "M is the greatest break in a line's five bids"
unfoldable pub bid_most : List ℕ → ℕ → ℕ
bid_most w s = most_to (bid_count w s) (bid_break w s)

unfoldable pub greatest_break : List ℕ → ℕ
greatest_break w = most_to 5 (bid_most w)

-- a number put at its place in a rising list, unless it is there
unfoldable pub insert : ℕ → List ℕ → List ℕ
insert x [] = x ∷ []
insert x (y ∷ ys) = cond (ltb x y) (x ∷ y ∷ ys) (cond (eqb x y) (y ∷ ys) (y ∷ insert x ys))

-- the distinct numbers of a list, rising
unfoldable pub rising : List ℕ → List ℕ
rising [] = []
rising (x ∷ xs) = insert x (rising xs)

-- "Its steps end at every distinct break of the five bids and at the hedge if that isn't 0, rising; at most 56"
unfoldable pub bid_breaks : List ℕ → ℕ → List ℕ
bid_breaks w s = list_to (bid_count w s) (bid_break w s)

unfoldable pub hedge_point : List ℕ → List ℕ
hedge_point w = cond (eqb (hedge w) 0) [] (hedge w ∷ [])

unfoldable pub ends : List ℕ → List ℕ
ends w = rising (hedge_point w ++ joined 5 (bid_breaks w))

unfoldable pub step_count : List ℕ → ℕ
step_count w = length (ends w)

unfoldable pub upper_end : List ℕ → ℕ → ℕ
upper_end w j = get_or (ends w) j 0

-- "(0 before the first)"
unfoldable pub lower_end : List ℕ → ℕ → ℕ
lower_end w j = get_or (0 ∷ ends w) j 0

-- "the first bid step whose break is at least its upper end": of the m bid steps from j on, and j + m where there is none
unfoldable pub step_from : (ℕ → ℕ) → ℕ → ℕ → ℕ → ℕ
step_from br u j zero = j
step_from br u j (suc m) = cond (leb u (br j)) j (step_from br u (suc j) m)

unfoldable pub bid_step : List ℕ → ℕ → ℕ → ℕ
bid_step w s u = step_from (bid_break w s) u 0 (bid_count w s)

-- the bid that gives schedule s its last price: its own or, where that was pulled, that of "the nearest earlier schedule with a count
-- above 0" (document 02, F-6); schedules count from 0 here, and the first has a bid (refusal 7)
unfoldable pub source : List ℕ → ℕ → ℕ
source w zero = zero
source w (suc s) = cond (eqb (bid_count w (suc s)) 0) (source w s) (suc s)

-- "the bid's last price"
unfoldable pub last_price : List ℕ → ℕ → ℕ
last_price w s = bid_price w s (bid_count w s - 1)

-- "In schedule s its price is that of the first bid step whose break is at least its upper end.
-- If there is none, the price is the bid's last price and the flag is 1. Otherwise the flag is 0": of the step that ends at u.
-- A bid that was pulled has no steps: "Every step has flag 1 there and takes the last price of the nearest earlier schedule with a count
-- above 0" (document 02, F-6)
unfoldable pub price : List ℕ → ℕ → ℕ → ℕ
price w s u =
    cond (ltb (bid_step w s u) (bid_count w s))
    (bid_price w s (bid_step w s u))
    (last_price w (source w s))

unfoldable pub flag : List ℕ → ℕ → ℕ → ℕ
flag w s u = cond (ltb (bid_step w s u) (bid_count w s)) 0 1

-- "Then, if the cap mark of s is 1, the price is the lesser of it and APC", on the day d
unfoldable pub capped : List ℕ → ℕ → ℕ → ℕ
capped d s p = cond (eqb (cap_mark d s) 1) (min p (price_cap d)) p

-- "A step is hedged if its upper end is at most the hedge"
unfoldable pub hedged : List ℕ → ℕ → Bool
hedged w u = leb u (hedge w)

-- "Accreditation 32 to 63 means 32 plus a set of schedules, bit s-1 for schedule s; 0 and 1 keep their meaning" (document 02, F-7):
-- whether an accreditation holds in schedule s, which counts from 0 here, so that its bit is s
unfoldable pub holds_in : ℕ → ℕ → Bool
holds_in a s = cond (ltb a 32) (eqb a 1) (eqb ((a - 32) / 2 ^ s % 2) 1)

unfoldable pub accredited : List ℕ → ℕ → Bool
accredited w s = holds_in (accreditation w) s

-- "A step is paid, and counts in B, in the schedules where it is accredited and unhedged" (document 02, F-7): the step that ends at u, in s.
-- Document 01, "Payments", asks the same of the whole day: "A step is paid if its line is accredited and it isn't hedged"
unfoldable pub paid : List ℕ → ℕ → ℕ → Bool
paid w u s = accredited w s && not (hedged w u)
