-- Document 02, F-1: each schedule's uplift, a share of its group's adjusted totals (FD 9.4), from the five totals t.
use Rattle.std.specs.Prelude.{ℕ, suc, ◌+◌, ◌*◌, ◌-◌, ◌/◌, ◌%◌, min, max, List, Bool, cond, ◌&&◌, ◌||◌, eqb, ltb, ℤ, pos, neg_ℤ, nat_abs}
use Rattle.std.specs.Int.Signed.{lt_z}
use Rattle.rules.specs.Fold.{sum_to, sum_z, all_to, five, at_z, eqb_z}
use Rattle.rules.specs.Refusals.{day_fault}
use Rattle.rules.specs.Payments.{bit, Day}
use Rattle.rules.specs.Totals.{totals, adjusted}
use Rattle.rules.specs.Days.{settled_day}
use Rattle.rules.specs.declared.Uplift.{Uplift}

-- a total above 0, and one below 0
abbrev pub above : ℤ → Bool
above z = lt_z (pos 0) z

abbrev pub below : ℤ → Bool
below z = lt_z z (pos 0)

-- whether p holds of the totals of all schedules from the earlier to the later of s and q
unfoldable pub all_from : (ℤ → Bool) → List ℤ → ℕ → ℕ → Bool
all_from p t s q = all_to (suc (max s q - min s q)) (λ i. p (at_z t (min s q + i)))

-- "A group is a longest run of neighbouring schedules whose totals are all above 0 or all below 0": whether s and q are of one group
unfoldable pub same_group : List ℤ → ℕ → ℕ → Bool
same_group t s q = all_from above t s q || all_from below t s q

-- "its summed totals" and "the group's summed adjusted totals", of the group of s
unfoldable pub group_total : List ℤ → ℕ → ℤ
group_total t s = sum_z 5 (λ q. cond (same_group t s q) (at_z t q) (pos 0))

unfoldable pub group_adjusted : List ℤ → ℕ → ℤ
group_adjusted t s = sum_z 5 (λ q. cond (same_group t s q) (adjusted t q) (pos 0))

-- "Each member of the group gets its total times the group's summed adjusted totals over its summed totals": the size of that product
unfoldable pub product : List ℤ → ℕ → ℕ
product t s = nat_abs (at_z t s) * nat_abs (group_adjusted t s)

-- "The size of each share is rounded down to whole units"
unfoldable pub rounded_size : List ℤ → ℕ → ℕ
rounded_size t s = product t s / nat_abs (group_total t s)

-- "whose division left a remainder"
unfoldable pub leaves_remainder : List ℤ → ℕ → Bool
leaves_remainder t s = ltb 0 (product t s % nat_abs (group_total t s))

-- "The units left over", of the group of s
unfoldable pub units_left : List ℤ → ℕ → ℕ
units_left t s = nat_abs (group_adjusted t s) - sum_to 5 (λ q. cond (same_group t s q) (rounded_size t q) 0)

-- "go one each to the group's earliest schedules whose division left a remainder": how many of these are before s, and what s gets
unfoldable pub remainders_before : List ℤ → ℕ → ℕ
remainders_before t s = sum_to s (λ q. bit (same_group t s q && leaves_remainder t q))

unfoldable pub unit_for : List ℤ → ℕ → ℕ
unit_for t s = bit (leaves_remainder t s && ltb (remainders_before t s) (units_left t s))

-- the size of a share; its sign is the total's, which is that of the exact fraction where this isn't 0 (`group_adjusted_lem`,
-- crates/uplift_laws/specs/Signs.antt)
unfoldable pub share_size : List ℤ → ℕ → ℕ
share_size t s = rounded_size t s + unit_for t s

-- the share of s; "A total of 0 gets 0"
unfoldable pub share_of : List ℤ → ℕ → ℤ
share_of t s =
    cond (eqb_z (at_z t s) (pos 0)) (pos 0)
    (cond (below (at_z t s)) (neg_ℤ (pos (share_size t s))) (pos (share_size t s)))

-- of a day
unfoldable pub uplift : Day → ℕ → ℤ
uplift y s = share_of (totals y) s

-- "five signed shares, answered by a call on a day file with settling's refusals except 15"; "when refused, answers its number and zeros"
unfoldable pub uplift_answer : List ℕ → Uplift
uplift_answer d =
    record {
      shares = five (λ s. cond (eqb (day_fault d) 0) (uplift (settled_day d) s) (pos 0));
      number = day_fault d;
    }
