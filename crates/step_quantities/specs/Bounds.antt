-- AGINO(s) is at most O(s), MSIQ(s) at most E(s), C(s) at most O(s), and each of a step's quantities at most its upper end.
use Rattle.std.specs.Prelude.{ℕ, zero, suc, ◌-◌, ◌≤◌, ◌<◌, min, ◌≡◌, List, Bool, true, false, cond}
use Rattle.std.proofs.Common.{arith}
use Rattle.rules.specs.Fold.{five, at}
use Rattle.rules.specs.Quantities.{allocated, last_agino, agino, beyond, msiq_from, msiq, constrained}
use Rattle.rules.specs.Payments.{operating_on, pricing_on, actual_on, agino_on, msiq_on, constrained_on, on_step}
use Rattle.rules.specs.declared.Step.{Step}
use Rattle.laws.specs.Folds.{at_five}
use Rattle.laws.specs.Chains.{least_most}
use Rattle.numbers.specs.Fives.{five_most}

-- AGINO(s) ≤ O(s)
pub agino_most : (o : List ℕ) (a s : ℕ) → agino o a s ≤ at o s
unfolding agino last_agino
agino_most o a s = omega (arith, least_most o s (4 - s))

pub agino_row : (o g : List ℕ) (a : ℕ) → g ≡ five (agino o a) → (s : ℕ) → s < 5 → at g s ≤ at o s
agino_row o g a e s h = rw (e, at_five (agino o a) 0 s h) (agino_most o a s)

-- MSIQ(s) ≤ E(s)
most_by : (t : Bool) (e n : ℕ) → cond t e (min e n) ≤ e
most_by true e n = omega arith
most_by false e n = omega arith

from_most : (sd : ℕ) (p mp e : List ℕ) (s m : ℕ) → msiq_from sd p mp e s m ≤ at e s
unfolding msiq_from
from_most sd p mp e s zero = omega arith
from_most sd p mp e s (suc m) = most_by (beyond sd (at p s) (at mp s)) (at e s) (msiq_from sd p mp e (suc s) m)

pub msiq_most : (sd : ℕ) (p mp e : List ℕ) (s : ℕ) → msiq sd p mp e s ≤ at e s
unfolding msiq
msiq_most sd p mp e s = from_most sd p mp e s (4 - s)

-- C(s) ≤ O(s)
pub constrained_most : (o g q : List ℕ) (s : ℕ) → constrained o g q s ≤ at o s
unfolding constrained
constrained_most o g q s = omega arith

-- what is allocated to a step
pub allocated_most : (q l u : ℕ) → allocated q l u ≤ u
unfolding allocated
allocated_most q l u = omega arith

-- the same on a step
pub agino_on_most : (x : Step) (s : ℕ) → s < 5 → agino_on x s ≤ operating_on x s
unfolding agino_on
agino_on_most x s h =
    omega (arith, agino_most (five (operating_on x)) (actual_on x) s, at_five (operating_on x) 0 s h)

pub msiq_on_most : (x : Step) (s : ℕ) → s < 5 → msiq_on x s ≤ pricing_on x s
unfolding msiq_on
msiq_on_most x s h =
    omega
    (arith, msiq_most x.side x.price x.market (five (pricing_on x)) s, at_five (pricing_on x) 0 s h)

pub on_step_most : (x : Step) (s : ℕ) → s < 5 → at (on_step x) s ≤ operating_on x s
unfolding on_step constrained_on
on_step_most x s h =
    omega (
      arith,
      at_five (constrained_on x) 0 s h,
      constrained_most (five (operating_on x)) (five (agino_on x)) (five (msiq_on x)) s,
      at_five (operating_on x) 0 s h,
    )

-- C is at most the step's upper end
pub on_step_upper : (x : Step) (s : ℕ) → at (on_step x) s ≤ x.upper
unfolding on_step operating_on
on_step_upper x s =
    five_most (constrained_on x) x.upper
    (λ t h. omega (arith, on_step_most x t h, at_five (constrained_on x) 0 t h, allocated_most (at x.operating t) x.lower x.upper)) s
