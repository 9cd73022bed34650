-- The code's sums over a group, one schedule after another; sizes and signs of totals.
use Prim.Native.Nat.{ℕ, suc, ◌+◌, ◌-◌, ◌<◌, ◌≤◌, ◌^◌}
use native.Mathlib.Omega.{arith}
use mathlib.Core.Path.{◌≡◌}
use mathlib.Core.List.{List}
use lib.IntN.{ℤ}
use borrow.Author.Tests.{eq-eqb, ne_eqb}
use Rattle.rules.specs.Fold.{five, at, at_z}
use Rattle.rules.specs.Totals.{adjusted}
use Rattle.rules.specs.Uplift.{share_of}
use Rattle.laws.specs.Ints.{mi}
use Rattle.day_totals.specs.Rows.{Row}
use Rattle.day_totals.specs.Sizes.{Bounded}
use Rattle.numbers.specs.Fives.{five_same}
use Rattle.day_shares.specs.Groups.{before, whole, Small, link_at, signs_of, links_of, before_most, before_next, whole_next}
use Rattle.day_shares.specs.Parts.{size_at, Divisibles, quotient_at, rest_at, unit_at, share_at, weights, parts, amounts, wholes, sizes_of, rests_of, units_of, sizes_small, rests_small, units_small, quotients_small, divisibles, share_is}

-- the code's sums over a group
pub sum_fits : (l x : List ℕ) (s v : ℕ) → Small x → s < 5 → v ≡ before l x s → v + at x s < 2 ^ 64
sum_fits l x s v h g e =
    let b = before_most l x h s g in
    let o = h.most s g in
    omega arith

module _ (l x : List ℕ) {g : ℕ → ℕ} (y : List ℕ) (s : ℕ) (r : Row 0 (before l x) g y s) (h : 0 < s) (k : s < 5) where
  -- the group of s goes on after the schedule before it, or begins with s
  pub before_goes : (at l s ≡ 0 → ⊥) → at y (s - 1) + at x (s - 1) ≡ before l x s
  before_goes e =
      let p : suc (s - 1) ≡ s = omega arith in
      let q = rw p at (before_next l x (s - 1)) in
      rw (r.below (s - 1) (omega arith), q, ne_eqb (at l s) 0 e)

  pub before_begins : at l s ≡ 0 → 0 ≡ before l x s
  before_begins e =
      let p : suc (s - 1) ≡ s = omega arith in
      let q = rw p at (before_next l x (s - 1)) in
      rw (q, eq-eqb (at l s) 0 e)

module _ (l x y : List ℕ) (s : ℕ) (r : Row 0 (before l x) (whole l x) y s) (h : 0 < s) (k : s ≤ 4) where
  -- the group of s - 1 goes on, or ends with it
  pub whole_goes : (at l (s - 1 + 1) ≡ 0 → ⊥) → at y (s - 1 + 1) ≡ whole l x (s - 1)
  whole_goes e =
      let p : s - 1 + 1 ≡ s = omega arith in
      let n : suc (s - 1) ≡ s = omega arith in
      let q = rw n at (whole_next l x (s - 1) (omega arith)) in
      rw (p, q, ne_eqb (at l s) 0 (rw p at e)) (r.above s (omega arith) (omega arith))

  pub whole_ends : at l (s - 1 + 1) ≡ 0 → at y (s - 1) + at x (s - 1) ≡ whole l x (s - 1)
  whole_ends e =
      let p : s - 1 + 1 ≡ s = omega arith in
      let n : suc (s - 1) ≡ s = omega arith in
      let q = rw n at (whole_next l x (s - 1) (omega arith)) in
      rw (q, eq-eqb (at l s) 0 (rw p at e), r.below (s - 1) (omega arith))

-- the code's rows are those of the totals, each from the ones before it
module _ (t a : List ℤ) (g l w p m c : List ℕ) where
  pub record Sums : Type 0 where
    pub link : l ≡ links_of t
    pub weight : w ≡ weights t
    pub amount : m ≡ amounts t
    pub sum : c ≡ wholes t

  pub sums : a ≡ five (adjusted t) → g ≡ signs_of t → l ≡ five (link_at g) → w ≡ five (size_at t) → p ≡ five (size_at a) → m ≡ five (whole l p) → c ≡ five (whole l w) → Sums
  sums ae ge le we pe me ce =
      let l' : l ≡ links_of t = rw (le, ge) in
      let p' : p ≡ parts t = rw (pe, ae) in
      record { link = l'; weight = we; amount = rw (me, l', p'); sum = rw (ce, l', we) }

module _ {t a : List ℤ} {g l w p m c : List ℕ} (k : Sums t a g l w p m c) where
  -- what the code asks of them
  pub divisible : Bounded t → mi (at_z t 0) ≡ 0 → Divisibles w m c
  divisible b h = rw (k.weight, k.amount, k.sum) (divisibles t b h)

  pub sizes_fit : Bounded t → mi (at_z t 0) ≡ 0 → (q : List ℕ) → q ≡ five (quotient_at w m c) → Small q
  sizes_fit b h q e = rw e (quotients_small w m c (rw k.weight (sizes_small t b)) (divisible b h))

  pub rests_fit : (r : List ℕ) → r ≡ five (rest_at w m c) → Small r
  rests_fit r e = rw e (rests_small w m c)

  pub units_fit : (q r u : List ℕ) → q ≡ five (quotient_at w m c) → r ≡ five (rest_at w m c) → u ≡ five (unit_at l m q r) → Small u
  units_fit q r u qe re e = rw e (units_small l m q r)

  -- and the last row's places are the shares
  pub shares_are : mi (at_z t 0) ≡ 0 → (q r u : List ℕ) (x : List ℤ) → q ≡ five (quotient_at w m c) → r ≡ five (rest_at w m c) → u ≡ five (unit_at l m q r)
      → x ≡ five (share_at t q u) → x ≡ five (share_of t)
  shares_are h q r u x qe re ue e =
      let q' : q ≡ sizes_of t = rw (qe, k.weight, k.amount, k.sum) in
      let r' : r ≡ rests_of t = rw (re, k.weight, k.amount, k.sum) in
      let u' : u ≡ units_of t = rw (ue, k.link, k.amount, q', r') in
      rw (e, q', u') (five_same (share_at t (sizes_of t) (units_of t)) (share_of t) (share_is t h))
