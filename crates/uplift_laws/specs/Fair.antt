-- Document 02, F-1: the laws of the shares (`Fair`) and of groups (`Group`), of five totals of which the first is not below 0, and of a day.
use Rattle.std.specs.Prelude.{ℕ, zero, suc, ◌+◌, ◌≤◌, ◌<◌, min, max, ◌≡◌, refl, List, Bool, true, false, ◌&&◌, ltb, ℤ, pos, nat_abs, ◌-ℤ◌, ◌*ℤ◌}
use Rattle.std.proofs.Common.{arith, sym, ◌∙◌}
use Rattle.std.proofs.Math.Decide.{dec_lt}
use Rattle.std.proofs.Math.Bool.{cond}
use Rattle.std.proofs.lemmas.Bool.{false≢true}
use borrow.Author.Tests.{ltb-true, lt-ltb}
use Rattle.rules.specs.Fold.{sum_to, sum_z, at_z}
use Rattle.rules.specs.Payments.{bit}
use Rattle.rules.specs.Totals.{adjusted}
use Rattle.rules.specs.Uplift.{above, below, same_group, group_total, group_adjusted, rounded_size, leaves_remainder, units_left, remainders_before, unit_for}
use Rattle.laws.specs.Folds.{sum_suc, sum_same}
use Rattle.laws.specs.Ints.{apart, sub_read}
use Rattle.uplift_laws.specs.Signs.{sign_is, has_sign, size_is, same_sign, same_on, same_group_lem, same_run, run_same, Run, run_part, run_join, run_pair, has_sign_lem, group_sum, own_group, adjusted_same}

-- how far the share x of s times its group's summed totals is from its total times the group's summed adjusted totals
abbrev pub distance : List ℤ → ℕ → ℤ → ℕ
distance t s x = nat_abs (x *ℤ group_total t s -ℤ at_z t s *ℤ group_adjusted t s)

-- the shares x of the five totals t
pub record Fair (t : List ℤ) (x : ℕ → ℤ) : Type 0 where
  -- a share is less than one unit away from the exact fraction
  pub close : (s : ℕ) → s < 5 → (at_z t s ≡ pos 0 → ⊥) → distance t s (x s) < nat_abs (group_total t s)
  -- the shares of a group add up to its adjusted totals, and all five to the five adjusted totals
  pub group : (s : ℕ) → s < 5 → group_sum t s x ≡ group_adjusted t s
  pub all : sum_z 5 x ≡ sum_z 5 (adjusted t)
  -- a total of 0 gets 0
  pub none : (s : ℕ) → s < 5 → at_z t s ≡ pos 0 → x s ≡ pos 0
  -- a share is at most its total in size, and not of the other sign
  pub most : (s : ℕ) → s < 5 → nat_abs (x s) ≤ nat_abs (at_z t s)
  pub sign : (s : ℕ) → s < 5 → (above (at_z t s) ≡ true → below (x s) ≡ false) × (below (at_z t s) ≡ true → above (x s) ≡ false)

-- two numbers less than k apart
pub apart_less : (m n k : ℕ) → m < n + k → n < m + k → nat_abs (pos m -ℤ pos n) < k
apart_less m n k g h =
    let z = pos m -ℤ pos n in
    omega (arith, sub_read (pos m) (pos n), apart z, size_is true z)

-- "A group is a longest run of neighbouring schedules whose totals are all above 0 or all below 0": the group of s, by the signs b
pub record Group (t : List ℤ) (s : ℕ) : Type 0 where
  -- s is a member, unless its total is 0
  pub own : (at_z t s ≡ pos 0 → ⊥) → same_group t s s ≡ true
  -- a schedule between two members is a member
  pub run : (q r p : ℕ) → q ≤ r → r ≤ p → same_group t s q ≡ true → same_group t s p ≡ true → same_group t s r ≡ true
  -- the members' totals have the sign of the total of s
  pub signs : (q : ℕ) (b : Bool) → same_group t s q ≡ true → has_sign b (at_z t s) ≡ true → has_sign b (at_z t q) ≡ true
  -- the total after the last member hasn't that sign, nor has the one before the first
  pub last : (q : ℕ) (b : Bool) → same_group t s q ≡ true → same_group t s (suc q) ≡ false → has_sign b (at_z t s) ≡ true → has_sign b (at_z t (suc q)) ≡ false
  pub first : (q : ℕ) (b : Bool) → same_group t s (suc q) ≡ true → same_group t s q ≡ false → has_sign b (at_z t s) ≡ true → has_sign b (at_z t q) ≡ false
  -- a member's group is this group
  pub members : (q : ℕ) → same_group t s q ≡ true → (r : ℕ) → same_group t q r ≡ same_group t s r

sign_at : (t : List ℤ) (s q : ℕ) (b : Bool) → same_group t s q ≡ true → has_sign b (at_z t s) ≡ true → has_sign b (at_z t q) ≡ true
sign_at t s q b h e = rw (sign_is b (at_z t s) e) at (same_sign t s q h)

-- a neighbour p of the member q that has the sign is a member
joins : (t : List ℤ) (s q p : ℕ) (b : Bool) → max q p ≤ suc (min q p) → same_group t s q ≡ true → has_sign b (at_z t s) ≡ true → has_sign b (at_z t p) ≡ true → same_group t s p ≡ true
joins t s q p b l h e f =
    let u : Run b t s q = rw (sign_is b (at_z t s) e) at (same_run t s q h) in
    run_same b t s p (run_join u (run_pair l (sign_at t s q b h e) f))

not_joined : (t : List ℤ) (s q p : ℕ) (b c : Bool) → max q p ≤ suc (min q p) → same_group t s q ≡ true → same_group t s p ≡ false → has_sign b (at_z t s) ≡ true → has_sign b (at_z t p) ≡ c → c ≡ false
not_joined t s q p b true l h k e f = absurd (false≢true (sym k ∙ joins t s q p b l h e f))
not_joined t s q p b false l h k e f = refl

-- a schedule between two others of the group
between_two : (t : List ℤ) (q r p : ℕ) → q ≤ r → r ≤ p → same_group t q p ≡ true → same_group t q r ≡ true
between_two t q r p l g h = run_same (above (at_z t q)) t q r (run_part (same_run t q p h) r (omega arith) (omega arith))

pub group_of : (t : List ℤ) (s : ℕ) → Group t s
group_of t s =
    record {
      own = λ n. own_group t s (has_sign_lem (at_z t s) n);
      run = λ q r p l g h k. same_on t s q r h (between_two t q r p l g (same_group_lem t s q h p ∙ k));
      signs = sign_at t s;
      last = λ q b h k e. not_joined t s q (suc q) b (has_sign b (at_z t (suc q))) (omega arith) h k e refl;
      first = λ q b h k e. not_joined t s (suc q) q b (has_sign b (at_z t q)) (omega arith) h k e refl;
      members = same_group_lem t s;
    }

-- "The units left over go one each to the group's earliest schedules whose division left a remainder": who gets one left a remainder, and where a
-- schedule gets one, so does each earlier one of its group that left a remainder
sum_longer : (m n : ℕ) (f : ℕ → ℕ) → m ≤ n → sum_to m f ≤ sum_to n f
sum_longer m zero f l =
    let e : m ≡ 0 = omega arith in
    rw e (omega arith)
sum_longer m (suc n) f l =
    elim (dec_lt n m) [
      | yes g ↦
          let e : m ≡ suc n = omega arith in
          rw e (omega arith)
      | no g ↦
          let r = sum_longer m n f (omega arith) in
          rw (sum_suc n f) (omega arith)
    ]

unit_given : (a b : Bool) → bit (a && b) ≡ 1 → (a ≡ true) × (b ≡ true)
unit_given true true e = (refl, refl)
unit_given true false e = absurd (omega arith)
unit_given false b e = absurd (omega arith)

pub unit_remainder : (t : List ℤ) (s : ℕ) → unit_for t s ≡ 1 → leaves_remainder t s ≡ true
unfolding unit_for
unit_remainder t s u = (unit_given (leaves_remainder t s) (ltb (remainders_before t s) (units_left t s)) u).0

module _ (t : List ℤ) (s q : ℕ) (h : same_group t s q ≡ true) where
  left_same : units_left t q ≡ units_left t s
  unfolding units_left
  left_same =
      let e = sum_same 5 (λ r. cond (same_group t q r) (rounded_size t r) 0) (λ r. cond (same_group t s r) (rounded_size t r) 0) (λ r l. rw (same_group_lem t s q h r)) in
      rw (adjusted_same t s q h, e)

  before_grows : s < q → remainders_before t s ≤ remainders_before t q
  unfolding remainders_before
  before_grows l =
      let e = sum_same q (λ r. bit (same_group t q r && leaves_remainder t r)) (λ r. bit (same_group t s r && leaves_remainder t r)) (λ r g. rw (same_group_lem t s q h r)) in
      rw e (sum_longer s q (λ r. bit (same_group t s r && leaves_remainder t r)) (omega arith))

  pub earliest : s < q → leaves_remainder t s ≡ true → unit_for t q ≡ 1 → unit_for t s ≡ 1
  unfolding unit_for
  earliest l r u =
      let b = unit_given (leaves_remainder t q) (ltb (remainders_before t q) (units_left t q)) u in
      let g = ltb-true (remainders_before t q) (units_left t q) b.1 in
      rw (r, lt-ltb (remainders_before t s) (units_left t s) (omega (arith, before_grows l, left_same)))
