-- The library's lesser and greater of signed numbers are the definitions', and what the code works out, read back from the bits of signed locals.
use Prim.Native.Nat.{ℕ, zero, suc, ◌+◌, ◌-◌, ◌<◌, ◌≤◌}
use native.Mathlib.Omega.{arith}
use native.Mathlib.Numerals.{add-one}
use mathlib.Core.Path.{◌≡◌, refl, sym, ◌∙◌, ap}
use mathlib.Core.List.{List}
use mathlib.Core.Bool.{Bool, true, false, cond, not}
use lib.IntN.{ℤ, pos, negsuc, ◌+ℤ◌, ◌-ℤ◌}
use lib.Signed.{lt_z, le_z}
use lib.Dec.{ltb, leb, eqb}
use native.Mathlib.Decide.{dec_lt}
use mir.Syntax.{w64}
use mir.Val.{to_z, of_z, SFits}
use borrow.Author.Tests.{eq-eqb, ne_eqb, lt-ltb, le-ltb, le-leb, lt-leb}
use Rattle.std.specs.Int.{int_min, int_max}
use Rattle.rules.specs.Fold.{five, at_z}
use Rattle.rules.specs.Payments.{max_z}
use Rattle.rules.specs.Totals.{min_z, carried, adjusted}
use Rattle.laws.specs.Folds.{at_five}
use Rattle.day_totals.specs.Parts.{least_of, least_step, zero_le_z, is_kept, adjusted_kept, adjusted_owed, carried_step}
use Rattle.day_totals.specs.Rows.{Row}
use Rattle.day_totals.specs.Sizes.{Bounded, read_back, total_fits, least_fits, least_sum_fits, carried_fits, owed_sum_fits, adjusted_fits, rest_fits}

pub max_none : (z : ℤ) → int_max z (pos 0) ≡ max_z (pos 0) z
max_none (pos zero) = refl
max_none (pos (suc n)) =
    ap (λ b. cond b (pos (suc n)) (pos 0)) (lt-ltb 0 (suc n) (omega arith) ∙ sym (le-leb 0 (suc n) (omega arith)))
max_none (negsuc n) = refl

pub min_none : (z : ℤ) → int_min z (pos 0) ≡ min_z (pos 0) z
min_none (pos zero) = refl
min_none (pos (suc n)) =
    ap (λ b. cond b (pos 0) (pos (suc n))) (lt-ltb 0 (suc n) (omega arith) ∙ sym (le-leb 0 (suc n) (omega arith)))
min_none (negsuc n) = refl

less : (a b : ℕ) → ltb b a ≡ not (leb a b)
less a b =
    elim (dec_lt b a) [
      | yes h ↦ rw (lt-ltb b a h, lt-leb a b h)
      | no h ↦ rw (le-ltb b a (omega arith), le-leb a b (omega arith))
    ]

less_z : (x y : ℤ) → lt_z y x ≡ not (le_z x y)
less_z (pos a) (pos b) = less a b
less_z (pos a) (negsuc b) = refl
less_z (negsuc a) (pos b) = refl
less_z (negsuc a) (negsuc b) = less b a

either : (b : Bool) (x y : ℤ) → cond (not b) y x ≡ cond b x y
either true x y = refl
either false x y = refl

pub min_is : (x y : ℤ) → int_min x y ≡ min_z x y
min_is x y = ap (λ b. cond b y x) (less_z x y) ∙ either (le_z x y) x y

-- a total, and the same from the bits of a local
own : (t : List ℤ) → Bounded t → (s : ℕ) → s < 5 → to_z w64 (of_z w64 (at_z t s)) ≡ at_z t s
own t b s l = read_back refl (total_fits t b s l)

module _ (t : List ℤ) (b : Bounded t) (s : ℕ) (l : s < 5) where
  -- whether s is kept
  pub kept_first : s ≡ 0 → eqb s 0 ≡ is_kept t s
  kept_first e = rw (eq-eqb s 0 e)

  pub kept_later : (s ≡ 0 → ⊥) → le_z (pos 0) (to_z w64 (of_z w64 (at_z t s))) ≡ is_kept t s
  kept_later e = rw (ne_eqb s 0 e, own t b s l) (zero_le_z (at_z t s))

  -- the adjusted total of s
  pub kept_is : (least r : ℤ) → least ≡ least_of t s → is_kept t s ≡ true → r ≡ int_max (to_z w64 (of_z w64 least)) (pos 0) → to_z w64 (of_z w64 r) ≡ adjusted t s
  kept_is least r e k re =
      read_back (re ∙ ap (λ z. int_max z (pos 0)) (read_back e (least_fits t b s l)) ∙ max_none (least_of t s) ∙ sym (adjusted_kept t s k)) (adjusted_fits t b s l)

  pub owed_fits : (left : ℤ) → left ≡ carried t s → SFits w64 (to_z w64 (of_z w64 (at_z t s)) +ℤ to_z w64 (of_z w64 left))
  owed_fits left e = rw (own t b s l, read_back e (carried_fits t b s (omega arith))) (owed_sum_fits t b s l)

  pub owed_is : (left r : ℤ) → left ≡ carried t s → is_kept t s ≡ false
      → r ≡ int_min (to_z w64 (of_z w64 (to_z w64 (of_z w64 (at_z t s)) +ℤ to_z w64 (of_z w64 left)))) (pos 0) → to_z w64 (of_z w64 r) ≡ adjusted t s
  owed_is left r e k re =
      let a = own t b s l in
      let c = read_back e (carried_fits t b s (omega arith)) in
      let d = read_back {x = at_z t s +ℤ carried t s} refl (owed_sum_fits t b s l) in
      let f = rw (a, c, d, min_none) at re in
      read_back (f ∙ sym (adjusted_owed t s k)) (adjusted_fits t b s l)

  -- what it leaves
  pub rest_fits_bits : (share : ℤ) → share ≡ adjusted t s → SFits w64 (to_z w64 (of_z w64 (at_z t s)) -ℤ to_z w64 (of_z w64 share))
  rest_fits_bits share e = rw (own t b s l, read_back e (adjusted_fits t b s l)) (rest_fits t b s l)

  pub left_fits : (left share : ℤ) → left ≡ carried t s → share ≡ adjusted t s
      → SFits w64 (left +ℤ to_z w64 (of_z w64 (to_z w64 (of_z w64 (at_z t s)) -ℤ to_z w64 (of_z w64 share))))
  left_fits left share e f =
      rw (own t b s l, read_back f (adjusted_fits t b s l), e)
      (rw (read_back {x = at_z t s -ℤ adjusted t s} refl (rest_fits t b s l)) (rw carried_step at (carried_fits t b (suc s) l)))

  pub left_is : (left share : ℤ) → left ≡ carried t s → share ≡ adjusted t s
      → to_z w64 (of_z w64 (left +ℤ to_z w64 (of_z w64 (to_z w64 (of_z w64 (at_z t s)) -ℤ to_z w64 (of_z w64 share))))) ≡ carried t (s + 1)
  left_is left share e f =
      rw (own t b s l, read_back f (adjusted_fits t b s l), e)
      (rw (read_back {x = at_z t s -ℤ adjusted t s} refl (rest_fits t b s l), add-one s)
      (read_back (sym (carried_step t s)) (carried_fits t b (suc s) l)))

  -- the least of s, from the row of them
  pub least_back : (y : List ℤ) → y ≡ five (least_of t) → to_z w64 (of_z w64 (at_z y s)) ≡ least_of t s
  least_back y e = read_back (ap (λ (x : List ℤ). at_z x s) e ∙ at_five (least_of t) (pos 0) s l) (least_fits t b s l)

-- the leasts, one schedule further back
module _ (t : List ℤ) (b : Bounded t) (y : List ℤ) (s : ℕ) (r : Row (pos 0) (at_z t) (least_of t) y s) (h : 0 < s) (k : s ≤ 4) where
  next : to_z w64 (of_z w64 (at_z y (s - 1 + 1))) ≡ least_of t (s - 1 + 1)
  next =
      let p : s - 1 + 1 ≡ s = omega arith in
      read_back {x = at_z y (s - 1 + 1)} {y = least_of t (s - 1 + 1)} (rw p (r.above s (omega arith) (omega arith))) (least_fits t b (s - 1 + 1) (omega arith))

  pub sum_fits : SFits w64 (to_z w64 (of_z w64 (at_z t (s - 1))) +ℤ to_z w64 (of_z w64 (at_z y (s - 1 + 1))))
  sum_fits = rw (own t b (s - 1) (omega arith), next) (least_sum_fits t b (s - 1) (omega arith))

  pub least_is : (x : ℤ) → x ≡ int_min (to_z w64 (of_z w64 (at_z t (s - 1)))) (to_z w64 (of_z w64 (to_z w64 (of_z w64 (at_z t (s - 1))) +ℤ to_z w64 (of_z w64 (at_z y (s - 1 + 1))))))
      → to_z w64 (of_z w64 x) ≡ least_of t (s - 1)
  least_is x e =
      let a = own t b (s - 1) (omega arith) in
      let d = read_back {x = at_z t (s - 1) +ℤ least_of t (s - 1 + 1)} refl (least_sum_fits t b (s - 1) (omega arith)) in
      let f = rw (a, next, d, min_is) at e in
      read_back (f ∙ sym (least_step t (s - 1) (omega arith))) (least_fits t b (s - 1) (omega arith))
