-- An amount apportioned to members by their weights: each part is rounded down, and the units left over go one each to the earliest
-- members whose division left a remainder. For any number of places, of which some are members.
use Rattle.std.specs.Prelude.{ℕ, zero, suc, ◌+◌, ◌*◌, ◌-◌, ◌/◌, ◌%◌, ◌≤◌, ◌<◌, min, ◌≡◌, refl, Bool, true, false, cond, ◌&&◌, ltb}
use Rattle.std.proofs.Common.{zero-mul, mul_comm, add-mul, mod-lt, div-add-mod', le_of_mul-le-mul_right, mul-le-mul_left, lt_of_mul-lt-mul_right, arith, sym, ◌∙◌, ltb-true, ltb-false}
use Rattle.rules.specs.Fold.{sum_to}
use Rattle.rules.specs.Payments.{bit}
use Rattle.laws.specs.Folds.{sum_none, sum_suc, sum_le, sum_same, sum_add}

-- f at a member, 0 elsewhere
abbrev pub among : (ℕ → Bool) → (ℕ → ℕ) → ℕ → ℕ
among m f q = cond (m q) (f q) 0

-- a part rounded down, and whether its division leaves a remainder: of the amount a by the weights w, which add up to s
abbrev pub rounded : (ℕ → ℕ) → ℕ → ℕ → ℕ → ℕ
rounded w a s q = w q * a / s

abbrev pub remains : (ℕ → ℕ) → ℕ → ℕ → ℕ → Bool
remains w a s q = ltb 0 (w q * a % s)

-- the units left over among n places, and whether one goes to place q
abbrev pub left_over : ℕ → (ℕ → Bool) → (ℕ → ℕ) → ℕ → ℕ → ℕ
left_over n m w a s = a - sum_to n (among m (rounded w a s))

abbrev pub unit : ℕ → (ℕ → Bool) → (ℕ → ℕ) → ℕ → ℕ → ℕ → ℕ
unit n m w a s q = bit (remains w a s q && ltb (sum_to q (λ r. bit (m r && remains w a s r))) (left_over n m w a s))

-- the sum of multiples
sum_scale : (n : ℕ) (f : ℕ → ℕ) (a : ℕ) → sum_to n (λ q. f q * a) ≡ sum_to n f * a
sum_scale zero f a = rw (sum_none (λ q. f q * a), sum_none f) (sym (zero-mul a))
sum_scale (suc n) f a =
    let r = sum_scale n f a in
    rw (sum_suc n (λ q. f q * a), sum_suc n f, add-mul (sum_to n f) (f n) a, r)

-- how many of the places below n p holds of
abbrev count : ℕ → (ℕ → Bool) → ℕ
count n p = sum_to n (λ r. bit (p r))

-- one each to the first k places where p holds: as many units as there are such places, at most k
units_at : (c k x : ℕ) (t : Bool) → ltb c k ≡ t → x ≡ min c k → x + bit t ≡ min (c + 1) k
units_at c k x true h e = omega (arith, ltb-true c k h)
units_at c k x false h e = omega (arith, ltb-false c k h)

units_by : (b : Bool) (c k x : ℕ) → x ≡ min c k → x + bit (b && ltb c k) ≡ min (c + bit b) k
units_by false c k x e = omega arith
units_by true c k x e = units_at c k x (ltb c k) refl e

units_sum : (n : ℕ) (p : ℕ → Bool) (k : ℕ) → count n (λ q. p q && ltb (count q p) k) ≡ min (count n p) k
units_sum zero p k = rw (sum_none (λ q. bit (p q && ltb (count q p) k)), sum_none (λ r. bit (p r))) (omega arith)
units_sum (suc n) p k =
    rw (sum_suc n (λ q. bit (p q && ltb (count q p) k)), sum_suc n (λ r. bit (p r)))
    (units_by (p n) (count n p) k (count n (λ q. p q && ltb (count q p) k)) (units_sum n p k))

-- one place, a member or not
scaled_by : (b : Bool) (x a : ℕ) → cond b (x * a) 0 ≡ cond b x 0 * a
scaled_by true x a = refl
scaled_by false x a = sym (zero-mul a)

added_by : (b : Bool) (x c d : ℕ) → c + d ≡ x → cond b x 0 ≡ cond b c 0 + cond b d 0
added_by true x c d e = sym e
added_by false x c d e = omega arith

unit_by : (b r l : Bool) → cond b (bit (r && l)) 0 ≡ bit ((b && r) && l)
unit_by true r l = refl
unit_by false r l = refl

-- a remainder below s is at most s, and 0 where none is left
remainder_at : (t : Bool) (d s : ℕ) → ltb 0 d ≡ t → d < s → d ≤ bit t * s
remainder_at true d s e h = omega arith
remainder_at false d s e h = omega (arith, ltb-false 0 d e)

remainder_by : (b : Bool) (d s : ℕ) → d < s → cond b d 0 ≤ bit (b && ltb 0 d) * s
remainder_by true d s h = remainder_at (ltb 0 d) d s refl h
remainder_by false d s h = omega arith

-- sums over the members
module _ (n : ℕ) (m : ℕ → Bool) where
  among_scale : (w : ℕ → ℕ) (a : ℕ) → sum_to n (among m (λ q. w q * a)) ≡ sum_to n (among m w) * a
  among_scale w a =
      sum_same n (among m (λ q. w q * a)) (λ q. among m w q * a) (λ q l. scaled_by (m q) (w q) a)
      ∙ sum_scale n (among m w) a

  among_add : (f g h : ℕ → ℕ) → ((q : ℕ) → g q + h q ≡ f q) → sum_to n (among m f) ≡ sum_to n (among m g) + sum_to n (among m h)
  among_add f g h e =
      sum_same n (among m f) (λ q. among m g q + among m h q) (λ q l. added_by (m q) (f q) (g q) (h q) (e q))
      ∙ sum_add n (among m g) (among m h)

-- the sums of an amount a apportioned to members with the weights w, which add up to s
module _ (n : ℕ) (m : ℕ → Bool) (w : ℕ → ℕ) (a s : ℕ) (whole : sum_to n (among m w) ≡ s) (some : 0 < s) where
  abbrev rounded_sum : ℕ
  rounded_sum = sum_to n (among m (rounded w a s))

  abbrev remainder_sum : ℕ
  remainder_sum = sum_to n (among m (λ q. w q * a % s))

  abbrev remainder_count : ℕ
  remainder_count = count n (λ r. m r && remains w a s r)

  -- s times the parts rounded down, and the remainders, are s times the amount
  sums : rounded_sum * s + remainder_sum ≡ s * a
  sums =
      let e = among_add n m (λ q. w q * a) (λ q. rounded w a s q * s) (λ q. w q * a % s) (λ q. div-add-mod' (w q * a) s) in
      let f = among_scale n m (rounded w a s) s in
      let g = among_scale n m w a in
      let h : sum_to n (among m w) * a ≡ s * a = rw whole in
      omega arith

  remainders_most : remainder_sum ≤ remainder_count * s
  remainders_most =
      let e = sum_scale n (λ r. bit (m r && remains w a s r)) s in
      let r = sum_le n (among m (λ q. w q * a % s)) (λ r. bit (m r && remains w a s r) * s) (λ q l. remainder_by (m q) (w q * a % s) s (mod-lt (w q * a) some)) in
      omega arith

  -- the parts rounded down are at most the amount, and there are remainders for all units left over
  rounded_most : rounded_sum ≤ a
  rounded_most =
      let c = mul_comm s a in
      let e = sums in
      let h : rounded_sum * s ≤ a * s = omega arith in
      le_of_mul-le-mul_right h some

  left_most : a ≤ rounded_sum + remainder_count
  left_most =
      let c = mul_comm s a in
      let e = sums in
      let r = remainders_most in
      let d = add-mul rounded_sum remainder_count s in
      let h : a * s ≤ (rounded_sum + remainder_count) * s = omega arith in
      le_of_mul-le-mul_right h some

  units_given : sum_to n (among m (unit n m w a s)) ≡ left_over n m w a s
  units_given =
      let k = left_over n m w a s in
      let p : ℕ → Bool = λ r. m r && remains w a s r in
      let e = sum_same n (among m (unit n m w a s)) (λ q. bit (p q && ltb (count q p) k)) (λ q l. unit_by (m q) (remains w a s q) (ltb (count q p) k)) in
      let f = units_sum n p k in
      let g = left_most in
      omega arith

  -- what the members get adds up to the amount
  pub apportioned : sum_to n (among m (λ q. rounded w a s q + unit n m w a s q)) ≡ a
  apportioned =
      let e = among_add n m (λ q. rounded w a s q + unit n m w a s q) (rounded w a s) (unit n m w a s) (λ q. refl) in
      let u = units_given in
      let r = rounded_most in
      omega arith

-- what a place gets, times s, is less than s away from its weight times the amount
pub record Near (g x s : ℕ) : Type 0 where
  pub most : g * s < x + s
  pub least : x < g * s + s

near_at : (t l : Bool) (c d s x : ℕ) → ltb 0 d ≡ t → c * s + d ≡ x → d < s → Near (c + bit (t && l)) x s
near_at true true c d s x e f h =
    let g = add-mul c 1 s in
    let k = ltb-true 0 d e in
    record { most = omega arith; least = omega arith }
near_at true false c d s x e f h = record { most = omega arith; least = omega arith }
near_at false l c d s x e f h = record { most = omega arith; least = omega arith }

module _ (n : ℕ) (m : ℕ → Bool) (w : ℕ → ℕ) (a s : ℕ) (some : 0 < s) (q : ℕ) where
  pub near : Near (rounded w a s q + unit n m w a s q) (w q * a) s
  near =
      let l = ltb (sum_to q (λ r. bit (m r && remains w a s r))) (left_over n m w a s) in
      near_at (remains w a s q) l (rounded w a s q) (w q * a % s) s (w q * a) refl (div-add-mod' (w q * a) s) (mod-lt (w q * a) some)

  -- of an amount of at most the sum of the weights a place gets at most its weight
  pub at_most : a ≤ s → rounded w a s q + unit n m w a s q ≤ w q
  at_most h =
      let g = rounded w a s q + unit n m w a s q in
      let b = near.most in
      let l = mul-le-mul_left (w q) h in
      let d = add-mul (w q) 1 s in
      let u : g * s < (w q + 1) * s = omega arith in
      let v = lt_of_mul-lt-mul_right s u in
      omega arith
