-- What the code works out on the way to the shares, place by place, and that these are document 02's.
use Rattle.std.specs.Prelude.{ℕ, zero, suc, ◌+◌, ◌*◌, ◌-◌, ◌/◌, ◌%◌, ◌≤◌, ◌<◌, ◌^◌, ◌≡◌, refl, List, eqb, ltb, ℤ, pos, negsuc, neg_ℤ, nat_abs}
use Rattle.std.proofs.Common.{zero-mul, arith, sym, ◌∙◌, ap, ne_eqb}
use Rattle.std.proofs.Math.Nat.{zero-div, zero-mod}
use mathlib.Core.Bool.{Bool, true, false, cond, ◌&&◌}
use Rattle.rules.specs.Fold.{sum_to, five, at, at_z, eqb_z}
use Rattle.rules.specs.Payments.{bit}
use Rattle.rules.specs.Totals.{adjusted}
use Rattle.rules.specs.Uplift.{above, below, same_group, group_total, group_adjusted, product, rounded_size, leaves_remainder, units_left, remainders_before, unit_for, share_size, share_of}
use Rattle.laws.specs.Ints.{mi}
use Rattle.laws.specs.Folds.{sum_same, at_five}
use Rattle.numbers_wide.specs.declared.Division.{Division}
use Rattle.numbers.specs.Shares.{share_most}
use Rattle.day_totals.specs.Sizes.{Bounded}
use Rattle.uplift_laws.specs.Signs.{has_sign, Sign, none, some, sign_of, size_is, adjusted_between, own_group, same_group_lem, group_total_lem, group_adjusted_lem, group_most, group_some}
use Rattle.day_shares.specs.Groups.{before, whole, Small, links_of, group_to, before_is, whole_is}

-- of schedule s the size of its total
abbrev pub size_at : List ℤ → ℕ → ℕ
size_at t s = nat_abs (at_z t s)

-- a size with the sign of a total
abbrev pub signed_size : ℤ → ℕ → ℤ
signed_size t n = cond (below t) (neg_ℤ (pos n)) (pos n)

-- w * a / c can be worked out: nothing is divided by 0, and the quotient is at most w
pub record Divisible (w a c : ℕ) : Type 0 where
  pub some : 0 < w → 0 < c
  pub most : 0 < w → a ≤ c

pub record Divisibles (w a c : List ℕ) : Type 0 where
  pub each : (s : ℕ) → s < 5 → Divisible (at w s) (at a s) (at c s)

abbrev pub quotient_at : List ℕ → List ℕ → List ℕ → ℕ → ℕ
quotient_at w a c s = at w s * at a s / at c s

abbrev pub rest_at : List ℕ → List ℕ → List ℕ → ℕ → ℕ
rest_at w a c s = bit (ltb 0 (at w s * at a s % at c s))

-- both of a division
abbrev pub division_at : List ℕ → List ℕ → List ℕ → ℕ → Division
division_at w a c s = record { quotient = quotient_at w a c s; remainder = at w s * at a s % at c s }

abbrev pub unit_at : List ℕ → List ℕ → List ℕ → List ℕ → ℕ → ℕ
unit_at l a q r s = cond (eqb (at r s) 0) 0 (bit (ltb (before l r s) (at a s - whole l q s)))

abbrev pub share_at : List ℤ → List ℕ → List ℕ → ℕ → ℤ
share_at t q u s = signed_size (at_z t s) (at q s + at u s)

-- totals within their bound, of which the first is not below 0, and their adjusted totals
pub record Adjusts (t a : List ℤ) : Type 0 where
  pub bounded : Bounded t
  pub first : mi (at_z t 0) ≡ 0
  pub adjust : a ≡ five (adjusted t)

-- tests
by : (b : Bool) (x y : ℕ) → (b ≡ true → x ≡ y) → cond b x 0 ≡ cond b y 0
by true x y h = h refl
by false x y h = refl

and_bit : (a b : Bool) → cond a (bit b) 0 ≡ bit (a && b)
and_bit true b = refl
and_bit false b = refl

unit_bit : (a b : Bool) → cond (eqb (bit a) 0) 0 (bit b) ≡ bit (a && b)
unit_bit true b = refl
unit_bit false b = refl

not_none : (z : ℤ) → has_sign (above z) z ≡ true → eqb_z z (pos 0) ≡ false
not_none (pos zero) e = absurd (mathlib.Core.Bool.false≢true e)
not_none (pos (suc n)) e = ne_eqb (suc n) 0 (λ f. absurd (omega arith))
not_none (negsuc n) e = refl

-- the rows that the code works out, from the totals
module _ (t : List ℤ) where
  abbrev pub weights : List ℕ
  weights = five (size_at t)

  abbrev pub parts : List ℕ
  parts = five (size_at (five (adjusted t)))

  abbrev pub amounts : List ℕ
  amounts = five (whole (links_of t) parts)

  abbrev pub wholes : List ℕ
  wholes = five (whole (links_of t) weights)

  abbrev pub sizes_of : List ℕ
  sizes_of = five (quotient_at weights amounts wholes)

  abbrev pub rests_of : List ℕ
  rests_of = five (rest_at weights amounts wholes)

  abbrev pub units_of : List ℕ
  units_of = five (unit_at (links_of t) amounts sizes_of rests_of)

  -- a row's sum over the group of s, where that row has f
  group_row : (x : List ℕ) (f : ℕ → ℕ) (s n : ℕ) → n ≤ 5 → ((q : ℕ) → q < 5 → same_group t s q ≡ true → at x q ≡ f q) → group_to t x s n ≡ sum_to n (λ q. cond (same_group t s q) (f q) 0)
  group_row x f s n k h =
      sum_same n (λ q. cond (same_group t s q) (at x q) 0) (λ q. cond (same_group t s q) (f q) 0) (λ q l. by (same_group t s q) (at x q) (f q) (h q (omega arith)))

  whole_row : (x : List ℕ) (f : ℕ → ℕ) → ((q : ℕ) → q < 5 → at x q ≡ f q) → (s : ℕ) → s < 5 → same_group t s s ≡ true → whole (links_of t) x s ≡ sum_to 5 (λ q. cond (same_group t s q) (f q) 0)
  whole_row x f h s l own = whole_is t x s l own ∙ group_row x f s 5 (omega arith) (λ q g k. h q g)

  -- of a schedule whose total isn't 0
  module _ (h : mi (at_z t 0) ≡ 0) where
    whole_total : (s : ℕ) → s < 5 → same_group t s s ≡ true → at wholes s ≡ nat_abs (group_total t s)
    whole_total s l own =
        at_five (whole (links_of t) weights) 0 s l
        ∙ whole_row weights (λ q. nat_abs (at_z t q)) (at_five (size_at t) 0) s l own
        ∙ sym (group_total_lem t s).size

    whole_adjusted : (s : ℕ) → s < 5 → same_group t s s ≡ true → at amounts s ≡ nat_abs (group_adjusted t s)
    whole_adjusted s l own =
        at_five (whole (links_of t) parts) 0 s l
        ∙ whole_row parts (λ q. nat_abs (adjusted t q))
        (λ q g. at_five (size_at (five (adjusted t))) 0 q g ∙ ap nat_abs (at_five (adjusted t) (pos 0) q g)) s l own
        ∙ sym (group_adjusted_lem t h s).size

    size_row : (s : ℕ) → s < 5 → same_group t s s ≡ true → at sizes_of s ≡ rounded_size t s
    unfolding rounded_size product
    size_row s l own =
        let e = at_five (quotient_at weights amounts wholes) 0 s l in
        rw (e, at_five (size_at t) 0 s l, whole_total s l own, whole_adjusted s l own)

    rest_row : (s : ℕ) → s < 5 → same_group t s s ≡ true → at rests_of s ≡ bit (leaves_remainder t s)
    unfolding leaves_remainder product
    rest_row s l own =
        let e = at_five (rest_at weights amounts wholes) 0 s l in
        rw (e, at_five (size_at t) 0 s l, whole_total s l own, whole_adjusted s l own)

    -- what the group's sizes come to, and how many of it before s left a remainder
    given_row : (s : ℕ) → s < 5 → same_group t s s ≡ true → whole (links_of t) sizes_of s ≡ sum_to 5 (λ q. cond (same_group t s q) (rounded_size t q) 0)
    given_row s l own =
        whole_is t sizes_of s l own
        ∙ group_row sizes_of (rounded_size t) s 5 (omega arith) (λ q g k. size_row q g (same_group_lem t s q k q ∙ k))

    earlier_row : (s : ℕ) → s < 5 → before (links_of t) rests_of s ≡ remainders_before t s
    unfolding remainders_before
    earlier_row s l =
        before_is t rests_of s l
        ∙ group_row rests_of (λ q. bit (leaves_remainder t q)) s s (omega arith) (λ q g k. rest_row q g (same_group_lem t s q k q ∙ k))
        ∙ sum_same s (λ q. cond (same_group t s q) (bit (leaves_remainder t q)) 0) (λ q. bit (same_group t s q && leaves_remainder t q)) (λ q g. and_bit (same_group t s q) (leaves_remainder t q))

    unit_row : (s : ℕ) → s < 5 → same_group t s s ≡ true → at units_of s ≡ unit_for t s
    unfolding unit_for units_left
    unit_row s l own =
        let e = at_five (unit_at (links_of t) amounts sizes_of rests_of) 0 s l in
        rw (e, rest_row s l own, whole_adjusted s l own, given_row s l own, earlier_row s l)
        (unit_bit (leaves_remainder t s) (ltb (remainders_before t s) (nat_abs (group_adjusted t s) - sum_to 5 (λ q. cond (same_group t s q) (rounded_size t q) 0))))

    -- of one whose total is 0
    size_none : (s : ℕ) → s < 5 → at_z t s ≡ pos 0 → at sizes_of s ≡ 0
    size_none s l z =
        let e = at_five (quotient_at weights amounts wholes) 0 s l in
        let w : at weights s ≡ 0 = at_five (size_at t) 0 s l ∙ ap nat_abs z in
        rw (e, w, zero-mul (at amounts s), zero-div (at wholes s))

    rest_none : (s : ℕ) → s < 5 → at_z t s ≡ pos 0 → at rests_of s ≡ 0
    rest_none s l z =
        let e = at_five (rest_at weights amounts wholes) 0 s l in
        let w : at weights s ≡ 0 = at_five (size_at t) 0 s l ∙ ap nat_abs z in
        rw (e, w, zero-mul (at amounts s), zero-mod (at wholes s))

    unit_none : (s : ℕ) → s < 5 → at_z t s ≡ pos 0 → at units_of s ≡ 0
    unit_none s l z =
        let e = at_five (unit_at (links_of t) amounts sizes_of rests_of) 0 s l in
        rw (e, rest_none s l z)

    share_by : (s : ℕ) → s < 5 → Sign (at_z t s) → share_at t sizes_of units_of s ≡ share_of t s
    unfolding share_of share_size
    share_by s l (none z) = rw (size_none s l z, unit_none s l z, z)
    share_by s l (some e) =
        let own = own_group t s e in
        rw (size_row s l own, unit_row s l own, not_none (at_z t s) e)

    -- the code's shares are document 02's
    pub share_is : (s : ℕ) → s < 5 → share_at t sizes_of units_of s ≡ share_of t s
    share_is s l = share_by s l (sign_of (at_z t s))

-- what the code asks of these rows: that they are small, and that their quotients are of numbers that fit
bit_most : (b : Bool) → bit b < 2 ^ 61
bit_most true = omega arith
bit_most false = omega arith

unit_most : (b c : Bool) → cond b 0 (bit c) < 2 ^ 61
unit_most true c = omega arith
unit_most false c = bit_most c

pub sizes_small : (t : List ℤ) → Bounded t → Small (five (size_at t))
sizes_small t b =
    record { most = λ s l. let m = b.most s l in rw (at_five (size_at t) 0 s l) (omega (arith, size_is true (at_z t s))) }

pub size_fits : (t : List ℤ) → Bounded t → (s : ℕ) → s < 5 → nat_abs (at_z t s) < 2 ^ 63
size_fits t b s l = let m = b.most s l in omega (arith, size_is true (at_z t s))

pub rests_small : (w a c : List ℕ) → Small (five (rest_at w a c))
rests_small w a c =
    record { most = λ s l. rw (at_five (rest_at w a c) 0 s l) (bit_most (ltb 0 (at w s * at a s % at c s))) }

pub units_small : (l a q r : List ℕ) → Small (five (unit_at l a q r))
units_small l a q r =
    record { most = λ s g. rw (at_five (unit_at l a q r) 0 s g) (unit_most (eqb (at r s) 0) (ltb (before l r s) (at a s - whole l q s))) }

quotient_most : (w a c : ℕ) → Divisible w a c → w * a / c ≤ w
quotient_most zero a c d = rw (zero-mul a, zero-div c) (omega arith)
quotient_most (suc w) a c d = share_most (suc w) a c (d.most (omega arith))

pub quotients_small : (w a c : List ℕ) → Small w → Divisibles w a c → Small (five (quotient_at w a c))
quotients_small w a c h d =
    record {
      most = λ s l. rw (at_five (quotient_at w a c) 0 s l) (omega (arith, quotient_most (at w s) (at a s) (at c s) (d.each s l), h.most s l));
    }

module _ (t : List ℤ) (b : Bounded t) (h : mi (at_z t 0) ≡ 0) where
  pub adjusted_bounded : Bounded (five (adjusted t))
  adjusted_bounded =
      record {
        most =
            λ s l.
            let c = adjusted_between t h s l in
            let m = b.most s l in
            rw (at_five (adjusted t) (pos 0) s l) (omega (arith, c.plus, c.minus));
      }

  divisible_by : (s : ℕ) → s < 5 → Sign (at_z t s) → Divisible (at (weights t) s) (at (amounts t) s) (at (wholes t) s)
  divisible_by s l (none z) =
      let w : at (weights t) s ≡ 0 = at_five (size_at t) 0 s l ∙ ap nat_abs z in
      record { some = λ g. absurd (omega arith); most = λ g. absurd (omega arith) }
  divisible_by s l (some e) =
      let own = own_group t s e in
      record {
        some = λ g. rw (whole_total t h s l own) (group_some t s l e);
        most = λ g. rw (whole_total t h s l own, whole_adjusted t h s l own) (group_most t h s);
      }

  pub divisibles : Divisibles (weights t) (amounts t) (wholes t)
  divisibles = record { each = λ s l. divisible_by s l (sign_of (at_z t s)) }
