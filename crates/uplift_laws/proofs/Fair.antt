-- The laws of the shares (`Fair`), of five totals of which the first is not below 0.
use Rattle.std.specs.Prelude.{ℕ, zero, suc, ◌+◌, ◌*◌, ◌≤◌, ◌<◌, ◌≡◌, refl, List, Bool, true, false, ◌&&◌, ℤ, pos, negsuc, neg_ℤ, nat_abs, ◌+ℤ◌, ◌*ℤ◌}
use Rattle.std.proofs.Common.{zero-mul, mul-zero, arith, sym, ◌∙◌}
use Rattle.std.proofs.Math.Decide.{dec_lt}
use Rattle.std.proofs.Math.Bool.{cond}
use Rattle.std.proofs.lemmas.Bool.{false≢true}
use Rattle.std.proofs.Math.Dec.{eqb-suc-zero}
use borrow.Author.Tests.{lt-ltb, le-ltb}
use Rattle.rules.specs.Fold.{sum_to, sum_z, at_z, eqb_z}
use Rattle.rules.specs.Payments.{bit}
use Rattle.rules.specs.Totals.{adjusted}
use Rattle.rules.specs.Uplift.{above, below, same_group, group_total, group_adjusted, product, rounded_size, leaves_remainder, units_left, remainders_before, unit_for, share_size, share_of}
use Rattle.laws.specs.Folds.{sum_same, sum_z_none, sum_z_suc}
use Rattle.laws.specs.Ints.{pl, mi, eq_z, add_read, pl_neg, mi_neg, le_lt_z}
use Rattle.day_totals.specs.Sums.{sum_z_same, sum_z_zeros, sum_z_add}
use Rattle.uplift_laws.specs.Apportion.{among, rounded, remains, left_over, unit, Near, apportioned, near, at_most}
use Rattle.uplift_laws.specs.Signs.{Between, adjusted_between, sign_is, has_sign, other, size_is, same_size, one_sign, SignSize, sum_among, same_turn, same_sign, same_above, same_group_lem, same_run, run_same, run_part, Sign, none, some, sign_of, has_sign_lem, group_sum, own_group, no_group, total_same, adjusted_same, group_total_lem, group_adjusted_lem, group_most, group_some}
use Rattle.uplift_laws.specs.Fair.{distance, Fair, apart_less}

-- the sign of a share is its total's
signed_share : (z : ℤ) (n : ℕ) → has_sign (above z) z ≡ true → SignSize (above z) (cond (eqb_z z (pos 0)) (pos 0) (cond (below z) (neg_ℤ (pos n)) (pos n))) n
signed_share (pos zero) n e = absurd (false≢true e)
signed_share (pos (suc k)) n e =
    rw (lt-ltb 0 (suc k) (omega arith), eqb-suc-zero k, le-ltb (suc k) 0 (omega arith)) (record { size = refl; only = refl })
signed_share (negsuc k) n e =
    let p = pl_neg (pos n) in
    let m = mi_neg (pos n) in
    record { size = omega (arith, size_is true (neg_ℤ (pos n))); only = omega arith }

pub share_sign : (t : List ℤ) (s : ℕ) → has_sign (above (at_z t s)) (at_z t s) ≡ true → SignSize (above (at_z t s)) (share_of t s) (share_size t s)
unfolding share_of
share_sign t s e = signed_share (at_z t s) (share_size t s) e

share_none : (t : List ℤ) (s : ℕ) → at_z t s ≡ pos 0 → share_of t s ≡ pos 0
unfolding share_of
share_none t s e = rw e

-- a member of the group of s
member_sign : (t : List ℤ) (s q : ℕ) → same_group t s q ≡ true → has_sign (above (at_z t q)) (at_z t q) ≡ true
member_sign t s q h = rw (same_above t s q h) (same_sign t s q h)

member_share : (t : List ℤ) (s q : ℕ) → same_group t s q ≡ true → SignSize (above (at_z t s)) (share_of t q) (share_size t q)
member_share t s q h = rw (same_above t s q h) at (share_sign t q (member_sign t s q h))

-- a term and a test at members only
member_eq : (b : Bool) (x y : ℕ) → (b ≡ true → x ≡ y) → cond b x 0 ≡ cond b y 0
member_eq true x y h = h refl
member_eq false x y h = refl

member_and : (b x y : Bool) → (b ≡ true → x ≡ y) → (b && x) ≡ (b && y)
member_and true x y h = h refl
member_and false x y h = refl

-- the shares of a group are its adjusted totals apportioned by its totals
module _ (t : List ℤ) (s : ℕ) where
  abbrev member : ℕ → Bool
  member = same_group t s

  abbrev weight : ℕ → ℕ
  weight q = nat_abs (at_z t q)

  abbrev amount : ℕ
  amount = nat_abs (group_adjusted t s)

  abbrev whole : ℕ
  whole = nat_abs (group_total t s)

  product_is : (q : ℕ) → member q ≡ true → product t q ≡ weight q * amount
  unfolding product
  product_is q h = rw (adjusted_same t s q h)

  rounded_is : (q : ℕ) → member q ≡ true → rounded_size t q ≡ rounded weight amount whole q
  unfolding rounded_size
  rounded_is q h = rw (product_is q h, total_same t s q h)

  remains_is : (q : ℕ) → member q ≡ true → leaves_remainder t q ≡ remains weight amount whole q
  unfolding leaves_remainder
  remains_is q h = rw (product_is q h, total_same t s q h)

  left_is : (q : ℕ) → member q ≡ true → units_left t q ≡ left_over 5 member weight amount whole
  unfolding units_left
  left_is q h =
      let e = sum_same 5 (λ r. cond (same_group t q r) (rounded_size t r) 0) (among member (rounded weight amount whole)) (λ r l. rw (same_group_lem t s q h r) (member_eq (member r) (rounded_size t r) (rounded weight amount whole r) (rounded_is r))) in
      rw (adjusted_same t s q h, e)

  before_is : (q : ℕ) → member q ≡ true → remainders_before t q ≡ sum_to q (λ r. bit (member r && remains weight amount whole r))
  unfolding remainders_before
  before_is q h =
      sum_same q (λ r. bit (same_group t q r && leaves_remainder t r)) (λ r. bit (member r && remains weight amount whole r))
      (λ r l. rw (same_group_lem t s q h r, member_and (member r) (leaves_remainder t r) (remains weight amount whole r) (remains_is r)))

  share_is : (q : ℕ) → member q ≡ true → share_size t q ≡ rounded weight amount whole q + unit 5 member weight amount whole q
  unfolding share_size unit_for
  share_is q h = rw (rounded_is q h, remains_is q h, before_is q h, left_is q h)

-- a group with members: the sum, the distance and the size of its shares
module _ (t : List ℤ) (h : mi (at_z t 0) ≡ 0) (s : ℕ) (l : s < 5) (e : has_sign (above (at_z t s)) (at_z t s) ≡ true) where
  shares_size : sum_to 5 (among (member t s) (λ q. nat_abs (share_of t q))) ≡ nat_abs (group_adjusted t s)
  shares_size =
      let m = member t s in
      let w = weight t s in
      let a = amount t s in
      let n = whole t s in
      sum_same 5 (among m (λ q. nat_abs (share_of t q))) (among m (λ q. rounded w a n q + unit 5 m w a n q))
      (λ q g. member_eq (m q) (nat_abs (share_of t q)) (rounded w a n q + unit 5 m w a n q) (λ k. (member_share t s q k).size ∙ share_is t s q k))
      ∙ apportioned 5 m w a n (sym (group_total_lem t s).size) (group_some t s l e)

  group_shares : group_sum t s (share_of t) ≡ group_adjusted t s
  group_shares =
      let b = above (at_z t s) in
      let z = group_sum t s (share_of t) in
      let c = sum_among b 5 (same_group t s) (share_of t) (λ q g k. (member_share t s q k).only) in
      same_size b z (group_adjusted t s) c.only (group_adjusted_lem t h s).only (c.size ∙ shares_size)

  share_near : Near (nat_abs (share_of t s)) (nat_abs (at_z t s) * nat_abs (group_adjusted t s)) (nat_abs (group_total t s))
  share_near =
      let k = own_group t s e in
      rw ((share_sign t s e).size, share_is t s s k)
      (near 5 (member t s) (weight t s) (amount t s) (whole t s) (group_some t s l e) s)

  share_most : nat_abs (share_of t s) ≤ nat_abs (at_z t s)
  share_most =
      let k = own_group t s e in
      rw ((share_sign t s e).size, share_is t s s k)
      (at_most 5 (member t s) (weight t s) (amount t s) (whole t s) (group_some t s l e) s (group_most t h s))

-- products of two numbers of one sign, or 0, and how far they are from one another
times : (b : Bool) (x y : ℤ) → other b x ≡ 0 → other b y ≡ 0 → x *ℤ y ≡ pos (nat_abs x * nat_abs y)
times true (pos m) (pos n) g h = refl
times true (pos m) (negsuc n) g h = absurd (omega arith)
times true (negsuc m) y g h = absurd (omega arith)
times false (pos m) (pos n) g h = refl
times false (pos m) (negsuc n) g h = let e : m ≡ 0 = g in rw (e, zero-mul (suc n))
times false (negsuc m) (pos n) g h = let e : n ≡ 0 = h in rw (e, mul-zero (suc m))
times false (negsuc m) (negsuc n) g h = refl

share_close : (t : List ℤ) → mi (at_z t 0) ≡ 0 → (s : ℕ) → s < 5 → has_sign (above (at_z t s)) (at_z t s) ≡ true → distance t s (share_of t s) < nat_abs (group_total t s)
share_close t h s l e =
    let b = above (at_z t s) in
    let o = one_sign b (at_z t s) e in
    let n = share_near t h s l e in
    rw (
      times b (share_of t s) (group_total t s) (share_sign t s e).only (group_total_lem t s).only,
      times b (at_z t s) (group_adjusted t s) o.only (group_adjusted_lem t h s).only,
    )
    (apart_less (nat_abs (share_of t s) * nat_abs (group_total t s)) (nat_abs (at_z t s) * nat_abs (group_adjusted t s)) (nat_abs (group_total t s)) n.most n.least)

-- the sum over the group of a total of 0
no_sum : (t : List ℤ) (s : ℕ) (f : ℕ → ℤ) → at_z t s ≡ pos 0 → group_sum t s f ≡ pos 0
no_sum t s f e =
    sum_z_same 5 (λ q. cond (same_group t s q) (f q) (pos 0)) (λ q. pos 0) (λ q l. rw (no_group t s q e))
    ∙ sum_z_zeros 5

group_by : (t : List ℤ) → mi (at_z t 0) ≡ 0 → (s : ℕ) → s < 5 → Sign (at_z t s) → group_sum t s (share_of t) ≡ group_adjusted t s
unfolding group_adjusted
group_by t h s l (none e) = no_sum t s (share_of t) e ∙ sym (no_sum t s (adjusted t) e)
group_by t h s l (some e) = group_shares t h s l e

plus_none : (z : ℤ) → z +ℤ pos 0 ≡ z
plus_none z = eq_z (z +ℤ pos 0) z (omega (arith, add_read z (pos 0)))

-- a sum as those of members and of others
part_by : (b : Bool) (z : ℤ) → z ≡ cond b (pos 0) z +ℤ cond b z (pos 0)
part_by true z = eq_z z (pos 0 +ℤ z) (omega (arith, add_read (pos 0) z))
part_by false z = sym (plus_none z)

sum_parts : (n : ℕ) (m : ℕ → Bool) (f : ℕ → ℤ) → sum_z n f ≡ sum_z n (λ q. cond (m q) (pos 0) (f q)) +ℤ sum_z n (λ q. cond (m q) (f q) (pos 0))
sum_parts n m f =
    sum_z_same n f (λ q. cond (m q) (pos 0) (f q) +ℤ cond (m q) (f q) (pos 0)) (λ q l. part_by (m q) (f q))
    ∙ sum_z_add n (λ q. cond (m q) (pos 0) (f q)) (λ q. cond (m q) (f q) (pos 0))

-- a sum whose later terms are 0
sum_ends : (n m : ℕ) (f : ℕ → ℤ) → n ≤ m → ((q : ℕ) → n ≤ q → q < m → f q ≡ pos 0) → sum_z m f ≡ sum_z n f
sum_ends n zero f l h = let e : n ≡ 0 = omega arith in rw e
sum_ends n (suc m) f l h =
    let r = sum_ends n m f in
    elim (dec_lt m n) [
      | yes g ↦ let e : n ≡ suc m = omega arith in rw e
      | no g ↦
          let e = r (omega arith) (λ q i j. h q i (omega arith)) in
          rw (sum_z_suc m f, h m (omega arith) (omega arith), e) (plus_none (sum_z n f))
    ]

-- what stands before s outside its group
abbrev outside : List ℤ → (ℕ → ℤ) → ℕ → ℤ
outside t f s = sum_z s (λ q. cond (same_group t s q) (pos 0) (f q))

-- the next schedule: of the same group, or the first of another
outside_same : (t : List ℤ) (f : ℕ → ℤ) (s : ℕ) → same_group t s (suc s) ≡ true → outside t f (suc s) ≡ outside t f s
outside_same t f s h =
    let k = same_turn t (suc s) s ∙ h in
    sum_z_suc s (λ q. cond (same_group t (suc s) q) (pos 0) (f q))
    ∙ rw (sum_z_same s (λ q. cond (same_group t (suc s) q) (pos 0) (f q)) (λ q. cond (same_group t s q) (pos 0) (f q)) (λ q l. rw (same_group_lem t s (suc s) h q)), k)
    (plus_none (outside t f s))

-- a group goes no further than a neighbour outside it
no_further : (t : List ℤ) (s q : ℕ) (b : Bool) → same_group t s (suc s) ≡ false → suc s ≤ q → same_group t s q ≡ b → b ≡ false
no_further t s q true h l k =
    absurd (false≢true (sym h ∙ run_same (above (at_z t s)) t s (suc s) (run_part (same_run t s q k) (suc s) (omega arith) (omega arith))))
no_further t s q false h l k = refl

no_earlier : (t : List ℤ) (s q : ℕ) (b : Bool) → same_group t s (suc s) ≡ false → q ≤ s → same_group t (suc s) q ≡ b → b ≡ false
no_earlier t s q true h l k =
    absurd (false≢true (sym h ∙ same_turn t s (suc s) ∙ run_same (above (at_z t (suc s))) t (suc s) s (run_part (same_run t (suc s) q k) s (omega arith) (omega arith))))
no_earlier t s q false h l k = refl

outside_first : (t : List ℤ) (f : ℕ → ℤ) (s : ℕ) → same_group t s (suc s) ≡ false → outside t f (suc s) ≡ sum_z (suc s) f
outside_first t f s h =
    sum_z_same (suc s) (λ q. cond (same_group t (suc s) q) (pos 0) (f q)) f
    (λ q l. rw (no_earlier t s q (same_group t (suc s) q) h (omega arith) refl))

-- the sum up to the last schedule s of a group, or up to a total of 0: what stands before s outside its group, the term of s if it is of
-- no group, and the group's sum
sum_by_group : (t : List ℤ) (f : ℕ → ℤ) (s : ℕ) → s < 5 → ((q : ℕ) → suc s ≤ q → q < 5 → same_group t s q ≡ false) → sum_z (suc s) f ≡ (outside t f s +ℤ cond (same_group t s s) (pos 0) (f s)) +ℤ group_sum t s f
sum_by_group t f s l h =
    let e = sum_ends (suc s) 5 (λ q. cond (same_group t s q) (f q) (pos 0)) (omega arith) (λ q i j. rw (h q i j)) in
    sum_parts (suc s) (same_group t s) f ∙ rw (sum_z_suc s (λ q. cond (same_group t s q) (pos 0) (f q)), ← e)

-- two functions of schedules with equal sums over each group, and equal where the total is 0
record Alike (t : List ℤ) (f g : ℕ → ℤ) : Type 0 where
  sums : (s : ℕ) → s < 5 → group_sum t s f ≡ group_sum t s g
  zeros : (s : ℕ) → s < 5 → at_z t s ≡ pos 0 → f s ≡ g s

alone_by : (t : List ℤ) (f g : ℕ → ℤ) (s : ℕ) → s < 5 → Alike t f g → Sign (at_z t s) → cond (same_group t s s) (pos 0) (f s) ≡ cond (same_group t s s) (pos 0) (g s)
alone_by t f g s l a (none e) = rw (a.zeros s l e)
alone_by t f g s l a (some e) = rw (own_group t s e)

ends_alike : (t : List ℤ) (f g : ℕ → ℤ) (s : ℕ) → s < 5 → Alike t f g → ((q : ℕ) → suc s ≤ q → q < 5 → same_group t s q ≡ false) → outside t f s ≡ outside t g s → sum_z (suc s) f ≡ sum_z (suc s) g
ends_alike t f g s l a h o =
    sum_by_group t f s l h
    ∙ rw (o, alone_by t f g s l a (sign_of (at_z t s)), a.sums s l) (sym (sum_by_group t g s l h))

outside_by : (t : List ℤ) (f g : ℕ → ℤ) (s : ℕ) (b : Bool) → s < 5 → Alike t f g → same_group t s (suc s) ≡ b → outside t f s ≡ outside t g s → outside t f (suc s) ≡ outside t g (suc s)
outside_by t f g s true l a h o = outside_same t f s h ∙ o ∙ sym (outside_same t g s h)
outside_by t f g s false l a h o =
    outside_first t f s h
    ∙ ends_alike t f g s l a (λ q i j. no_further t s q (same_group t s q) h i refl) o
    ∙ sym (outside_first t g s h)

outside_alike : (t : List ℤ) (f g : ℕ → ℤ) → Alike t f g → (s : ℕ) → s < 5 → outside t f s ≡ outside t g s
outside_alike t f g a zero l = sum_z_none (λ q. cond (same_group t 0 q) (pos 0) (f q)) ∙ sym (sum_z_none (λ q. cond (same_group t 0 q) (pos 0) (g q)))
outside_alike t f g a (suc s) l = outside_by t f g s (same_group t s (suc s)) (omega arith) a refl (outside_alike t f g a s (omega arith))

-- then their sums are equal
alike_sum : (t : List ℤ) (f g : ℕ → ℤ) → Alike t f g → sum_z 5 f ≡ sum_z 5 g
alike_sum t f g a = ends_alike t f g 4 (omega arith) a (λ q i j. absurd (omega arith)) (outside_alike t f g a 4 (omega arith))

most_by : (t : List ℤ) → mi (at_z t 0) ≡ 0 → (s : ℕ) → s < 5 → Sign (at_z t s) → nat_abs (share_of t s) ≤ nat_abs (at_z t s)
most_by t h s l (none e) = rw (share_none t s e, e) (omega arith)
most_by t h s l (some e) = share_most t h s l e

adjusted_none : (t : List ℤ) → mi (at_z t 0) ≡ 0 → (s : ℕ) → s < 5 → at_z t s ≡ pos 0 → adjusted t s ≡ pos 0
adjusted_none t h s l e =
    let b : Between (adjusted t s) (pos 0) = rw e at (adjusted_between t h s l) in
    eq_z (adjusted t s) (pos 0) (omega (arith, b.plus, b.minus))

not_below : (z : ℤ) → mi z ≡ 0 → below z ≡ false
not_below z h = le_lt_z z (pos 0) (omega arith)

not_above : (z : ℤ) → pl z ≡ 0 → above z ≡ false
not_above z h = le_lt_z (pos 0) z (omega arith)

share_only : (t : List ℤ) (s : ℕ) (b : Bool) → has_sign b (at_z t s) ≡ true → other b (share_of t s) ≡ 0
share_only t s b e =
    let g = sign_is b (at_z t s) e in
    let f : has_sign (above (at_z t s)) (at_z t s) ≡ true = rw g e in
    rw g at (share_sign t s f).only

-- the shares of five totals of which the first is not below 0
pub fair : (t : List ℤ) → mi (at_z t 0) ≡ 0 → Fair t (share_of t)
unfolding group_adjusted
fair t h =
    let group : (s : ℕ) → s < 5 → group_sum t s (share_of t) ≡ group_adjusted t s = λ s l. group_by t h s l (sign_of (at_z t s)) in
    record {
      close = λ s l n. share_close t h s l (has_sign_lem (at_z t s) n);
      group = group;
      all =
          alike_sum t (share_of t) (adjusted t)
          (record { sums = group; zeros = λ s l e. share_none t s e ∙ sym (adjusted_none t h s l e) });
      none = λ s l e. share_none t s e;
      most = λ s l. most_by t h s l (sign_of (at_z t s));
      sign = λ s l. (λ e. not_below (share_of t s) (share_only t s true e), λ e. not_above (share_of t s) (share_only t s false e));
    }
