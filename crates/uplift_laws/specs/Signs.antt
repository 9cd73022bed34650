-- Signs of totals, adjusted totals and groups. An adjusted total lies between 0 and its total; two schedules are of one group where all
-- totals from the one to the other have one sign; a group's sums have the sign of its totals, and their sizes add up.
use Rattle.std.specs.Prelude.{ℕ, zero, suc, ◌+◌, ◌-◌, ◌≤◌, ◌<◌, min, max, ◌≡◌, refl, List, Bool, true, false, cond, ◌||◌, ℤ, pos, negsuc, nat_abs, ◌+ℤ◌}
use Rattle.std.proofs.Math.Nat.{max_comm, min_comm}
use Rattle.std.proofs.Math.Decide.{dec_lt, ℕ_discrete}
use Rattle.std.proofs.Common.{arith, sym, ◌∙◌, lt-ltb}
use Rattle.std.proofs.lemmas.Bool.{false≢true}
use Rattle.rules.specs.Fold.{sum_to, sum_z, at_z}
use Rattle.rules.specs.Totals.{carried, adjusted}
use Rattle.rules.specs.Uplift.{above, below, all_from, same_group, group_total, group_adjusted}
use Rattle.laws.specs.Folds.{sum_none, sum_suc, sum_le, sum_same, sum_term, sum_z_none, sum_z_suc, all_yes, yes_all}
use Rattle.laws.specs.Ints.{pl, mi, apart, eq_z, pl_add, mi_add, lt_z_yes, le_lt_z}
use Rattle.day_totals.specs.Parts.{is_kept, Case, case_of}
use Rattle.day_totals.specs.Balance.{kept_whole, left_before}
use Rattle.day_totals.specs.Sums.{sum_z_same}
use Rattle.uplift_laws.specs.Apportion.{among}

-- a number between 0 and x
pub record Between (a x : ℤ) : Type 0 where
  pub plus : pl a ≤ pl x
  pub minus : mi a ≤ mi x

between_by : (t : List ℤ) (e a : ℤ) (s : ℕ) (b : Bool) → (b ≡ true → mi (at_z t s) ≡ 0) → Case b t e s a → mi e ≡ 0 → Between a (at_z t s)
between_by t e a s true k c h = record { plus = omega (arith, c.above); minus = omega (arith, c.below) }
between_by t e a s false k c h = record { plus = omega (arith, c.above); minus = omega (arith, c.below) }

-- an adjusted total lies between 0 and its total, where the first total isn't below 0
pub adjusted_between : (t : List ℤ) → mi (at_z t 0) ≡ 0 → (s : ℕ) → s < 5 → Between (adjusted t s) (at_z t s)
adjusted_between t h s l =
    between_by t (carried t s) (adjusted t s) s (is_kept t s) (kept_whole t h s) (case_of t s) (left_before t h s (omega arith)).whole

-- a sign, true for above 0 and false for below 0: whether a number has it, and the number's part of it and of the other
abbrev pub has_sign : Bool → ℤ → Bool
has_sign true z = above z
has_sign false z = below z

abbrev pub own : Bool → ℤ → ℕ
own true z = pl z
own false z = mi z

abbrev pub other : Bool → ℤ → ℕ
other true z = mi z
other false z = pl z

pub record OneSign (b : Bool) (z : ℤ) : Type 0 where
  pub some : 0 < own b z
  pub only : other b z ≡ 0

pub one_sign : (b : Bool) (z : ℤ) → has_sign b z ≡ true → OneSign b z
one_sign true z e =
    let l = lt_z_yes (pos 0) z e in
    let p = apart z in
    record { some = omega arith; only = omega arith }
one_sign false z e =
    let l = lt_z_yes z (pos 0) e in
    let p = apart z in
    record { some = omega arith; only = omega arith }

pub size_is : (b : Bool) (z : ℤ) → nat_abs z ≡ own b z + other b z
size_is true (pos n) = omega arith
size_is true (negsuc n) = omega arith
size_is false (pos n) = omega arith
size_is false (negsuc n) = omega arith

-- two numbers of one sign, or 0, and of one size are equal
pub same_size : (b : Bool) (x y : ℤ) → other b x ≡ 0 → other b y ≡ 0 → nat_abs x ≡ nat_abs y → x ≡ y
same_size true x y g h e = eq_z x y (omega (arith, size_is true x, size_is true y))
same_size false x y g h e = eq_z x y (omega (arith, size_is false x, size_is false y))

-- a number between 0 and one that is 0 or of the sign b
pub between_only : (b : Bool) {a x : ℤ} → Between a x → other b x ≡ 0 → other b a ≡ 0
between_only true {a} {x} c h = omega (arith, c.minus)
between_only false {a} {x} c h = omega (arith, c.plus)

pub between_size : {a x : ℤ} → Between a x → nat_abs a ≤ nat_abs x
between_size {a} {x} c = omega (arith, size_is true a, size_is true x, c.plus, c.minus)

-- a number of size n that is 0 or of the sign b
pub record SignSize (b : Bool) (z : ℤ) (n : ℕ) : Type 0 where
  pub size : nat_abs z ≡ n
  pub only : other b z ≡ 0

sum_by : (b : Bool) (x y : ℤ) → other b x ≡ 0 → other b y ≡ 0 → SignSize b (x +ℤ y) (nat_abs x + nat_abs y)
sum_by true x y g h =
    let e = pl_add x y in
    let f = mi_add x y in
    record { size = omega (arith, size_is true x, size_is true y, size_is true (x +ℤ y)); only = omega arith }
sum_by false x y g h =
    let e = pl_add x y in
    let f = mi_add x y in
    record { size = omega (arith, size_is true x, size_is true y, size_is true (x +ℤ y)); only = omega arith }

-- the sum of numbers that are each 0 or of the sign b: the size is the sum of their sizes
none_of : (b : Bool) → other b (pos 0) ≡ 0
none_of true = refl
none_of false = refl

pub sum_of : (b : Bool) (n : ℕ) (f : ℕ → ℤ) → ((i : ℕ) → i < n → other b (f i) ≡ 0) → SignSize b (sum_z n f) (sum_to n (λ i. nat_abs (f i)))
sum_of b zero f h = rw (sum_z_none f, sum_none (λ i. nat_abs (f i))) (record { size = refl; only = none_of b })
sum_of b (suc n) f h =
    let r = sum_of b n f (λ i l. h i (omega arith)) in
    let e = sum_by b (sum_z n f) (f n) r.only (h n (omega arith)) in
    rw (sum_z_suc n f, sum_suc n (λ i. nat_abs (f i)), ← r.size) e

-- the same over members only
member_only : (b m : Bool) (z : ℤ) → (m ≡ true → other b z ≡ 0) → other b (cond m z (pos 0)) ≡ 0
member_only b true z h = h refl
member_only b false z h = none_of b

member_size : (m : Bool) (z : ℤ) → nat_abs (cond m z (pos 0)) ≡ cond m (nat_abs z) 0
member_size true z = refl
member_size false z = refl

pub sum_among : (b : Bool) (n : ℕ) (m : ℕ → Bool) (f : ℕ → ℤ) → ((q : ℕ) → q < n → m q ≡ true → other b (f q) ≡ 0) → SignSize b (sum_z n (λ q. cond (m q) (f q) (pos 0))) (sum_to n (among m (λ q. nat_abs (f q))))
sum_among b n m f h =
    let g : ℕ → ℤ = λ q. cond (m q) (f q) (pos 0) in
    let s = sum_of b n g (λ q l. member_only b (m q) (f q) (h q l)) in
    let e = sum_same n (λ q. nat_abs (g q)) (among m (λ q. nat_abs (f q))) (λ q l. member_size (m q) (f q)) in
    record { size = s.size ∙ e; only = s.only }

-- all totals from s to q, in either order, have the sign b
pub record Run (b : Bool) (t : List ℤ) (s q : ℕ) : Type 0 where
  pub each : (r : ℕ) → min s q ≤ r → r ≤ max s q → has_sign b (at_z t r) ≡ true

run_yes : (b : Bool) (t : List ℤ) (s q : ℕ) → all_from (has_sign b) t s q ≡ true → Run b t s q
unfolding all_from
run_yes b t s q e =
    record {
      each =
          λ r l g.
          let i : min s q + (r - min s q) ≡ r = omega arith in
          rw i at (all_yes (suc (max s q - min s q)) (λ i. has_sign b (at_z t (min s q + i))) e (r - min s q) (omega arith));
    }

yes_run : (b : Bool) (t : List ℤ) (s q : ℕ) → Run b t s q → all_from (has_sign b) t s q ≡ true
unfolding all_from
yes_run b t s q h =
    yes_all (suc (max s q - min s q)) (λ i. has_sign b (at_z t (min s q + i)))
    (λ i l. h.each (min s q + i) (omega arith) (omega arith))

pub run_join : {b : Bool} {t : List ℤ} {s q p : ℕ} → Run b t s q → Run b t q p → Run b t s p
run_join {b} {t} {s} {q} {p} h k =
    record {
      each =
          λ r l g.
          elim (dec_lt (max s q) r) [
            | yes u ↦ k.each r (omega arith) (omega arith)
            | no u ↦
                elim (dec_lt r (min s q)) [
                  | yes v ↦ k.each r (omega arith) (omega arith)
                  | no v ↦ h.each r (omega arith) (omega arith)
                ]
          ];
    }

-- a part of a run
pub run_part : {b : Bool} {t : List ℤ} {s q : ℕ} → Run b t s q → (r : ℕ) → min s q ≤ r → r ≤ max s q → Run b t s r
run_part {b} {t} {s} {q} h r l g = record { each = λ i u v. h.each i (omega arith) (omega arith) }

pub run_one : {b : Bool} {t : List ℤ} {s : ℕ} → has_sign b (at_z t s) ≡ true → Run b t s s
run_one {b} {t} {s} e = record { each = λ r l g. let i : r ≡ s = omega arith in rw i e }

-- two neighbours
pub run_pair : {b : Bool} {t : List ℤ} {s q : ℕ} → max s q ≤ suc (min s q) → has_sign b (at_z t s) ≡ true → has_sign b (at_z t q) ≡ true → Run b t s q
run_pair {b} {t} {s} {q} l e f =
    record {
      each =
          λ r i j.
          elim (ℕ_discrete r s) [
            | yes u ↦ rw u e
            | no u ↦ let v : r ≡ q = omega arith in rw v f
          ];
    }

-- a number has one sign
pub sign_is : (b : Bool) (z : ℤ) → has_sign b z ≡ true → above z ≡ b
sign_is true z e = e
sign_is false z e =
    let o = one_sign false z e in
    le_lt_z (pos 0) z (omega (arith, o.only))

-- "whose totals are all above 0 or all below 0": one group as a run of one sign, that of the total of s
or_right : (a : Bool) → (a || true) ≡ true
or_right true = refl
or_right false = refl

pub run_same : (b : Bool) (t : List ℤ) (s q : ℕ) → Run b t s q → same_group t s q ≡ true
unfolding same_group
run_same true t s q h = rw (yes_run true t s q h)
run_same false t s q h = rw (yes_run false t s q h) (or_right (all_from above t s q))

run_first : {b : Bool} {t : List ℤ} {s q : ℕ} → Run b t s q → has_sign b (at_z t s) ≡ true
run_first {b} {t} {s} {q} h = h.each s (omega arith) (omega arith)

run_sign : (b : Bool) (t : List ℤ) (s q : ℕ) → Run b t s q → Run (above (at_z t s)) t s q
run_sign b t s q h = rw (sign_is b (at_z t s) (run_first h)) h

same_by : (t : List ℤ) (s q : ℕ) (u v : Bool) → all_from above t s q ≡ u → all_from below t s q ≡ v → (u || v) ≡ true → Run (above (at_z t s)) t s q
same_by t s q true v e f h = run_sign true t s q (run_yes true t s q e)
same_by t s q false true e f h = run_sign false t s q (run_yes false t s q f)
same_by t s q false false e f h = absurd (false≢true h)

pub same_run : (t : List ℤ) (s q : ℕ) → same_group t s q ≡ true → Run (above (at_z t s)) t s q
unfolding same_group
same_run t s q h = same_by t s q (all_from above t s q) (all_from below t s q) refl refl h

-- being of one group is symmetric
pub same_turn : (t : List ℤ) (s q : ℕ) → same_group t s q ≡ same_group t q s
unfolding same_group all_from
same_turn t s q = rw (max_comm s q, min_comm s q)

-- the members of a group have the sign of the total of s
pub same_sign : (t : List ℤ) (s q : ℕ) → same_group t s q ≡ true → has_sign (above (at_z t s)) (at_z t q) ≡ true
same_sign t s q h = (same_run t s q h).each q (omega arith) (omega arith)

pub same_above : (t : List ℤ) (s q : ℕ) → same_group t s q ≡ true → above (at_z t q) ≡ above (at_z t s)
same_above t s q h = sign_is (above (at_z t s)) (at_z t q) (same_sign t s q h)

-- and transitive
pub same_on : (t : List ℤ) (s q r : ℕ) → same_group t s q ≡ true → same_group t q r ≡ true → same_group t s r ≡ true
same_on t s q r h k =
    let u : Run (above (at_z t s)) t q r = rw (same_above t s q h) at (same_run t q r k) in
    run_same (above (at_z t s)) t s r (run_join (same_run t s q h) u)

-- two tests of which each gives the other are equal
same_test : (a b : Bool) → (a ≡ true → b ≡ true) → (b ≡ true → a ≡ true) → a ≡ b
same_test true b f g = sym (f refl)
same_test false true f g = g refl
same_test false false f g = refl

-- the sum over the group of s
abbrev pub group_sum : List ℤ → ℕ → (ℕ → ℤ) → ℤ
group_sum t s f = sum_z 5 (λ q. cond (same_group t s q) (f q) (pos 0))

-- a member's group is the same group, with the same sums
pub same_group_lem : (t : List ℤ) (s q : ℕ) → same_group t s q ≡ true → (r : ℕ) → same_group t q r ≡ same_group t s r
same_group_lem t s q h r = same_test (same_group t q r) (same_group t s r) (same_on t s q r h) (same_on t q s r (same_turn t q s ∙ h))

sum_same_group : (t : List ℤ) (s q : ℕ) (f : ℕ → ℤ) → same_group t s q ≡ true → group_sum t q f ≡ group_sum t s f
sum_same_group t s q f h =
    sum_z_same 5 (λ r. cond (same_group t q r) (f r) (pos 0)) (λ r. cond (same_group t s r) (f r) (pos 0)) (λ r l. rw (same_group_lem t s q h r))

pub total_same : (t : List ℤ) (s q : ℕ) → same_group t s q ≡ true → group_total t q ≡ group_total t s
unfolding group_total
total_same t s q h = sum_same_group t s q (at_z t) h

pub adjusted_same : (t : List ℤ) (s q : ℕ) → same_group t s q ≡ true → group_adjusted t q ≡ group_adjusted t s
unfolding group_adjusted
adjusted_same t s q h = sum_same_group t s q (adjusted t) h

-- a number is 0 or has a sign
pub data Sign (z : ℤ) : Type 0 where
  none : z ≡ pos 0 → Sign z
  some : has_sign (above z) z ≡ true → Sign z

pub sign_of : (z : ℤ) → Sign z
sign_of (pos zero) = none refl
sign_of (pos (suc n)) = let e = lt-ltb 0 (suc n) (omega arith) in some (rw e e)
sign_of (negsuc n) = some refl

pub has_sign_lem : (z : ℤ) → (z ≡ pos 0 → ⊥) → has_sign (above z) z ≡ true
has_sign_lem z h =
    elim (sign_of z) [
      | none e ↦ absurd (h e)
      | some e ↦ e
    ]

-- a total other than 0 is of its own group, and a total of 0 of none
pub own_group : (t : List ℤ) (s : ℕ) → has_sign (above (at_z t s)) (at_z t s) ≡ true → same_group t s s ≡ true
own_group t s e = run_same (above (at_z t s)) t s s (run_one e)

none_by : (t : List ℤ) (s q : ℕ) (b : Bool) → same_group t s q ≡ b → at_z t s ≡ pos 0 → b ≡ false
none_by t s q true h e =
    let o : false ≡ true = rw e at (run_first (same_run t s q h)) in
    absurd (false≢true o)
none_by t s q false h e = refl

pub no_group : (t : List ℤ) (s q : ℕ) → at_z t s ≡ pos 0 → same_group t s q ≡ false
no_group t s q e = none_by t s q (same_group t s q) refl e

-- the members' totals have no other sign, nor have their adjusted totals
pub total_only : (t : List ℤ) (s q : ℕ) → same_group t s q ≡ true → other (above (at_z t s)) (at_z t q) ≡ 0
total_only t s q h = (one_sign (above (at_z t s)) (at_z t q) (same_sign t s q h)).only

pub adjusted_only : (t : List ℤ) → mi (at_z t 0) ≡ 0 → (s q : ℕ) → q < 5 → same_group t s q ≡ true → other (above (at_z t s)) (adjusted t q) ≡ 0
adjusted_only t h s q l k = between_only (above (at_z t s)) (adjusted_between t h q l) (total_only t s q k)

-- a group's sums: their signs and sizes
pub group_total_lem : (t : List ℤ) (s : ℕ) → SignSize (above (at_z t s)) (group_total t s) (sum_to 5 (among (same_group t s) (λ q. nat_abs (at_z t q))))
unfolding group_total
group_total_lem t s = sum_among (above (at_z t s)) 5 (same_group t s) (at_z t) (λ q l k. total_only t s q k)

pub group_adjusted_lem : (t : List ℤ) → mi (at_z t 0) ≡ 0 → (s : ℕ) → SignSize (above (at_z t s)) (group_adjusted t s) (sum_to 5 (among (same_group t s) (λ q. nat_abs (adjusted t q))))
unfolding group_adjusted
group_adjusted_lem t h s = sum_among (above (at_z t s)) 5 (same_group t s) (adjusted t) (adjusted_only t h s)

member_le : (m : Bool) (x y : ℕ) → x ≤ y → cond m x 0 ≤ cond m y 0
member_le true x y h = h
member_le false x y h = omega arith

-- the adjusted totals of a group are no more than its totals
pub group_most : (t : List ℤ) → mi (at_z t 0) ≡ 0 → (s : ℕ) → nat_abs (group_adjusted t s) ≤ nat_abs (group_total t s)
group_most t h s =
    let e = (group_total_lem t s).size in
    let f = (group_adjusted_lem t h s).size in
    let m = same_group t s in
    let l = sum_le 5 (among m (λ q. nat_abs (adjusted t q))) (among m (λ q. nat_abs (at_z t q))) (λ q l. member_le (m q) (nat_abs (adjusted t q)) (nat_abs (at_z t q)) (between_size (adjusted_between t h q l))) in
    omega arith

-- a member's total is no more than its group's; so where a total isn't 0, its group's isn't
pub member_most : (t : List ℤ) (s : ℕ) → s < 5 → same_group t s s ≡ true → nat_abs (at_z t s) ≤ nat_abs (group_total t s)
member_most t s l h =
    let e = (group_total_lem t s).size in
    let g = sum_term 5 (among (same_group t s) (λ q. nat_abs (at_z t q))) s l in
    let k : cond (same_group t s s) (nat_abs (at_z t s)) 0 ≡ nat_abs (at_z t s) = rw h in
    omega arith

pub group_some : (t : List ℤ) (s : ℕ) → s < 5 → has_sign (above (at_z t s)) (at_z t s) ≡ true → 0 < nat_abs (group_total t s)
group_some t s l e =
    let o = (one_sign (above (at_z t s)) (at_z t s) e).some in
    omega (arith, member_most t s l (own_group t s e), size_is (above (at_z t s)) (at_z t s))

-- a part of a group's run
pub same_part : (t : List ℤ) (s q : ℕ) → same_group t s q ≡ true → (r : ℕ) → min s q ≤ r → r ≤ max s q → same_group t s r ≡ true
same_part t s q h r l g = run_same (above (at_z t s)) t s r (run_part (same_run t s q h) r l g)

-- one number isn't above and below 0
pub one_side : (z : ℤ) → above z ≡ true → below z ≡ true → ⊥
one_side z a b = absurd (omega (arith, lt_z_yes (pos 0) z a, lt_z_yes z (pos 0) b))
