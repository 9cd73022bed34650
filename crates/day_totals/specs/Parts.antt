-- Document 01, "Totals and book": an adjusted total by its two cases, read as what it has above 0 and below 0.
use Rattle.std.specs.Prelude.{ℕ, zero, suc, ◌+◌, ◌-◌, ◌<◌, min, max, ◌≡◌, refl, List, eqb, ℤ, pos, negsuc, ◌+ℤ◌, ◌-ℤ◌}
use Rattle.std.proofs.Common.{arith, add-one}
use mathlib.Core.Bool.{Bool, true, false, cond, ◌||◌}
use Rattle.std.proofs.Math.Dec.{leb-zero}
use Rattle.std.specs.Int.Signed.{le_z, non_neg}
use Rattle.rules.specs.Fold.{at_z}
use Rattle.rules.specs.Payments.{max_z}
use Rattle.rules.specs.Totals.{min_z, least_sum, adjusted_after, carried, adjusted}
use Rattle.laws.specs.Ints.{pl, mi, apart, pl_add, mi_add, pl_min, mi_min, pl_max, mi_max, non_neg_no}

-- the least from s up to the last schedule
abbrev pub least_of : List ℤ → ℕ → ℤ
least_of t s = least_sum t s (4 - s)

-- the last one's is its total, an earlier one's takes the next one's
pub least_last : (t : List ℤ) → least_of t 4 ≡ at_z t 4
unfolding least_sum
least_last t = refl

pub least_step : (t : List ℤ) (s : ℕ) → s < 4 → least_of t s ≡ min_z (at_z t s) (at_z t s +ℤ least_of t (s + 1))
unfolding least_sum
least_step t s l =
    let e : 4 - s ≡ suc (4 - suc s) = omega arith in
    rw (add-one s, e)

-- the test against 0 is the one of the sign
pub zero_le_z : (z : ℤ) → le_z (pos 0) z ≡ non_neg z
zero_le_z (pos n) = leb-zero n
zero_le_z (negsuc n) = refl

pub carried_first : (t : List ℤ) → carried t 0 ≡ pos 0
unfolding carried
carried_first t = refl

pub carried_step : (t : List ℤ) (s : ℕ) → carried t (suc s) ≡ carried t s +ℤ (at_z t s -ℤ adjusted t s)
unfolding carried adjusted
carried_step t s = refl

-- what the m schedules from s on take back beyond what they pay, in the order they come
unfoldable pub need : List ℤ → ℕ → ℕ → ℕ
need t s zero = 0
need t s (suc m) = (need t (suc s) m + mi (at_z t s)) - pl (at_z t s)

-- the lesser of a number and its sum with another, in parts
lesser_above : (p m a n : ℕ) → min p m ≡ 0 → min a n ≡ 0 → min p ((p + a) - (m + n)) ≡ p - (m + n)
lesser_above p m a n h g = omega arith

lesser_below : (p m a n : ℕ) → min p m ≡ 0 → min a n ≡ 0 → max m ((m + n) - (p + a)) ≡ (n + m) - p
lesser_below p m a n h g = omega arith

-- the least of the sums from s on, by what the later ones need
pub record Least (t : List ℤ) (s m : ℕ) : Type 0 where
  pub above : pl (least_sum t s m) ≡ pl (at_z t s) - (mi (at_z t s) + need t (suc s) m)
  pub below : mi (least_sum t s m) ≡ need t s (suc m)

pub least_read : (t : List ℤ) (s m : ℕ) → Least t s m
unfolding least_sum need
least_read t s zero =
    let p = apart (at_z t s) in
    record { above = omega arith; below = omega arith }
least_read t s (suc m) =
    let r = least_read t (suc s) m in
    let x = at_z t s in
    let l = least_sum t (suc s) m in
    let n = need t (suc s) (suc m) in
    let g : min (pl l) n ≡ 0 = rw r.below at (apart l) in
    record {
      above = rw (pl_min x (x +ℤ l), pl_add x l, r.below) (lesser_above (pl x) (mi x) (pl l) n (apart x) g);
      below = rw (mi_min x (x +ℤ l), mi_add x l, r.below) (lesser_below (pl x) (mi x) (pl l) n (apart x) g);
    }

-- whether s is kept ("if s = 1 or t(s) >= 0") or owed
abbrev pub is_kept : List ℤ → ℕ → Bool
is_kept t s = eqb s 0 || non_neg (at_z t s)

pub record KeptTotal (t : List ℤ) (s : ℕ) (a : ℤ) : Type 0 where
  pub above : pl a ≡ pl (at_z t s) - (mi (at_z t s) + need t (suc s) (4 - s))
  pub below : mi a ≡ 0

pub record Owed (t : List ℤ) (e : ℤ) (s : ℕ) (a : ℤ) : Type 0 where
  pub negative : 0 < mi (at_z t s)
  pub above : pl a ≡ 0
  pub below : mi a ≡ (mi (at_z t s) + mi e) - (pl (at_z t s) + pl e)

abbrev pub Case : Bool → List ℤ → ℤ → ℕ → ℤ → Type 0
Case true t e s a = KeptTotal t s a
Case false t e s a = Owed t e s a

or_right : (p q : Bool) → (p || q) ≡ false → q ≡ false
or_right true q e = absurd (mathlib.Core.Bool.true≢false e)
or_right false q e = e

case_by : (t : List ℤ) (e : ℤ) (s : ℕ) (b : Bool) → is_kept t s ≡ b → Case b t e s (cond b (max_z (pos 0) (least_of t s)) (min_z (pos 0) (at_z t s +ℤ e)))
case_by t e s true h =
    let l = least_read t s (4 - s) in
    let u = pl_max (pos 0) (least_of t s) in
    let v = mi_max (pos 0) (least_of t s) in
    let w = l.above in
    record { above = omega arith; below = omega arith }
case_by t e s false h =
    let n = non_neg_no (at_z t s) (or_right (eqb s 0) (non_neg (at_z t s)) h) in
    let u = pl_min (pos 0) (at_z t s +ℤ e) in
    let v = mi_min (pos 0) (at_z t s +ℤ e) in
    let w = mi_add (at_z t s) e in
    record { negative = n; above = omega arith; below = omega arith }

-- an adjusted total from the two tests
pub adjusted_kept : (t : List ℤ) (s : ℕ) → is_kept t s ≡ true → adjusted t s ≡ max_z (pos 0) (least_of t s)
unfolding adjusted adjusted_after
adjusted_kept t s e = rw e

pub adjusted_owed : (t : List ℤ) (s : ℕ) → is_kept t s ≡ false → adjusted t s ≡ min_z (pos 0) (at_z t s +ℤ carried t s)
unfolding adjusted adjusted_after
adjusted_owed t s e = rw e

pub case_of : (t : List ℤ) (s : ℕ) → Case (is_kept t s) t (carried t s) s (adjusted t s)
unfolding adjusted adjusted_after
case_of t s = case_by t (carried t s) s (is_kept t s) refl
