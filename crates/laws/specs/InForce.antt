-- The rows in force (document 02, F-5): with no record they are the line's own; else which record's they are.
use Prim.Native.Nat.{ℕ, zero, suc, ◌≤◌, ◌<◌}
use Rattle.std.proofs.Common.{arith, sym, ◌∙◌, ap, true≢false}
use Rattle.std.proofs.Math.Decide.{dec_lt, ℕ_discrete}
use Rattle.std.specs.Prelude.{◌≡◌, List, Bool, true, false, cond, ◌&&◌}
use Rattle.std.proofs.Math.Path.{refl}
use borrow.Author.Tests.{ltb-true, ltb-false, ne_eqb}
use Rattle.rules.specs.Layout.{line_at, operating_table, records_at, record_count, record_line, record_order}
use Rattle.rules.specs.InForce.{is_for, is_above, highest, row_at, table_with, table_in_force}

pub own_rows : (b : List ℕ) (r k : ℕ) (w : List ℕ) → table_with b r 0 k w ≡ operating_table w
unfolding table_with highest row_at
own_rows b r k w = refl

-- so has a file without records, as those of the old layout are
pub own_table : (d : List ℕ) (k : ℕ) → record_count d ≡ 0 → table_in_force d k ≡ operating_table (line_at d k)
unfolding table_in_force
own_table d k h = ap (λ (c : ℕ). table_with d (records_at d) c k (line_at d k)) h ∙ own_rows d (records_at d) k (line_at d k)

-- "The row in force is that of the highest order number for its line and schedule": what the place p says of the first n records
record Best (b : List ℕ) (r k s n p : ℕ) : Type 0 where
  none : p ≡ 0 → (i : ℕ) → i < n → is_for b r k s i ≡ false
  within : (i : ℕ) → p ≡ suc i → i < n
  is_for_lem : (i : ℕ) → p ≡ suc i → is_for b r k s i ≡ true
  most : (i : ℕ) → p ≡ suc i → (h : ℕ) → h < n → is_for b r k s h ≡ true → record_order b r h ≤ record_order b r i

module _ (b : List ℕ) (r k s : ℕ) where
  above_none : (n : ℕ) → is_above b r n 0 ≡ true
  unfolding is_above
  above_none n = refl

  above_yes : (n h : ℕ) → is_above b r n (suc h) ≡ true → record_order b r h < record_order b r n
  unfolding is_above
  above_yes n h e = ltb-true (record_order b r h) (record_order b r n) e

  above_no : (n h : ℕ) → is_above b r n (suc h) ≡ false → record_order b r n ≤ record_order b r h
  unfolding is_above
  above_no n h e = ltb-false (record_order b r h) (record_order b r n) e

  -- record n is for them and above the one before, so above all before it
  best_new : (n p : ℕ) → is_for b r k s n ≡ true → is_above b r n p ≡ true → Best b r k s n p → (h : ℕ) → h < suc n → is_for b r k s h ≡ true
      → record_order b r h ≤ record_order b r n
  best_new n p f a e h l g =
      elim (dec_lt h n) [
        | yes m ↦ older p a e m
        | no m ↦ let q : h ≡ n = omega arith in rw q (omega arith)
      ]
    where
      older : (p : ℕ) → is_above b r n p ≡ true → Best b r k s n p → h < n → record_order b r h ≤ record_order b r n
      older zero a e m = absurd (true≢false (sym g ∙ e.none refl h m))
      older (suc q) a e m = let o = e.most q refl h m g in let u = above_yes n q a in omega arith

  -- one record more
  best_more : (n p : ℕ) (f a : Bool) → is_for b r k s n ≡ f → is_above b r n p ≡ a → Best b r k s n p → Best b r k s (suc n) (cond (f && a) (suc n) p)
  best_more n p true true f a e =
      record {
        none = λ z i l. absurd (omega arith);
        within = λ i q. omega arith;
        is_for_lem = λ i q. let m : i ≡ n = omega arith in rw m f;
        most = λ i q h l g. let m : i ≡ n = omega arith in rw m (best_new n p f a e h l g);
      }
  best_more n zero true false f a e = absurd (true≢false (sym (above_none n) ∙ a))
  best_more n (suc q) true false f a e =
      record {
        none = λ z i l. absurd (omega arith);
        within = λ i p. let m = e.within i p in omega arith;
        is_for_lem = e.is_for_lem;
        most =
            λ i p h l g.
            elim (dec_lt h n) [
              | yes m ↦ e.most i p h m g
              | no m ↦ let t : h ≡ n = omega arith in let u : i ≡ q = omega arith in rw (t, u) (above_no n q a)
            ];
      }
  best_more n p false c f a e =
      record {
        none =
            λ z i l.
            elim (dec_lt i n) [
              | yes m ↦ e.none z i m
              | no m ↦ let t : i ≡ n = omega arith in rw t f
            ];
        within = λ i p. let m = e.within i p in omega arith;
        is_for_lem = e.is_for_lem;
        most =
            λ i p h l g.
            elim (dec_lt h n) [
              | yes m ↦ e.most i p h m g
              | no m ↦ let t : h ≡ n = omega arith in absurd (true≢false (sym (rw t at g) ∙ f))
            ];
      }

  best : (n : ℕ) → Best b r k s n (highest b r k s n)
  unfolding highest
  best zero =
      record {
        none = λ z i l. absurd (omega arith);
        within = λ i q. absurd (omega arith);
        is_for_lem = λ i q. absurd (omega arith);
        most = λ i q h l g. absurd (omega arith);
      }
  best (suc n) = best_more n (highest b r k s n) (is_for b r k s n) (is_above b r n (highest b r k s n)) refl refl (best n)

  -- WHICH RECORD IT IS: where there is none, no record is for them
  pub highest_none : (n : ℕ) → highest b r k s n ≡ 0 → (i : ℕ) → i < n → is_for b r k s i ≡ false
  highest_none n e i l = (best n).none e i l

  -- else it is one of them that is for them, and none of those has a higher order number
  pub highest_some : (n i : ℕ) → highest b r k s n ≡ suc i
      → (i < n) × (is_for b r k s i ≡ true) × ((h : ℕ) → h < n → is_for b r k s h ≡ true → record_order b r h ≤ record_order b r i)
  highest_some n i e = ((best n).within i e, (best n).is_for_lem i e, (best n).most i e)

  only_by : (n i p : ℕ) → i < n → is_for b r k s i ≡ true
      → ((h : ℕ) → h < n → (h ≡ i → ⊥) → is_for b r k s h ≡ true → record_order b r h < record_order b r i)
      → Best b r k s n p → p ≡ suc i
  only_by n i zero l f o e = absurd (true≢false (sym f ∙ e.none refl i l))
  only_by n i (suc j) l f o e =
      elim (ℕ_discrete j i) [
        | yes q ↦ ap suc q
        | no q ↦
            let a = o j (e.within j refl) q (e.is_for_lem j refl) in
            let c = e.most j refl i l f in
            absurd (omega arith)
      ]

  -- and one above every other that is for them is it, wherever it stands among them
  pub highest_only : (n i : ℕ) → i < n → is_for b r k s i ≡ true
      → ((h : ℕ) → h < n → (h ≡ i → ⊥) → is_for b r k s h ≡ true → record_order b r h < record_order b r i)
      → highest b r k s n ≡ suc i
  highest_only n i l f o = only_by n i (highest b r k s n) l f o (best n)

-- a line that no record names has its own rows
unnamed : (b : List ℕ) (r k s n : ℕ) → ((i : ℕ) → i < n → record_line b r i ≡ k → ⊥) → highest b r k s n ≡ 0
unfolding highest is_for
unnamed b r k s zero u = refl
unnamed b r k s (suc n) u = rw (ne_eqb (record_line b r n) k (u n (omega arith))) (unnamed b r k s n (λ i l. u i (omega arith)))

pub unnamed_table : (d : List ℕ) (k : ℕ) → ((i : ℕ) → i < record_count d → record_line d (records_at d) i ≡ k → ⊥) → table_in_force d k ≡ operating_table (line_at d k)
unfolding table_in_force table_with row_at
unnamed_table d k u =
    let none : (s : ℕ) → highest d (records_at d) k s (record_count d) ≡ 0 = λ s. unnamed d (records_at d) k s (record_count d) u in
    rw (none 0, none 1, none 2, none 3, none 4)
