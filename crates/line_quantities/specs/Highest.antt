-- The records in force, record by record.
use Rattle.std.specs.Prelude.{ℕ, zero, suc, ◌+◌, ◌*◌, ◌-◌, ◌≤◌, ◌<◌, ◌≡◌, refl, ltb, List, Bool, true, false, cond, ◌&&◌, eqb, get_or, Option, None, Some, replicate}
use Rattle.std.proofs.Common.{arith, add-one, ◌∙◌, sym, ap, eq-eqb, ne_eqb, true≢false}
use Rattle.rules.specs.Fold.{five}
use Rattle.rules.specs.Layout.{line_at, records_at, record_count, operating_entry, operating_table, record_line, record_schedule, record_order, record_entry}
use Rattle.rules.specs.InForce.{is_for, is_above, highest, row_at, table_with, table_in_force}
use Rattle.laws.specs.Folds.{at_five}
use Rattle.laws.specs.InForce.{own_rows}
use Rattle.numbers.specs.Fives.{five_same}

-- a place counts from 1, and 0 is that of no record
abbrev pub number : Option ℕ → ℕ
number None = 0
number (Some i) = suc i

abbrev pub place_of : ℕ → Option ℕ
place_of zero = None
place_of (suc i) = Some i

-- the record in force for a schedule, which counts from 1 here, with record i of the line
unfoldable pub place_with : List ℕ → ℕ → ℕ → ℕ → Option ℕ → Option ℕ
place_with b r i schedule p = cond (eqb (record_schedule b r i) schedule && is_above b r i (number p)) (Some i) p

-- those for line k among the first n records
unfoldable pub highest_places : List ℕ → ℕ → ℕ → ℕ → List (Option ℕ)
highest_places b r k n = five (λ s. place_of (highest b r k s n))

most_by : (t : Bool) (n p : ℕ) → p ≤ n → cond t (suc n) p ≤ suc n
most_by true n p h = omega arith
most_by false n p h = omega arith

pub highest_most : (b : List ℕ) (r k s n : ℕ) → highest b r k s n ≤ n
unfolding highest
highest_most b r k s zero = omega arith
highest_most b r k s (suc n) = most_by (is_for b r k s n && is_above b r n (highest b r k s n)) n (highest b r k s n) (highest_most b r k s n)

pub number_is : (n : ℕ) → number (place_of n) ≡ n
number_is zero = refl
number_is (suc n) = refl

pub place_most : (b : List ℕ) (r k s n : ℕ) → number (place_of (highest b r k s n)) ≤ n
place_most b r k s n = rw (number_is (highest b r k s n)) (highest_most b r k s n)

-- with one record more: of another line, of the line
other : (b : List ℕ) (r k s i : ℕ) → (record_line b r i ≡ k → ⊥) → highest b r k s (i + 1) ≡ highest b r k s i
unfolding highest is_for
other b r k s i h = rw (add-one, ne_eqb (record_line b r i) k h)

chosen : (t u : Bool) (i p : ℕ) → t ≡ u → place_of (cond t (suc i) p) ≡ cond u (Some i) (place_of p)
chosen true true i p e = refl
chosen true false i p e = absurd (true≢false e)
chosen false true i p e = absurd (true≢false (sym e))
chosen false false i p e = refl

own : (b : List ℕ) (r k s i : ℕ) → record_line b r i ≡ k → place_of (highest b r k s (i + 1)) ≡ place_with b r i (suc s) (place_of (highest b r k s i))
unfolding highest is_for place_with
own b r k s i h =
    rw (add-one, eq-eqb (record_line b r i) k h)
    (chosen _ _ i (highest b r k s i)
    (ap (λ (p : ℕ). eqb (record_schedule b r i) (suc s) && is_above b r i p) (sym (number_is (highest b r k s i)))))

module _ (b : List ℕ) (r k : ℕ) where
  pub places_none : replicate 5 None ≡ highest_places b r k 0
  unfolding highest_places highest
  places_none = refl

  module _ (i : ℕ) where
    pub places_other : (record_line b r i ≡ k → ⊥) → highest_places b r k i ≡ highest_places b r k (i + 1)
    unfolding highest_places
    places_other h =
        five_same (λ s. place_of (highest b r k s i)) (λ s. place_of (highest b r k s (i + 1))) (λ s l. ap place_of (sym (other b r k s i h)))

    module _ (places : List (Option ℕ)) (e : places ≡ highest_places b r k i) where
      held : (s : ℕ) → s < 5 → get_or places s None ≡ place_of (highest b r k s i)
      unfolding highest_places
      held s l = ap (λ (p : List (Option ℕ)). get_or p s None) e ∙ at_five (λ t. place_of (highest b r k t i)) None s l

      pub place_is : (s : ℕ) → s < 5 → number (get_or places s None) ≡ highest b r k s i
      place_is s l = ap number (held s l) ∙ number_is (highest b r k s i)

      pub held_most : (s : ℕ) → s < 5 → number (get_or places s None) ≤ i
      held_most s l = rw (held s l) (place_most b r k s i)

      pub places_own : record_line b r i ≡ k → five (λ s. place_with b r i (s + 1) (get_or places s None)) ≡ highest_places b r k (i + 1)
      unfolding highest_places
      places_own h =
          five_same (λ s. place_with b r i (s + 1) (get_or places s None)) (λ s. place_of (highest b r k s (i + 1)))
          (λ s l. rw (add-one, held s l) (sym (own b r k s i h)))

      -- each lies within the records
      pub lies : (n : ℕ) → r + 32 * i ≤ n → (s : ℕ) → s < 5 → r + 32 * number (get_or places s None) ≤ n
      lies n h s l = omega (arith, held_most s l)

      pub table_is : (w : List ℕ) → five (λ s. row_at b r w s (number (get_or places s None))) ≡ table_with b r i k w
      unfolding table_with
      table_is w =
          five_same (λ s. row_at b r w s (number (get_or places s None))) (λ s. row_at b r w s (highest b r k s i))
          (λ s l. ap (row_at b r w s) (ap number (held s l) ∙ number_is (highest b r k s i)))

-- at the records' end
pub places_all : (b : List ℕ) (r k c i : ℕ) (p : List (Option ℕ)) → p ≡ highest_places b r k i → i ≤ c → c ≤ i → p ≡ highest_places b r k c
places_all b r k c i p e h l = e ∙ ap (highest_places b r k) (omega arith)

-- a place by its tests
module _ (b : List ℕ) (r i schedule x : ℕ) (p : Option ℕ) (e : x ≡ record_schedule b r i) where
  pub place_other : (x ≡ schedule → ⊥) → p ≡ place_with b r i schedule p
  unfolding place_with
  place_other h = rw (ne_eqb (record_schedule b r i) schedule (λ z. h (e ∙ z)))

  module _ (same : x ≡ schedule) (t : Bool) (te : t ≡ is_above b r i (number p)) where
    is_for_lem : eqb (record_schedule b r i) schedule ≡ true
    is_for_lem = eq-eqb (record_schedule b r i) schedule (sym e ∙ same)

    pub place_above : t ≡ true → Some i ≡ place_with b r i schedule p
    unfolding place_with
    place_above h = rw (is_for_lem, sym te ∙ h)

    pub place_stays : t ≡ false → p ≡ place_with b r i schedule p
    unfolding place_with
    place_stays h = rw (is_for_lem, sym te ∙ h)

-- an order number above that of the record at place p, and the row of that place
module _ (b : List ℕ) (r i p : ℕ) where
  pub above_none : p ≡ 0 → true ≡ is_above b r i p
  unfolding is_above
  above_none h = ap (is_above b r i) (sym h)

  above_by : (q : ℕ) → q ≡ p → (p ≡ 0 → ⊥) → ltb (record_order b r (q - 1)) (record_order b r i) ≡ is_above b r i q
  unfolding is_above
  above_by zero e h = absurd (h (sym e))
  above_by (suc q) e h = ap (λ (n : ℕ). ltb (record_order b r n) (record_order b r i)) (omega arith)

  pub above_some : (p ≡ 0 → ⊥) → (x y : ℕ) → x ≡ record_order b r (p - 1) → y ≡ record_order b r i → ltb x y ≡ is_above b r i p
  above_some h x y xe ye = rw (xe, ye) (above_by p refl h)

module _ (b : List ℕ) (r : ℕ) (w : List ℕ) (s p : ℕ) (t : List ℕ) where
  pub own_row : p ≡ 0 → t ≡ five (operating_entry w s) → t ≡ row_at b r w s p
  unfolding row_at
  own_row h e = e ∙ ap (row_at b r w s) (sym h)

  row_by : (q : ℕ) → q ≡ p → (p ≡ 0 → ⊥) → five (record_entry b r (q - 1)) ≡ row_at b r w s q
  unfolding row_at
  row_by zero e h = absurd (h (sym e))
  row_by (suc q) e h = ap (λ (n : ℕ). five (record_entry b r n)) (omega arith)

  pub row_of : (p ≡ 0 → ⊥) → t ≡ five (record_entry b r (p - 1)) → t ≡ row_at b r w s p
  row_of h e = e ∙ row_by p refl h

-- the table by the five places
pub table_none : (b : List ℕ) (r c k : ℕ) (w : List ℕ) → c ≡ 0 → operating_table w ≡ table_with b r c k w
table_none b r c k w h = sym (own_rows b r k w) ∙ ap (λ (n : ℕ). table_with b r n k w) (sym h)

-- in a file, with what was read of it
pub table_of : (d b : List ℕ) (r c k : ℕ) (w : List ℕ) → b ≡ d → r ≡ records_at d → c ≡ record_count d → w ≡ line_at d k
    → table_with b r c k w ≡ table_in_force d k
unfolding table_in_force
table_of d b r c k w be re ce we = rw (be, re, ce, we)
