-- Refusal 14, from what the code has read.
use Prim.Native.Nat.{ℕ, zero, suc, ◌+◌, ◌<◌}
use native.Mathlib.Omega.{arith}
use native.Mathlib.Numerals.{add-one}
use native.Mathlib.Decide.{ℕ_discrete}
use mathlib.Core.Path.{◌≡◌, refl, sym, ◌∙◌, ap, subst}
use mathlib.Core.List.{List}
use mathlib.Core.Bool.{Bool, true, false, cond}
use lib.ListN.{length, get_or, set, length-set}
use lib.Seq.{get_or-set_same, get_or-set_other}
use Rattle.std.proofs.lemmas.Bool.Decides.{nat_tests}
use Rattle.std.proofs.Common.{true≢false}
use Rattle.rules.specs.Fold.{first}
use Rattle.rules.specs.Layout.{line_at}
use Rattle.rules.specs.Refusals.{same_key, pair_fault, key_fault}
use Rattle.laws.specs.Folds.{first_none, first_more, first_stop}
use Rattle.day_header.proofs.Header.{refuse_is}
use Rattle.day.specs.Keys.{slot_of}

-- refusal 14 of a pair, and of a line
pub pair_is : (d : List ℕ) (k i : ℕ) → pair_fault d k i ≡ cond (same_key (line_at d i) (line_at d k)) 14 0
unfolding pair_fault
pair_is d k i = refuse_is 14 _

pub key_is : (d : List ℕ) (k : ℕ) → key_fault d k ≡ first (pair_fault d k) k
unfolding key_fault
key_is d k = refl

pub ruleset key_laws = (key_is, pair_is, first_none, first_more, first_stop)

-- lines with other slots have other keys
other_key : (v w : List ℕ) → (slot_of v ≡ slot_of w → ⊥) → same_key v w ≡ false
unfolding slot_of same_key
other_key v w h = grind (arith, nat_tests)

pub slot_few : (w : List ℕ) → slot_of w < 128
unfolding slot_of
slot_few w = omega arith

first_all : (f : ℕ → ℕ) (n : ℕ) → ((i : ℕ) → i < n → f i ≡ 0) → first f n ≡ 0
first_all f zero h = first_none f
first_all f (suc n) h =
    subst (λ (m : ℕ). first f m ≡ 0) (add-one n) (first_more f n (first_all f n (λ i l. h i (omega arith))) (h n (omega arith)))

-- the slots of the first k lines are marked as used
pub record Used (d : List ℕ) (k : ℕ) (u : List Bool) : Type 0 where
  pub marked : (i : ℕ) → i < k → get_or u (slot_of (line_at d i)) false ≡ true

pub used_first : (d : List ℕ) (u : List Bool) → Used d 0 u
used_first d u = record { marked = λ i l. absurd (omega arith) }

next_marked : (d : List ℕ) (k : ℕ) (u : List Bool) (s : ℕ) → Used d k u → s ≡ slot_of (line_at d k) → s < length u
    → (i : ℕ) → i < k + 1 → get_or (set u s true) (slot_of (line_at d i)) false ≡ true
next_marked d k u s h e l i b =
    elim (ℕ_discrete (slot_of (line_at d i)) s) [
      | yes q ↦ rw q (get_or-set_same u s true false l)
      | no n ↦
          elim (ℕ_discrete i k) [
            | yes q ↦ absurd (n (ap (λ (m : ℕ). slot_of (line_at d m)) q ∙ sym e))
            | no m ↦ get_or-set_other u s (slot_of (line_at d i)) true false n ∙ h.marked i (omega arith)
          ]
    ]

pub used_next : (d : List ℕ) (k : ℕ) (u : List Bool) (s : ℕ) → Used d k u → s ≡ slot_of (line_at d k) → s < length u → Used d (k + 1) (set u s true)
used_next d k u s h e l = record { marked = next_marked d k u s h e l }

-- where line k's is not, no line before has its key
pub unused_none : (d : List ℕ) (k : ℕ) (u : List Bool) (s : ℕ) → Used d k u → s ≡ slot_of (line_at d k) → get_or u s false ≡ false → key_fault d k ≡ 0
unused_none d k u s h e z =
    rw (key_is d k)
    (first_all (pair_fault d k) k
    (λ i l. rw (pair_is d k i, other_key (line_at d i) (line_at d k) (λ q. absurd (true≢false (sym (h.marked i l) ∙ rw (q, ← e) z))))))

pub ruleset slot_laws = (length-set, slot_few, used_first, used_next, unused_none, first_none, first_more, first_stop)
