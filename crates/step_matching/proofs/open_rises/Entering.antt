-- What a ledger of four places takes and leaves, and that it holds the open rises of `rules` from schedule to schedule.
use Prim.Native.Nat.{ℕ, suc, ◌-◌, ◌≤◌, ◌<◌, min}
use native.Mathlib.Omega.{arith}
use mathlib.Core.Path.{◌≡◌, refl, sym, ◌∙◌, ap}
use mathlib.Core.List.{List, [], ◌∷◌}
use lib.ListN.{length, get_or, take}
use lib.Seq.{take-take, get_or-take}
use Rattle.std.proofs.Common.{length-set, get_or-set_same, get_or-set_other, set, add-one, cond, ltb, lt-ltb, le-ltb, ◌+◌}
use Rattle.std.proofs.Math.Decide.{dec_lt}
use Rattle.std.proofs.lemmas.List.FromFn.{fill_by_all}
use Rattle.rules.specs.Fold.{at, five, before}
use Rattle.rules.specs.Matching.{earlier, rise, fall, takes, leaves, open_rises, matches_of, matched}
use Rattle.step_matching.specs.declared.open_rises.Ledger.{Ledger}
use Rattle.step_matching.specs.declared.open_rises.Matched.{Matched}
use Rattle.step_matching.specs.Ledgers.{entered, Holding, match_row}
use Rattle.step_matching.specs.Takings.{takes_take, leaves_take}
use Rattle.step_matching.specs.Balance.{matched_in, matched_out}

-- a match is at most the open rise
pub match_most : {m : ℕ} (d u : ℕ) → m ≡ min d u → m ≤ u
match_most d u e = omega arith

-- the four matches of a fall d with the open rises l
pub record Four (d : ℕ) (l : List ℕ) (m₀ m₁ m₂ m₃ : ℕ) : Type 0 where
  pub first : m₀ ≡ min d (get_or l 0 0)
  pub second : m₁ ≡ min (d - m₀) (get_or l 1 0)
  pub third : m₂ ≡ min (d - m₀ - m₁) (get_or l 2 0)
  pub fourth : m₃ ≡ min (d - m₀ - m₁ - m₂) (get_or l 3 0)

takes_four : (d : ℕ) (l : List ℕ) {a b c e : ℕ} → length l ≡ 4 → Four d l a b c e → a ∷ b ∷ c ∷ e ∷ [] ≡ takes d l
unfolding takes
takes_four d [] h f = absurd (omega arith)
takes_four d (w ∷ []) h f = absurd (omega arith)
takes_four d (w ∷ x ∷ []) h f = absurd (omega arith)
takes_four d (w ∷ x ∷ y ∷ []) h f = absurd (omega arith)
takes_four d (w ∷ x ∷ y ∷ z ∷ []) h f = rw (f.fourth, f.third, f.second, f.first)
takes_four d (w ∷ x ∷ y ∷ z ∷ v ∷ l) h f = absurd (omega arith)

leaves_four : (u d : ℕ) (l : List ℕ) {a b c e : ℕ} → length l ≡ 4 → Four d l a b c e → u ∷ (get_or l 0 0 - a) ∷ (get_or l 1 0 - b) ∷ (get_or l 2 0 - c) ∷ [] ≡ take 4 (u ∷ leaves d l)
unfolding leaves
leaves_four u d [] h f = absurd (omega arith)
leaves_four u d (w ∷ []) h f = absurd (omega arith)
leaves_four u d (w ∷ x ∷ []) h f = absurd (omega arith)
leaves_four u d (w ∷ x ∷ y ∷ []) h f = absurd (omega arith)
leaves_four u d (w ∷ x ∷ y ∷ z ∷ []) h f = rw (f.third, f.second, f.first)
leaves_four u d (w ∷ x ∷ y ∷ z ∷ v ∷ l) h f = absurd (omega arith)

four_is : (l : List ℕ) → length l ≡ 4 → l ≡ at l 0 ∷ at l 1 ∷ at l 2 ∷ at l 3 ∷ []
four_is l h = fill_by_all (at l) l 4 0 h (λ k i. refl)

-- what is open after it, where the rise is u and the matches are m
pub record Left (u : ℕ) (l m r : List ℕ) : Type 0 where
  pub rise : at r 0 ≡ u
  pub first : at r 1 ≡ at l 0 - at m 0
  pub second : at r 2 ≡ at l 1 - at m 1
  pub third : at r 3 ≡ at l 2 - at m 2

pub enter_is : (l : Ledger) (b n : ℕ) {m r : List ℕ} → length l.rises ≡ 4 → length m ≡ 4 → length r ≡ 4
    → Four (b - n) l.rises (at m 0) (at m 1) (at m 2) (at m 3) → Left (n - b) l.rises m r
    → ◌≡◌ {A = Matched} (record { matches = m; next = record { rises = r } }) (entered l b n)
unfolding entered
enter_is l b n {m} {r} h k j f q =
    let e = four_is m k ∙ takes_four (b - n) l.rises h f in
    let g = four_is r j ∙ rw (q.rise, q.first, q.second, q.third) (leaves_four (n - b) (b - n) l.rises h f) in
    λ i. record { matches = e i; next = record { rises = g i } }

-- what entering schedule s makes: its matches, and a ledger for the next schedule
pub record Entering (c : List ℕ) (s : ℕ) (m : Matched) : Type 0 where
  pub matching : (r : ℕ) → r < s → get_or m.matches (s - suc r) 0 ≡ matched c s r
  pub holding : s < 4 → Holding c (suc s) m.next

pub entering : (c : List ℕ) (s : ℕ) {l : Ledger} {m : Matched} → Holding c s l → m ≡ entered l (earlier c s) (at c s) → Entering c s m
unfolding entered open_rises matches_of rise fall
entering c s {l} {m} k e =
    record {
      matching =
          λ r h.
          ap (λ (t : Matched). get_or t.matches (s - suc r) 0) e
          ∙ sym (get_or-take s (takes (fall c s) l.rises) (s - suc r) 0 (omega arith))
          ∙ rw (takes_take s (fall c s) l.rises, k.held)
          (sym (matched_in c s r h));
      holding =
          λ h.
          record {
            held =
                ap (λ (t : Matched). take (suc s) t.next.rises) e
                ∙ take-take (suc s) 4 (rise c s ∷ leaves (fall c s) l.rises) (omega arith)
                ∙ rw (leaves_take s (fall c s) l.rises, k.held);
          };
    }

-- before the first schedule nothing is open
pub holding_none : (c : List ℕ) (l : Ledger) → Holding c 0 l
unfolding open_rises
holding_none c l = record { held = refl }

-- the rows of the match table before schedule s, and the ledger there
pub record Filling (c : List ℕ) (s : ℕ) (t : List (List ℕ)) (l : Ledger) (b : ℕ) : Type 0 where
  pub long : length t ≡ 5
  pub held : s < 5 → Holding c s l
  pub last : b ≡ earlier c s
  pub rows : (r : ℕ) → r < s → get_or t r [] ≡ match_row c r

pub filling_none : (c : List ℕ) (t : List (List ℕ)) (l : Ledger) → length t ≡ 5 → Filling c 0 t l 0
unfolding earlier before
filling_none c t l h = record { long = h; held = λ k. holding_none c l; last = refl; rows = λ r k. absurd (omega arith) }

entry : (c : List ℕ) (s r : ℕ) {m : Matched} → Entering c s m → cond (ltb r s) (at m.matches (s - 1 - r)) 0 ≡ matched c s r
entry c s r {m} e =
    elim (dec_lt r s) [
      | yes l ↦ rw (lt-ltb r s l) (ap (λ (n : ℕ). at m.matches n) (omega arith) ∙ e.matching r l)
      | no g ↦ rw (le-ltb r s (omega arith)) (sym (matched_out c s r (omega arith)))
    ]

row_set : (c : List ℕ) (s : ℕ) (t : List (List ℕ)) {w : List ℕ} → s < length t → w ≡ match_row c s → ((r : ℕ) → r < s → get_or t r [] ≡ match_row c r)
    → (r : ℕ) → r < s + 1 → get_or (set t s w) r [] ≡ match_row c r
row_set c s t {w} h e k r l =
    elim (dec_lt r s) [
      | yes p ↦ get_or-set_other t s r w [] (omega arith) ∙ k r p
      | no g ↦ let q : r ≡ s = omega arith in rw q (get_or-set_same t s w [] h ∙ e)
    ]

pub filling_next : (c : List ℕ) (s : ℕ) {t : List (List ℕ)} {l : Ledger} {b : ℕ} {m : Matched} (w : List ℕ)
    → Filling c s t l b → s < 5 → m ≡ entered l b (at c s) → length w ≡ 5
    → ((r : ℕ) → r < 5 → at w r ≡ cond (ltb r s) (at m.matches (s - 1 - r)) 0)
    → Filling c (s + 1) (set t s w) m.next (at c s)
unfolding earlier before match_row
filling_next c s {t} {m = m} w f h e j p =
    let n = entering c s (f.held h) (e ∙ rw f.last refl) in
    record {
      long = length-set t s w ∙ f.long;
      held = λ k. rw (add-one s) (n.holding (omega arith));
      last = rw (add-one s) refl;
      rows = row_set c s t (omega (arith, f.long)) (fill_by_all (matched c s) w 5 0 j (λ r q. p r q ∙ entry c s r n)) f.rows;
    }

pub filled : (c : List ℕ) {t : List (List ℕ)} {l : Ledger} {b : ℕ} → Filling c 5 t l b → t ≡ five (match_row c)
filled c {t} f = fill_by_all (match_row c) t 5 [] f.long f.rows
