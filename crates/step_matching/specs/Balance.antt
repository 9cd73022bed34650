-- Document 01's statements on the matches, for any number of schedules, and its own sentence for m(r, s). The open rises
-- before a schedule add up to C of the one before; all else follows from that.
use Rattle.std.specs.Prelude.{ℕ, zero, suc, ◌+◌, ◌-◌, ◌≤◌, ◌<◌, min, ◌≡◌, refl, List, [], ◌∷◌, length, get_or, take}
use Rattle.std.proofs.Common.{arith, add-zero, add-suc, sym, ◌∙◌, ap, get_or-take, length-take-le, lt-ltb, le-ltb}
use Rattle.std.proofs.Math.Decide.{dec_lt}
use Rattle.rules.specs.Fold.{sum_to, sum_of, at, before}
use Rattle.rules.specs.Matching.{earlier, rise, fall, leaves, open_rises, matches_of, matched}
use Rattle.laws.specs.Folds.{sum_none, sum_suc, sum_most}
use Rattle.step_matching.specs.Takings.{takes_length, leaves_length, takes_sum, leaves_sum, taken_left, takes_at}

-- as many rises are open before schedule s as there are schedules before it
pub open_length : (c : List ℕ) (s : ℕ) → length (open_rises c s) ≡ s
unfolding open_rises
open_length c zero = refl
open_length c (suc s) = ap suc (leaves_length (fall c s) (open_rises c s) ∙ open_length c s)

matches_length : (c : List ℕ) (s : ℕ) → length (matches_of c s) ≡ s
unfolding matches_of
matches_length c s = takes_length (fall c s) (open_rises c s) ∙ open_length c s

-- the open rises add up to C(s-1)
pub open_sum : (c : List ℕ) (s : ℕ) → sum_of (open_rises c s) ≡ earlier c s
unfolding open_rises sum_of earlier before rise fall
open_sum c zero = refl
open_sum c (suc s) =
    let r = open_sum c s in
    let l = leaves_sum (fall c s) (open_rises c s) (omega arith) in
    omega arith

-- m(r, s) where r is before s, and 0 elsewhere
pub matched_in : (c : List ℕ) (s r : ℕ) → r < s → matched c s r ≡ get_or (matches_of c s) (s - suc r) 0
unfolding matched
matched_in c s r h = rw (lt-ltb r s h)

pub matched_out : (c : List ℕ) (s r : ℕ) → s ≤ r → matched c s r ≡ 0
unfolding matched
matched_out c s r h = rw (le-ltb r s h)

-- equal places of a list
place : (l : List ℕ) (i j : ℕ) → i ≡ j → get_or l i 0 ≡ get_or l j 0
place l i j e = ap (λ (k : ℕ). get_or l k 0) e

-- a list added up from its end
sum_back : (n : ℕ) (l : List ℕ) (f : ℕ → ℕ) → length l ≡ n → ((r : ℕ) → r < n → f r ≡ get_or l (n - suc r) 0) → sum_to n f ≡ sum_of l
unfolding sum_of
sum_back zero [] f e h = sum_none f
sum_back zero (x ∷ l) f e h = absurd (omega arith)
sum_back (suc n) [] f e h = absurd (omega arith)
sum_back (suc n) (x ∷ l) f e h =
    let r =
    sum_back n l f (omega arith)
    (λ i k. h i (omega arith) ∙ place (x ∷ l) (suc n - suc i) (suc (n - suc i)) (omega arith)) in
    let t = h n (omega arith) ∙ place (x ∷ l) (suc n - suc n) 0 (omega arith) in
    rw (sum_suc n f, r, t) (omega arith)

-- "for every s, the sum of m(r, s) over all r below s is D(s)"
pub falls_matched : (c : List ℕ) (s : ℕ) → sum_to s (matched c s) ≡ fall c s
unfolding matches_of fall
falls_matched c s =
    sum_back s (matches_of c s) (matched c s) (matches_length c s) (λ r h. matched_in c s r h)
    ∙ takes_sum (fall c s) (open_rises c s) (omega (arith, open_sum c s))

-- m(r, s) as s goes
unfoldable pub matched_with : List ℕ → ℕ → ℕ → ℕ
matched_with c r s = matched c s r

pub none_before : (c : List ℕ) (r n : ℕ) → n ≤ suc r → sum_to n (matched_with c r) ≡ 0
unfolding matched_with
none_before c r n h = omega (arith, sum_most n 0 (matched_with c r) (λ t l. omega (arith, matched_out c t r (omega arith))))

-- what is still open of a rise before s, and what schedules before s took of it
pub rise_kept : (c : List ℕ) (s r : ℕ) → r < s → get_or (open_rises c s) (s - suc r) 0 + sum_to s (matched_with c r) ≡ rise c r
unfolding matched_with matches_of open_rises
rise_kept c zero r h = absurd (omega arith)
rise_kept c (suc s) r h =
    let k = rise_kept c s r in
    let us = rise c s ∷ leaves (fall c s) (open_rises c s) in
    elim (dec_lt r s) [
      | yes l ↦
          let p = place us (suc s - suc r) (suc (s - suc r)) (omega arith) in
          omega (
            arith,
            p,
            k l,
            sum_suc s (matched_with c r),
            matched_in c s r l,
            taken_left (fall c s) (open_rises c s) (s - suc r),
          )
      | no g ↦
          let e : r ≡ s = omega arith in
          let p = place us (suc s - suc r) 0 (omega arith) in
          rw (p, none_before c r (suc s) (omega arith), e) (add-zero (rise c s))
    ]

-- "for every r, the sum of m(r, s) over all s above r is at most U(r)", of any n schedules
pub rises_bound : (c : List ℕ) (n r : ℕ) → sum_to n (matched_with c r) ≤ rise c r
rises_bound c n r =
    elim (dec_lt r n) [
      | yes l ↦ omega (arith, rise_kept c n r l)
      | no g ↦ omega (arith, none_before c r n (omega arith))
    ]

-- all matches made in schedule s
unfoldable pub matches_in : List ℕ → ℕ → ℕ
matches_in c s = sum_to s (matched c s)

-- "for every s, the sum of U(1) to U(s), less all matches made in schedules up to s, is C(s)"
pub rises_balance : (c : List ℕ) (s : ℕ) → sum_to (suc s) (rise c) ≡ at c s + sum_to (suc s) (matches_in c)
unfolding matches_in rise fall earlier before
rises_balance c zero =
    omega (
      arith,
      sum_suc 0 (rise c),
      sum_suc 0 (matches_in c),
      sum_none (rise c),
      sum_none (matches_in c),
      falls_matched c 0,
    )
rises_balance c (suc s) =
    omega (
      arith,
      rises_balance c s,
      sum_suc (suc s) (rise c),
      sum_suc (suc s) (matches_in c),
      falls_matched c (suc s),
    )

pub rises_less_matches : (c : List ℕ) (s : ℕ) → sum_to (suc s) (rise c) - sum_to (suc s) (matches_in c) ≡ at c s
rises_less_matches c s = omega (arith, rises_balance c s)

-- f (r + 1) + .. + f (s - 1)
unfoldable pub sum_between : ℕ → ℕ → (ℕ → ℕ) → ℕ
sum_between r s f = sum_to (s - suc r) (λ i. f (suc r + i))

sum_from : (k n : ℕ) (f : ℕ → ℕ) → sum_to (k + n) f ≡ sum_to k f + sum_to n (λ i. f (k + i))
unfolding sum_to
sum_from k zero f = rw (add-zero k) (sym (add-zero (sum_to k f)))
sum_from k (suc n) f = let r = sum_from k n f in rw add-suc (omega arith)

-- what schedules before s took of the rise of r
took_before : (c : List ℕ) (s r : ℕ) → r < s → sum_to s (matched_with c r) ≡ sum_between r s (matched_with c r)
unfolding sum_between
took_before c s r h =
    let e : suc r + (s - suc r) ≡ s = omega arith in
    let f = sum_from (suc r) (s - suc r) (matched_with c r) in
    omega (arith, none_before c r (suc r) (omega arith), rw e at f)

-- the matches of s already made with later rises
made_later : (c : List ℕ) (s r : ℕ) → r < s → sum_between r s (matched c s) ≡ sum_of (take (s - suc r) (matches_of c s))
unfolding sum_between
made_later c s r h =
    sum_back (s - suc r) (take (s - suc r) (matches_of c s)) (λ i. matched c s (suc r + i))
    (length-take-le (s - suc r) (matches_of c s) (omega (arith, matches_length c s)))
    (λ i k.
    matched_in c s (suc r + i) (omega arith)
    ∙ place (matches_of c s) (s - suc (suc r + i)) (s - suc r - suc i) (omega arith)
    ∙ sym (get_or-take (s - suc r) (matches_of c s) (s - suc r - suc i) 0 (omega arith)))

-- "the match m(r, s) is the lesser of D(s) less matches of s already made with later rises, and U(r) less what schedules
-- before s took of it"
pub matched_is : (c : List ℕ) (s r : ℕ) → r < s → matched c s r ≡ min (fall c s - sum_between r s (matched c s)) (rise c r - sum_between r s (matched_with c r))
unfolding matches_of
matched_is c s r h =
    omega (
      arith,
      matched_in c s r h,
      takes_at (fall c s) (open_rises c s) (s - suc r) (omega (arith, open_length c s)),
      made_later c s r h,
      took_before c s r h,
      rise_kept c s r h,
    )
