-- The open rises of a step, each at a rate of the schedule where it rose: how a schedule changes what they are worth.
use Rattle.std.specs.Prelude.{ℕ, suc, ◌+◌, ◌*◌, ◌-◌, ◌≤◌, ◌<◌, ◌≡◌, List, get_or}
use Rattle.std.proofs.Common.{zero-mul, add-mul, arith, sym, ◌∙◌, ap}
use Rattle.rules.specs.Fold.{sum_to}
use Rattle.rules.specs.Matching.{rise, fall, open_rises, matched}
use Rattle.laws.specs.Folds.{sum_none, sum_suc, sum_same, sum_most, sum_term, sum_add}
use Rattle.step_matching.specs.Balance.{matched_with, none_before, rise_kept, falls_matched, rises_bound}

-- what is left before schedule n of the rise of r: U(r) less what the schedules before n took of it
unfoldable pub open_before : List ℕ → ℕ → ℕ → ℕ
open_before c n r = rise c r - sum_to n (matched_with c r)

-- it is the open rise that the matching of schedule n finds
pub open_found : (c : List ℕ) (n r : ℕ) → r < n → get_or (open_rises c n) (n - suc r) 0 ≡ open_before c n r
unfolding open_before
open_found c n r h = omega (arith, rise_kept c n r h)

-- at rates: what is left of all rises, and what schedule s takes of those before it
unfoldable pub open_at : List ℕ → (ℕ → ℕ) → ℕ → ℕ → ℕ
open_at c f n r = open_before c n r * f r

abbrev pub taken_at : List ℕ → (ℕ → ℕ) → ℕ → ℕ → ℕ
taken_at c f s r = matched c s r * f r

unfoldable pub open_value : List ℕ → (ℕ → ℕ) → ℕ → ℕ
open_value c f n = sum_to n (open_at c f n)

unfoldable pub taken_value : List ℕ → (ℕ → ℕ) → ℕ → ℕ
taken_value c f s = sum_to s (taken_at c f s)

-- of one earlier rise: what schedule n leaves and what it takes
left_taken : (c : List ℕ) (f : ℕ → ℕ) (n r : ℕ) → open_at c f (suc n) r + matched c n r * f r ≡ open_at c f n r
unfolding open_at open_before matched_with
left_taken c f n r =
    let b = rises_bound c (suc n) r in
    let e = sum_suc n (matched_with c r) in
    sym (add-mul (rise c r - sum_to (suc n) (matched_with c r)) (matched c n r) (f r))
    ∙ ap (λ (q : ℕ). q * f r) (omega arith)

-- the schedule's own rise is whole after it
own_whole : (c : List ℕ) (f : ℕ → ℕ) (n : ℕ) → open_at c f (suc n) n ≡ rise c n * f n
unfolding open_at open_before
own_whole c f n = ap (λ (q : ℕ). q * f n) (omega (arith, none_before c n (suc n) (omega arith)))

-- before the first schedule nothing is open
pub open_none : (c : List ℕ) (f : ℕ → ℕ) → open_value c f 0 ≡ 0
unfolding open_value
open_none c f = sum_none (open_at c f 0)

-- a schedule adds its rise at its own rate and takes from each earlier one at that one's
pub open_next : (c : List ℕ) (f : ℕ → ℕ) (n : ℕ) → open_value c f (suc n) + taken_value c f n ≡ open_value c f n + rise c n * f n
unfolding open_value taken_value
open_next c f n =
    let a = sum_add n (open_at c f (suc n)) (taken_at c f n) in
    let s = sum_same n (λ r. open_at c f (suc n) r + taken_at c f n r) (open_at c f n) (λ r l. left_taken c f n r) in
    omega (arith, sum_suc n (open_at c f (suc n)), own_whole c f n, a, s)

-- where nothing falls, nothing is taken
none_taken : (c : List ℕ) (f : ℕ → ℕ) (s r : ℕ) → fall c s ≡ 0 → r < s → matched c s r * f r ≤ 0
none_taken c f s r e l =
    let z : matched c s r ≡ 0 = omega (arith, sum_term s (matched c s) r l, falls_matched c s) in
    rw z (omega (arith, zero-mul (f r)))

pub taken_none : (c : List ℕ) (f : ℕ → ℕ) (s : ℕ) → fall c s ≡ 0 → taken_value c f s ≡ 0
unfolding taken_value
taken_none c f s e = omega (arith, sum_most s 0 (taken_at c f s) (λ r l. none_taken c f s r e l))
