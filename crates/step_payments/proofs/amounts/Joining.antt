-- What the code's rows of five come to, by the definitions of `rules`.
use Prim.Native.Nat.{ℕ, zero, suc, ◌*◌, ◌≤◌, ◌<◌, ◌^◌}
use native.Mathlib.Nat.{zero-mul}
use native.Mathlib.Decide.{dec_lt}
use native.Mathlib.Omega.{arith}
use mathlib.Core.Path.{◌≡◌, refl, sym, ◌∙◌}
use mathlib.Core.Bool.{cond, ◌||◌}
use mathlib.Core.List.{List, []}
use lib.Dec.{eqb}
use lib.ListN.{get_or, length}
use borrow.Author.Tests.{ne_eqb}
use Rattle.rules.specs.Fold.{sum_to, five, at}
use Rattle.rules.specs.Layout.{quantity_most, price_most}
use Rattle.rules.specs.Matching.{rise, fall, matched}
use Rattle.rules.specs.Payments.{on_step, rate, revised_rate, is_paid, initial, revised, modified, given_back}
use Rattle.rules.specs.declared.Step.{Step}
use Rattle.laws.specs.Folds.{sum_suc, sum_same, at_five}
use Rattle.laws.specs.Ints.{pl, mi}
use Rattle.std.proofs.lemmas.List.FromFn.{fill_by_all}
use Rattle.numbers.specs.Fives.{five_is, five_same}
use Rattle.step_matching.specs.Ledgers.{match_row}
use Rattle.step_matching.specs.Balance.{matched_out}
use Rattle.step_payments.specs.Sizes.{Sized, matched_at, rate_most, revised_rate-most, fall_most, given_back_most}
use Rattle.step_payments.specs.Parts.{change_on, initial_plus, initial_minus, revised_plus, revised_taken_lem, modified_plus, modified_minus}
use Rattle.step_payments.specs.Kinds.{revised_first, modified_first}
use Rattle.step_payments.specs.Amounts.{given_at, RevisedFits, revised_given, revised_in, plus_of, minus_of}
use Rattle.step_changes.specs.Changes.{only_paid, product_in, revised_at}

-- a row of five by its places
pub row_five : (f : ℕ → ℕ) (w : List ℕ) → length w ≡ 5 → at w 0 ≡ f 0 → at w 1 ≡ f 1 → at w 2 ≡ f 2 → at w 3 ≡ f 3 → at w 4 ≡ f 4 → w ≡ five f
row_five f w h a b c d e = fill_by_all (at w) w 5 0 h (λ k l. refl) ∙ five_is f a b c d e

-- a sum whose terms from s on are 0
sum_cut : (s n : ℕ) (f : ℕ → ℕ) → ((r : ℕ) → s ≤ r → f r ≡ 0) → s ≤ n → sum_to n f ≡ sum_to s f
sum_cut s zero f h k = let e : s ≡ 0 = omega arith in rw e
sum_cut s (suc n) f h k =
    let r = sum_cut s n f h in
    elim (dec_lt n s) [
      | yes l ↦ let e : s ≡ suc n = omega arith in rw e
      | no g ↦ sum_suc n f ∙ omega (arith, h n (omega arith), r (omega arith))
    ]

-- what the matches of schedule s give back
pub given_is : (x : Step) (s : ℕ) (f : ℕ → ℕ) → s < 5 → {m r : List ℕ} → m ≡ match_row (on_step x) s → r ≡ five f → given_at m r ≡ given_back x s f
unfolding match_row given_at product_in given_back
given_is x s f h p q =
    rw (p, q)
    (sum_same 4 (product_in (five (matched (on_step x) s)) (five f)) (matched_at x s f)
    (λ r k. rw (at_five (matched (on_step x) s) 0 r (omega arith), at_five f 0 r (omega arith)))
    ∙ sum_cut s 4 (matched_at x s f)
    (λ r k. rw (matched_out (on_step x) s r k) (zero-mul (f r)))
    (omega arith))

pub given_most : (x : Step) (s : ℕ) (f : ℕ → ℕ) → Sized x → ((i : ℕ) → f i ≤ price_most) → given_back x s f ≤ quantity_most * price_most
given_most x s f z k = omega (arith, given_back_most x s price_most f k, fall_most x s, z.upper)

pub given_fits : (x : Step) (s : ℕ) (f : ℕ → ℕ) → s < 5 → {m r : List ℕ} → m ≡ match_row (on_step x) s → r ≡ five f → Sized x → ((i : ℕ) → f i ≤ price_most) → given_at m r < 2 ^ 64
given_fits x s f h p q z k = rw (given_is x s f h p q) (omega (arith, given_most x s f z k))

pub revised_rate_most : (x : Step) (s : ℕ) → Sized x → (r : ℕ) → revised_rate x s r ≤ price_most
revised_rate_most x s z r = omega (arith, revised_rate-most x s r, rate_most x s z)

-- an entry of what revised and modified take back
module _ (x : Step) (s : ℕ) (h : s < 5) {m r : List ℕ} {i g : ℕ} where
  pub revised_entry : m ≡ match_row (on_step x) s → r ≡ five (revised_rate x s) → i ≡ minus_of (initial x) s → g ≡ cond (eqb i 0) 0 (given_at m r) → g ≡ minus_of (revised x) s
  unfolding minus_of
  revised_entry p q w e = e ∙ rw (given_is x s (revised_rate x s) h p q, w) (sym (revised_taken_lem x s))

  pub modified_entry : m ≡ match_row (on_step x) s → r ≡ five (rate x) → i ≡ minus_of (initial x) s → g ≡ cond (eqb i 0) 0 (given_at m r) → g ≡ minus_of (modified x) s
  unfolding minus_of
  modified_entry p q w e = e ∙ rw (given_is x s (rate x) h p q, w) (sym (modified_minus x s))

pub revised_entry_first : (x : Step) → 0 ≡ minus_of (revised x) 0
unfolding minus_of
revised_entry_first x = sym (revised_first x)

-- the row of what revised takes back, from the step's side, prices and market prices
module _ (x : Step) {c : List ℕ} {t : List (List ℕ)} (p : c ≡ on_step x) (e : t ≡ five (match_row c)) where
  pub row_is : (s : ℕ) → s < 5 → get_or t s [] ≡ match_row (on_step x) s
  row_is s h = rw (e, ← p) (at_five (match_row c) [] s h)

  pub revised_fits : Sized x → RevisedFits x.side x.price x.market t
  unfolding revised_given revised_rate revised_at
  revised_fits z = record { fits = λ s h. given_fits x s (revised_rate x s) h (row_is s h) refl z (revised_rate_most x s z) }

  revised_in_lem : {i : List ℕ} → i ≡ five (minus_of (initial x)) → (s : ℕ) → s < 5 → revised_in x.side x.price x.market t i s ≡ minus_of (revised x) s
  unfolding revised_in revised_given revised_rate revised_at
  revised_in_lem w zero h = revised_entry_first x
  revised_in_lem {i} w (suc s) h =
      let e : at i (suc s) ≡ minus_of (initial x) (suc s) = rw w (at_five (minus_of (initial x)) 0 (suc s) h) in
      rw (ne_eqb (suc s) 0 (λ q. omega arith)) (revised_entry x (suc s) h (row_is (suc s) h) refl e refl)

  pub revised_row : {i r : List ℕ} → i ≡ five (minus_of (initial x)) → r ≡ five (revised_in x.side x.price x.market t i) → r ≡ five (minus_of (revised x))
  revised_row {i} w q = q ∙ five_same (revised_in x.side x.price x.market t i) (minus_of (revised x)) (revised_in_lem w)

pub modified_entry_first : (x : Step) → 0 ≡ minus_of (modified x) 0
unfolding minus_of
modified_entry_first x = sym (modified_first x)

-- what modified takes back, from the match table, the rates and what the initial payments take back
pub modified_row : (x : Step) {t : List (List ℕ)} {r i : List ℕ} → t ≡ five (match_row (on_step x)) → r ≡ five (rate x) → i ≡ five (minus_of (initial x))
    → (s : ℕ) → s < 5 → {g : ℕ} → g ≡ cond (eqb s 0 || eqb (at i s) 0) 0 (given_at (get_or t s []) r) → g ≡ minus_of (modified x) s
modified_row x e f w zero h q = q ∙ modified_entry_first x
modified_row x {i = i} e f w (suc s) h q =
    let p : at i (suc s) ≡ minus_of (initial x) (suc s) = rw w (at_five (minus_of (initial x)) 0 (suc s) h) in
    modified_entry x (suc s) h (row_is x refl e (suc s) h) f p (q ∙ rw (ne_eqb (suc s) 0 (λ z. omega arith)) refl)

-- the rises or the falls of a paid step
pub change_row : (x : Step) (change : List ℕ → ℕ → ℕ) {c q u : List ℕ} → c ≡ on_step x → q ≡ five (change c) → u ≡ five (only_paid x.paid q) → u ≡ five (change_on change x)
unfolding only_paid change_on is_paid
change_row x change p q e = rw (e, q, p)

-- what initial pays and takes back
pub plus_row : (x : Step) {u r p : List ℕ} → u ≡ five (change_on rise x) → r ≡ five (rate x) → p ≡ five (product_in u r) → p ≡ five (plus_of (initial x))
unfolding product_in plus_of
plus_row x e f g =
    rw (g, e, f)
    (five_same (λ s. change_on rise x s * rate x s) (λ s. pl (initial x s)) (λ s h. sym (initial_plus x s)))

pub minus_row : (x : Step) {u r p : List ℕ} → u ≡ five (change_on fall x) → r ≡ five (rate x) → p ≡ five (product_in u r) → p ≡ five (minus_of (initial x))
unfolding product_in minus_of
minus_row x e f g =
    rw (g, e, f)
    (five_same (λ s. change_on fall x s * rate x s) (λ s. mi (initial x s)) (λ s h. sym (initial_minus x s)))

-- what revised and modified pay
pub revised_pays : (x : Step) → five (plus_of (initial x)) ≡ five (plus_of (revised x))
unfolding plus_of
revised_pays x = five_same (plus_of (initial x)) (plus_of (revised x)) (λ s h. sym (revised_plus x s))

pub modified_pays : (x : Step) → five (plus_of (initial x)) ≡ five (plus_of (modified x))
unfolding plus_of
modified_pays x = five_same (plus_of (initial x)) (plus_of (modified x)) (λ s h. sym (modified_plus x s))
