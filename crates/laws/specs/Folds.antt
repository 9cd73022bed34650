-- Laws of the folds of `rules`: for each, none (`-none`), one more (`-more`), and what the whole says of a part.
use Rattle.std.specs.Prelude.{ℕ, zero, suc, ◌+◌, ◌*◌, ◌-◌, ◌≤◌, ◌<◌, max, ◌≡◌, refl, List, [], ◌∷◌, ◌++◌, eqb, Bool, true, false, not, ◌||◌, ◌&&◌, length, get_or, ℤ, pos, ◌+ℤ◌}
use Rattle.std.proofs.Common.{add-one, arith, sym, ◌∙◌, ap, eq-eqb, ne_eqb, true≢false, length-append}
use Rattle.std.proofs.Math.Decide.{dec_lt}
use Rattle.std.proofs.lemmas.Bool.{false≢true}
use Rattle.std.proofs.Math.ListN.{get_or-append}
use Rattle.std.proofs.Math.Seq.{get_or-append_seam}
use Rattle.rules.specs.Fold.{refuse, ◌or_else◌, first, sum_to, sum_z, most_to, some_to, all_to, joined, list_to, before, five}

-- refuse and or_else
pub refuse_false : (n : ℕ) → refuse n false ≡ 0
unfolding refuse
refuse_false n = refl

pub refuse_true : (n : ℕ) → refuse n true ≡ n
unfolding refuse
refuse_true n = refl

-- a test of which one part is not met
pub and_no : (t : Bool) → (t && false) ≡ false
and_no true = refl
and_no false = refl

-- a refusal that isn't met: its test is false
pub refuse_zero : (n : ℕ) (t : Bool) → refuse (suc n) t ≡ 0 → t ≡ false
unfolding refuse
refuse_zero n true e = absurd (omega arith)
refuse_zero n false e = refl

pub or_else_zero : (b : ℕ) → 0 or_else b ≡ b
unfolding ◌or_else◌
or_else_zero b = refl

pub or_else_suc : (a b : ℕ) → suc a or_else b ≡ suc a
unfolding ◌or_else◌
or_else_suc a b = refl

-- `a` alone where that is not 0
pub or_else_stop : (a b : ℕ) → 0 < a → a or_else b ≡ a
unfolding ◌or_else◌
or_else_stop zero b h = absurd (omega arith)
or_else_stop (suc a) b h = refl

pub record Both (a b : ℕ) : Type 0 where
  pub left : a ≡ 0
  pub right : b ≡ 0

-- a chain that is 0 is 0 in each part
pub or_else_both : (a b : ℕ) → a or_else b ≡ 0 → Both a b
unfolding ◌or_else◌
or_else_both zero b e = record { left = refl; right = e }
or_else_both (suc a) b e = absurd (omega arith)

pub or_else_none : {a b : ℕ} → a ≡ 0 → b ≡ 0 → a or_else b ≡ 0
or_else_none {a} {b} p q = rw p (or_else_zero b ∙ q)

-- first
pub first_none : (f : ℕ → ℕ) → first f 0 ≡ 0
unfolding first
first_none f = refl

pub first_suc : (f : ℕ → ℕ) (n : ℕ) → first f (suc n) ≡ first f n or_else f n
unfolding first
first_suc f n = refl

pub first_more : (f : ℕ → ℕ) (n : ℕ) → first f n ≡ 0 → f n ≡ 0 → first f (n + 1) ≡ 0
first_more f n p q = rw (add-one, first_suc) (or_else_none p q)

-- the first that isn't 0 stands for the whole
pub first_stop : (f : ℕ → ℕ) (i n : ℕ) → first f i ≡ 0 → i < n → 0 < f i → first f n ≡ f i
first_stop f i zero p h q = absurd (omega arith)
first_stop f i (suc n) p h q =
    let r = first_stop f i n p in
    elim (dec_lt i n) [
      | yes l ↦ rw (first_suc f n, r l q) (or_else_stop (f i) (f n) q)
      | no g ↦ let e : n ≡ i = omega arith in rw (first_suc f n, e, p) (or_else_zero (f i))
    ]

-- a fold that is 0 is 0 at each place
pub first_at : (f : ℕ → ℕ) (n : ℕ) → first f n ≡ 0 → (i : ℕ) → i < n → f i ≡ 0
first_at f zero e i h = absurd (omega arith)
first_at f (suc n) e i h =
    let b = or_else_both (first f n) (f n) (rw first_suc at e) in
    let r = first_at f n b.left i in
    elim (dec_lt i n) [
      | yes l ↦ r l
      | no g ↦ let q : i ≡ n = omega arith in rw q b.right
    ]

-- sums
pub sum_none : (f : ℕ → ℕ) → sum_to 0 f ≡ 0
unfolding sum_to
sum_none f = refl

pub sum_suc : (n : ℕ) (f : ℕ → ℕ) → sum_to (suc n) f ≡ sum_to n f + f n
unfolding sum_to
sum_suc n f = refl

pub sum_more : (n : ℕ) (f : ℕ → ℕ) → sum_to (n + 1) f ≡ sum_to n f + f n
sum_more n f = rw add-one (sum_suc n f)

-- two sums whose terms are in order
pub sum_le : (n : ℕ) (f g : ℕ → ℕ) → ((i : ℕ) → i < n → f i ≤ g i) → sum_to n f ≤ sum_to n g
sum_le zero f g h = rw (sum_none f) (omega arith)
sum_le (suc n) f g h =
    let r = sum_le n f g (λ i l. h i (omega arith)) in
    let e = h n (omega arith) in
    rw (sum_suc n f, sum_suc n g) (omega arith)

-- two sums of equal terms
pub sum_same : (n : ℕ) (f g : ℕ → ℕ) → ((i : ℕ) → i < n → f i ≡ g i) → sum_to n f ≡ sum_to n g
sum_same zero f g h = sum_none f ∙ sym (sum_none g)
sum_same (suc n) f g h =
    let r = sum_same n f g (λ i l. h i (omega arith)) in
    let e = h n (omega arith) in
    rw (sum_suc n f, sum_suc n g, r, e)

-- a sum of terms of at most b
pub sum_most : (n b : ℕ) (f : ℕ → ℕ) → ((i : ℕ) → i < n → f i ≤ b) → sum_to n f ≤ n * b
sum_most zero b f h = rw (sum_none f) (omega arith)
sum_most (suc n) b f h =
    let r = sum_most n b f (λ i l. h i (omega arith)) in
    let e = h n (omega arith) in
    rw (sum_suc n f, native.Mathlib.Nat.suc-mul n b) (omega arith)

-- a term is at most the sum
pub sum_term : (n : ℕ) (f : ℕ → ℕ) (i : ℕ) → i < n → f i ≤ sum_to n f
sum_term zero f i h = absurd (omega arith)
sum_term (suc n) f i h =
    let r = sum_term n f i in
    rw (sum_suc n f)
    (elim (dec_lt i n) [
      | yes l ↦ let e = r l in omega arith
      | no g ↦ let q : i ≡ n = omega arith in rw q (omega arith)
    ])

-- the sum of sums
pub sum_add : (n : ℕ) (f g : ℕ → ℕ) → sum_to n (λ i. f i + g i) ≡ sum_to n f + sum_to n g
unfolding sum_to
sum_add zero f g = refl
sum_add (suc n) f g = let r = sum_add n f g in omega arith

-- signed sums
pub sum_z_none : (f : ℕ → ℤ) → sum_z 0 f ≡ pos 0
unfolding sum_z
sum_z_none f = refl

pub sum_z_suc : (n : ℕ) (f : ℕ → ℤ) → sum_z (suc n) f ≡ sum_z n f +ℤ f n
unfolding sum_z
sum_z_suc n f = refl

-- the greatest
pub most_none : (f : ℕ → ℕ) → most_to 0 f ≡ 0
unfolding most_to
most_none f = refl

pub most_suc : (n : ℕ) (f : ℕ → ℕ) → most_to (suc n) f ≡ max (most_to n f) (f n)
unfolding most_to
most_suc n f = refl

pub most_term : (n : ℕ) (f : ℕ → ℕ) (i : ℕ) → i < n → f i ≤ most_to n f
most_term zero f i h = absurd (omega arith)
most_term (suc n) f i h =
    let r = most_term n f i in
    rw (most_suc n f)
    (elim (dec_lt i n) [
      | yes l ↦ let e = r l in omega arith
      | no g ↦ let q : i ≡ n = omega arith in rw q (omega arith)
    ])

pub most_least : (n b : ℕ) (f : ℕ → ℕ) → ((i : ℕ) → i < n → f i ≤ b) → most_to n f ≤ b
most_least zero b f h = rw (most_none f) (omega arith)
most_least (suc n) b f h =
    let r = most_least n b f (λ i l. h i (omega arith)) in
    let e = h n (omega arith) in
    rw (most_suc n f) (omega arith)

-- whether one holds
pub some_none : (p : ℕ → Bool) → some_to 0 p ≡ false
unfolding some_to
some_none p = refl

pub some_suc : (n : ℕ) (p : ℕ → Bool) → some_to (suc n) p ≡ some_to n p || p n
unfolding some_to
some_suc n p = refl

pub some_same : (n : ℕ) (p q : ℕ → Bool) → ((i : ℕ) → i < n → p i ≡ q i) → some_to n p ≡ some_to n q
some_same zero p q h = some_none p ∙ sym (some_none q)
some_same (suc n) p q h = rw (some_suc n p, some_suc n q, some_same n p q (λ i l. h i (omega arith)), h n (omega arith))

-- whether none holds
or_left : (a b : Bool) → (a || b) ≡ false → a ≡ false
or_left true b e = e
or_left false b e = refl

or_right : (a b : Bool) → (a || b) ≡ false → b ≡ false
or_right true b e = absurd (true≢false e)
or_right false b e = e

pub some_no : (n : ℕ) (p : ℕ → Bool) → some_to n p ≡ false → (i : ℕ) → i < n → p i ≡ false
some_no zero p e i h = absurd (omega arith)
some_no (suc n) p e i h =
    let f : (some_to n p || p n) ≡ false = rw some_suc at e in
    let r = some_no n p (or_left (some_to n p) (p n) f) i in
    elim (dec_lt i n) [
      | yes l ↦ r l
      | no g ↦ let q : i ≡ n = omega arith in rw q (or_right (some_to n p) (p n) f)
    ]

-- whether each holds
all_suc : (n : ℕ) (p : ℕ → Bool) → all_to (suc n) p ≡ (all_to n p && p n)
unfolding all_to
all_suc n p = refl

all_none : (p : ℕ → Bool) → all_to 0 p ≡ true
unfolding all_to
all_none p = refl

and_left : (a b : Bool) → (a && b) ≡ true → a ≡ true
and_left true b e = refl
and_left false b e = absurd (false≢true e)

and_right : (a b : Bool) → (a && b) ≡ true → b ≡ true
and_right true b e = e
and_right false b e = absurd (false≢true e)

pub all_yes : (n : ℕ) (p : ℕ → Bool) → all_to n p ≡ true → (i : ℕ) → i < n → p i ≡ true
all_yes zero p e i h = absurd (omega arith)
all_yes (suc n) p e i h =
    let f : (all_to n p && p n) ≡ true = rw all_suc at e in
    let r = all_yes n p (and_left (all_to n p) (p n) f) i in
    elim (dec_lt i n) [
      | yes l ↦ r l
      | no g ↦ let q : i ≡ n = omega arith in rw q (and_right (all_to n p) (p n) f)
    ]

pub yes_all : (n : ℕ) (p : ℕ → Bool) → ((i : ℕ) → i < n → p i ≡ true) → all_to n p ≡ true
yes_all zero p h = all_none p
yes_all (suc n) p h = rw (all_suc n p, yes_all n p (λ i l. h i (omega arith)), h n (omega arith))

-- lists one after another
pub joined_none : (f : ℕ → List ℕ) → joined 0 f ≡ []
unfolding joined
joined_none f = refl

pub joined_suc : (n : ℕ) (f : ℕ → List ℕ) → joined (suc n) f ≡ joined n f ++ f n
unfolding joined
joined_suc n f = refl

pub joined_more : (n : ℕ) (f : ℕ → List ℕ) → joined (n + 1) f ≡ joined n f ++ f n
joined_more n f = rw add-one (joined_suc n f)

-- n lists of k places each
pub joined_length : (n k : ℕ) (f : ℕ → List ℕ) → ((i : ℕ) → i < n → length (f i) ≡ k) → length (joined n f) ≡ n * k
joined_length zero k f h = rw (joined_none f) (omega arith)
joined_length (suc n) k f h =
    let r = joined_length n k f (λ i l. h i (omega arith)) in
    let e = h n (omega arith) in
    rw (joined_suc n f, length-append, native.Mathlib.Nat.suc-mul n k) (omega arith)

pub list_suc : (n : ℕ) (f : ℕ → ℕ) → list_to (suc n) f ≡ list_to n f ++ (f n ∷ [])
unfolding list_to
list_suc n f = refl

pub list_length : (n : ℕ) (f : ℕ → ℕ) → length (list_to n f) ≡ n
unfolding list_to
list_length zero f = refl
list_length (suc n) f = let r = list_length n f in rw length-append (omega arith)

pub list_at : (n : ℕ) (f : ℕ → ℕ) (i : ℕ) → i < n → get_or (list_to n f) i 0 ≡ f i
list_at zero f i h = absurd (omega arith)
list_at (suc n) f i h =
    let r = list_at n f i in
    let len = list_length n f in
    rw (list_suc n f)
    (elim (dec_lt i n) [
      | yes l ↦ get_or-append (list_to n f) (f n ∷ []) 0 i (omega arith) ∙ r l
      | no g ↦
          let q : i ≡ length (list_to n f) = omega arith in
          let e : f i ≡ f n = ap f (omega arith) in
          rw q (get_or-append_seam (list_to n f) (f n) [] 0) ∙ sym e
    ])

-- a chain of refusals, test by test: the first that is met, and one that is passed
pub stops : (n : ℕ) (t : Bool) (b : ℕ) → t ≡ true → suc n ≡ refuse (suc n) t or_else b
unfolding refuse ◌or_else◌
stops n true b e = refl
stops n false b e = absurd (false≢true e)

pub passes : (n : ℕ) (t : Bool) (b r : ℕ) → t ≡ false → r ≡ b → r ≡ refuse n t or_else b
unfolding refuse ◌or_else◌
passes n true b r e h = absurd (true≢false e)
passes n false b r e h = h

pub ends_at : (n : ℕ) (t : Bool) → t ≡ true → n ≡ refuse n t
unfolding refuse
ends_at n true e = refl
ends_at n false e = absurd (false≢true e)

pub none_at : (n : ℕ) (t : Bool) → t ≡ false → 0 ≡ refuse n t
unfolding refuse
none_at n true e = absurd (true≢false e)
none_at n false e = refl

-- a part of a chain that was worked out: its number where that isn't 0, else what follows
pub part_stops : (a b r : ℕ) → r ≡ a → (r ≡ 0 → ⊥) → r ≡ a or_else b
unfolding ◌or_else◌
part_stops zero b r e h = absurd (h e)
part_stops (suc a) b r e h = e

pub part_passes : (a b r x : ℕ) → x ≡ a → x ≡ 0 → r ≡ b → r ≡ a or_else b
unfolding ◌or_else◌
part_passes zero b r x e z h = h
part_passes (suc a) b r x e z h = absurd (omega arith)

pub or_else_assoc : (a b c : ℕ) → (a or_else b) or_else c ≡ a or_else (b or_else c)
unfolding ◌or_else◌
or_else_assoc zero b c = refl
or_else_assoc (suc a) b c = refl

-- a loop over a fold: it begins, goes on past a place that is 0, stops at one that isn't, and ends
pub fold_begins : (f : ℕ → ℕ) (n i : ℕ) → i ≡ 0 → (i ≤ n) × (first f i ≡ 0)
fold_begins f n i e = (omega arith, rw e (first_none f))

pub fold_goes : (f : ℕ → ℕ) (n i x : ℕ) → first f i ≡ 0 → i < n → x ≡ f i → x ≡ 0 → (i + 1 ≤ n) × (first f (i + 1) ≡ 0)
fold_goes f n i x p h e z = (omega arith, first_more f i p (sym e ∙ z))

pub fold_stops : (f : ℕ → ℕ) (n i x : ℕ) → first f i ≡ 0 → i < n → x ≡ f i → (x ≡ 0 → ⊥) → x ≡ first f n
fold_stops f n i x p h e z = e ∙ sym (first_stop f i n p h (omega arith))

pub fold_ends : (f : ℕ → ℕ) (n i : ℕ) → first f i ≡ 0 → i ≤ n → n ≤ i → 0 ≡ first f n
fold_ends f n i p h l = let e : i ≡ n = omega arith in sym (rw e at p)

pub at_five : {A : Type 0} (f : ℕ → A) (d : A) (s : ℕ) → s < 5 → get_or (five f) s d ≡ f s
at_five f d zero h = refl
at_five f d (suc zero) h = refl
at_five f d (suc (suc zero)) h = refl
at_five f d (suc (suc (suc zero))) h = refl
at_five f d (suc (suc (suc (suc zero)))) h = refl
at_five f d (suc (suc (suc (suc (suc s))))) h = absurd (omega arith)

-- five terms
pub sum_five : (f : ℕ → ℕ) → sum_to 5 f ≡ f 0 + f 1 + f 2 + f 3 + f 4
unfolding sum_to
sum_five f = omega arith

pub first_same : (n : ℕ) (f g : ℕ → ℕ) → ((i : ℕ) → i < n → f i ≡ g i) → first f n ≡ first g n
first_same zero f g h = first_none f ∙ sym (first_none g)
first_same (suc n) f g h =
    let r = first_same n f g (λ i l. h i (omega arith)) in
    let e = h n (omega arith) in
    rw (first_suc f n, first_suc g n, r, e)

-- five places, place by place
pub same_five : {A : Type 0} {a b c d e a' b' c' d' e' : A}
    → a ≡ a' → b ≡ b' → c ≡ c' → d ≡ d' → e ≡ e'
    → a ∷ b ∷ c ∷ d ∷ e ∷ [] ≡ a' ∷ b' ∷ c' ∷ d' ∷ e' ∷ []
same_five p q r s t = cc

-- what stands before a later place
pub before_later : (f : ℕ → ℕ) (j : ℕ) → (j ≡ 0 → ⊥) → f (j - 1) ≡ before f j
unfolding before
before_later f zero h = absurd (h refl)
before_later f (suc j) h = ap f (omega arith)

pub before_first : (f : ℕ → ℕ) (j : ℕ) → j ≡ 0 → 0 ≡ before f j
unfolding before
before_first f zero h = refl
before_first f (suc j) h = absurd (omega arith)

-- the greatest of strictly rising numbers is the last
pub most_rising : (f : ℕ → ℕ) (m : ℕ) → ((j : ℕ) → j < suc m → before f j < f j) → most_to (suc m) f ≡ f m
unfolding before
most_rising f zero h = rw (most_suc zero f, most_none f) (omega arith)
most_rising f (suc m) h =
    let r = most_rising f m (λ j l. h j (omega arith)) in
    let g = h (suc m) (omega arith) in
    rw (most_suc (suc m) f, r) (omega arith)

pub all_passed : (f : ℕ → ℕ) (n i : ℕ) → first f i ≡ 0 → i ≤ n → n ≤ i → first f n ≡ 0
all_passed f n i p h l = sym (fold_ends f n i p h l)

-- the test of two numbers that differ, and of two that agree
pub not_eq : (a b : ℕ) → (a ≡ b → ⊥) → not (eqb a b) ≡ true
not_eq a b h = rw (ne_eqb a b h)

pub not_ne : (a b : ℕ) → a ≡ b → not (eqb a b) ≡ false
not_ne a b h = rw (eq-eqb a b h)
