-- Folds of equal terms, and chains of refusals whose parts are equal as long as none is met.
use Rattle.std.specs.Prelude.{ℕ, zero, suc, ◌+◌, ◌≤◌, ◌<◌, max, ◌≡◌, refl, [], ◌∷◌, ◌++◌, Bool, true, false, cond, leb, pos, ◌+ℤ◌}
use Rattle.std.proofs.Common.{arith, sym, ◌∙◌, ap}
use Rattle.rules.specs.Fold.{◌or_else◌, first, sum_z, most_to, joined, list_to}
use Rattle.rules.specs.Steps.{step_from}
use Rattle.laws.specs.Folds.{or_else_zero, or_else_suc, first_same, sum_z_none, sum_z_suc, most_none, most_suc, joined_none, joined_suc, list_suc}

-- folds of which the terms below the count decide what they give
abbrev pub Decided : {A C : Type 0} → (ℕ → (ℕ → A) → C) → Type 0
Decided {A} {C} fold = (n : ℕ) (f g : ℕ → A) → ((i : ℕ) → i < n → f i ≡ g i) → fold n f ≡ fold n g

fold_same : {A C : Type 0} (fold : ℕ → (ℕ → A) → C) (none : C) (more : C → A → C)
    → ((f : ℕ → A) → fold 0 f ≡ none) → ((n : ℕ) (f : ℕ → A) → fold (suc n) f ≡ more (fold n f) (f n)) → Decided fold
fold_same fold none more p q zero f g h = p f ∙ sym (p g)
fold_same fold none more p q (suc n) f g h =
    let r = fold_same fold none more p q n f g (λ i l. h i (omega arith)) in
    let e = h n (omega arith) in
    q n f ∙ (λ i. more (r i) (e i)) ∙ sym (q n g)

pub most_same : Decided most_to
most_same = fold_same most_to 0 max most_none most_suc

pub sum_z_same : Decided sum_z
sum_z_same = fold_same sum_z (pos 0) ◌+ℤ◌ sum_z_none sum_z_suc

pub joined_same : Decided joined
joined_same = fold_same joined [] ◌++◌ joined_none joined_suc

list_none : (f : ℕ → ℕ) → list_to 0 f ≡ []
unfolding list_to
list_none f = refl

pub list_same : Decided list_to
list_same = fold_same list_to [] (λ l x. l ++ (x ∷ [])) list_none list_suc

-- with the counts equal too
pub counted : {A C : Type 0} (fold : ℕ → (ℕ → A) → C) → Decided fold → {m n : ℕ} → m ≡ n → (f g : ℕ → A) → ((i : ℕ) → i < n → f i ≡ g i) → fold m f ≡ fold n g
counted fold same {m} {n} e f g h = ap (λ (c : ℕ). fold c f) e ∙ same n f g h

pub first_counted : {m n : ℕ} → m ≡ n → (f g : ℕ → ℕ) → ((i : ℕ) → i < n → f i ≡ g i) → first f m ≡ first g n
first_counted = counted (λ n f. first f n) first_same

-- the rest of a chain is asked only where what stands before it is 0
pub or_else_same : {a b x y : ℕ} → a ≡ b → (b ≡ 0 → x ≡ y) → a or_else x ≡ b or_else y
or_else_same {a} {b} {x} {y} e h = ap (λ (c : ℕ). c or_else x) e ∙ rest b h
  where
    rest : (b : ℕ) → (b ≡ 0 → x ≡ y) → b or_else x ≡ b or_else y
    rest zero h = or_else_zero x ∙ h refl ∙ sym (or_else_zero y)
    rest (suc b) h = or_else_suc b x ∙ sym (or_else_suc b y)

-- the first bid step from j on, of m: the breaks below j + m decide it, and it is at most j + m
pub step_same : (f g : ℕ → ℕ) (u j m : ℕ) → ((i : ℕ) → i < j + m → f i ≡ g i) → step_from f u j m ≡ step_from g u j m
unfolding step_from
step_same f g u j zero h = refl
step_same f g u j (suc m) h =
    let e = h j (omega arith) in
    let r = step_same f g u (suc j) m (λ i l. h i (omega arith)) in
    λ i. cond (leb u (e i)) j (r i)

-- a choice, whose first part is read only where the test holds
pub cond_same : {A : Type 0} {p q : Bool} {x y m n : A} → p ≡ q → (q ≡ true → x ≡ y) → m ≡ n → cond p x m ≡ cond q y n
cond_same {A} {p} {q} {x} {y} {m} {n} e f g = ap (λ (t : Bool). cond t x m) e ∙ parts q f
  where
    parts : (q : Bool) → (q ≡ true → x ≡ y) → cond q x m ≡ cond q y n
    parts true f = f refl
    parts false f = g

-- what bounds both parts of a choice
pub cond_most : (t : Bool) (a b m : ℕ) → a ≤ m → b ≤ m → cond t a b ≤ m
cond_most true a b m p q = p
cond_most false a b m p q = q

pub step_most : (f : ℕ → ℕ) (u j m : ℕ) → step_from f u j m ≤ j + m
unfolding step_from
step_most f u j zero = omega arith
step_most f u j (suc m) =
    let r = step_most f u (suc j) m in
    cond_most (leb u (f j)) j (step_from f u (suc j) m) (j + suc m) (omega arith) (omega arith)
