-- Laws of rising lists and of what stands in a list: `insert` and `rising` of `rules`.
use Rattle.std.specs.Prelude.{ℕ, zero, suc, ◌≤◌, ◌<◌, ◌≡◌, refl, ◌⊎◌, List, [], ◌∷◌, ◌++◌, length, get_or}
use Rattle.std.proofs.Common.{arith, sym, ap, subst, inl, inr, ⊎_elim, lt-ltb, le-ltb, eq-eqb, ne_eqb}
use Rattle.std.proofs.Math.Decide.{dec_lt}
use Rattle.rules.specs.Fold.{joined, list_to}
use Rattle.rules.specs.Steps.{insert, rising}
use Rattle.laws.specs.Folds.{joined_suc, list_suc}

infix 15 ◌∈◌
-- what stands in a list
pub data ◌∈◌ (x : ℕ) : List ℕ → Type 0 where
  here : {y : ℕ} {l : List ℕ} → x ≡ y → x ∈ (y ∷ l)
  there : {y : ℕ} {l : List ℕ} → x ∈ l → x ∈ (y ∷ l)

pub in_cons : {x y : ℕ} {l : List ℕ} → x ∈ (y ∷ l) → (x ≡ y) ⊎ (x ∈ l)
in_cons (here e) = inl e
in_cons (there m) = inr m

pub in_none : {x : ℕ} → x ∈ [] → ⊥
in_none m = elim m [ ]

pub in_left : {x : ℕ} {l : List ℕ} (r : List ℕ) → x ∈ l → x ∈ (l ++ r)
in_left r (here e) = here e
in_left r (there m) = there (in_left r m)

pub in_right : {x : ℕ} (l : List ℕ) {r : List ℕ} → x ∈ r → x ∈ (l ++ r)
in_right [] m = m
in_right (y ∷ l) m = there (in_right l m)

pub in_append : {x : ℕ} (l : List ℕ) {r : List ℕ} → x ∈ (l ++ r) → (x ∈ l) ⊎ (x ∈ r)
in_append [] m = inr m
in_append {x} (y ∷ l) {r} m =
    ⊎_elim (λ e. inl (here e)) (λ n. ⊎_elim (λ a. inl (there a)) (λ b. inr b) (in_append l n)) (in_cons m)

-- the place at which it stands
pub record Place (x : ℕ) (l : List ℕ) : Type 0 where
  pub place : ℕ
  pub below : place < length l
  pub same : get_or l place 0 ≡ x

pub place_of_lem : {x : ℕ} {l : List ℕ} → x ∈ l → Place x l
place_of_lem (here e) = record { place = 0; below = omega arith; same = sym e }
place_of_lem (there m) =
    let p = place_of_lem m in
    record { place = suc p.place; below = let b = p.below in omega arith; same = p.same }

pub in_at : (l : List ℕ) (i : ℕ) → i < length l → get_or l i 0 ∈ l
in_at [] i h = absurd (omega arith)
in_at (y ∷ l) zero h = here refl
in_at (y ∷ l) (suc i) h = there (in_at l i (omega arith))

-- lists made of f 0 .. f (n - 1)
pub in_list : (n : ℕ) (f : ℕ → ℕ) (i : ℕ) → i < n → f i ∈ list_to n f
in_list zero f i h = absurd (omega arith)
in_list (suc n) f i h =
    let r = in_list n f i in
    rw (list_suc n f)
    (elim (dec_lt i n) [
      | yes l ↦ in_left (f n ∷ []) (r l)
      | no g ↦ let e : i ≡ n = omega arith in in_right (list_to n f) (here (ap f e))
    ])

pub record ListPlace (n : ℕ) (f : ℕ → ℕ) (x : ℕ) : Type 0 where
  pub place : ℕ
  pub below : place < n
  pub same : x ≡ f place

pub list_in : (n : ℕ) (f : ℕ → ℕ) {x : ℕ} → x ∈ list_to n f → ListPlace n f x
unfolding list_to
list_in zero f m = absurd (in_none m)
list_in (suc n) f m =
    ⊎_elim
    (λ a. let r = list_in n f a in record { place = r.place; below = let b = r.below in omega arith; same = r.same })
    (λ b. ⊎_elim (λ e. record { place = n; below = omega arith; same = e }) (λ z. absurd (in_none z)) (in_cons b))
    (in_append (list_to n f) m)

pub in_joined : (n : ℕ) (f : ℕ → List ℕ) {x : ℕ} (i : ℕ) → i < n → x ∈ f i → x ∈ joined n f
in_joined zero f i h m = absurd (omega arith)
in_joined (suc n) f {x} i h m =
    let r = in_joined n f i in
    rw (joined_suc n f)
    (elim (dec_lt i n) [
      | yes l ↦ in_left (f n) (r l m)
      | no g ↦ let e : i ≡ n = omega arith in in_right (joined n f) (subst (λ (k : ℕ). x ∈ f k) e m)
    ])

pub record JoinedPlace (n : ℕ) (f : ℕ → List ℕ) (x : ℕ) : Type 0 where
  pub place : ℕ
  pub below : place < n
  pub stands : x ∈ f place

pub joined_in : (n : ℕ) (f : ℕ → List ℕ) {x : ℕ} → x ∈ joined n f → JoinedPlace n f x
unfolding joined
joined_in zero f m = absurd (in_none m)
joined_in (suc n) f m =
    ⊎_elim
    (λ a. let r = joined_in n f a in record { place = r.place; below = let b = r.below in omega arith; stands = r.stands })
    (λ b. record { place = n; below = omega arith; stands = b })
    (in_append (joined n f) m)

-- insert by the order of the two
pub insert_lt : (x y : ℕ) (ys : List ℕ) → x < y → insert x (y ∷ ys) ≡ x ∷ y ∷ ys
unfolding insert
insert_lt x y ys h = rw (lt-ltb x y h)

pub insert_eq : (x y : ℕ) (ys : List ℕ) → x ≡ y → insert x (y ∷ ys) ≡ y ∷ ys
unfolding insert
insert_eq x y ys h = rw (le-ltb x y (omega arith), eq-eqb x y h)

pub insert_gt : (x y : ℕ) (ys : List ℕ) → y < x → insert x (y ∷ ys) ≡ y ∷ insert x ys
unfolding insert
insert_gt x y ys h = rw (le-ltb x y (omega arith), ne_eqb x y (λ e. omega arith))

pub insert_none : (x : ℕ) → insert x [] ≡ x ∷ []
unfolding insert
insert_none x = refl

-- which of the three holds
pub data Order (x y : ℕ) : Type 0 where
  less : x < y → Order x y
  same : x ≡ y → Order x y
  more : y < x → Order x y

pub order : (x y : ℕ) → Order x y
order x y =
    elim (dec_lt x y) [
      | yes l ↦ less l
      | no g ↦ elim (dec_lt y x) [ yes m ↦ more m | no k ↦ same (omega arith) ]
    ]

-- strictly rising from above lo
pub data Rises : ℕ → List ℕ → Type 0 where
  rises_none : {lo : ℕ} → Rises lo []
  rises_more : {lo x : ℕ} {l : List ℕ} → lo < x → Rises x l → Rises lo (x ∷ l)

rises_by : (lo x y : ℕ) (l : List ℕ) → lo < x → lo < y → Rises y l → (y < x → Rises y (insert x l)) → Order x y → Rises lo (insert x (y ∷ l))
rises_by lo x y l h p r ih (less a) = rw (insert_lt x y l a) (rises_more h (rises_more a r))
rises_by lo x y l h p r ih (same a) = rw (insert_eq x y l a) (rises_more p r)
rises_by lo x y l h p r ih (more a) = rw (insert_gt x y l a) (rises_more p (ih a))

pub rises_insert : (lo x : ℕ) {l : List ℕ} → lo < x → Rises lo l → Rises lo (insert x l)
rises_insert lo x h rises_none = rw (insert_none x) (rises_more h rises_none)
rises_insert lo x h (rises_more {x = y} {l = l} p r) =
    rises_by lo x y l h p r (λ a. rises_insert y x a r) (order x y)

-- what `insert` puts in, and what it keeps
in_new_by : (x y : ℕ) (ys : List ℕ) → x ∈ insert x ys → Order x y → x ∈ insert x (y ∷ ys)
in_new_by x y ys ih (less a) = rw (insert_lt x y ys a) (here refl)
in_new_by x y ys ih (same a) = rw (insert_eq x y ys a) (here a)
in_new_by x y ys ih (more a) = rw (insert_gt x y ys a) (there ih)

pub in_new : (x : ℕ) (l : List ℕ) → x ∈ insert x l
in_new x [] = rw (insert_none x) (here refl)
in_new x (y ∷ ys) = in_new_by x y ys (in_new x ys) (order x y)

in_old_by : (x y : ℕ) (ys : List ℕ) {z : ℕ} → (z ∈ ys → z ∈ insert x ys) → z ∈ (y ∷ ys) → Order x y → z ∈ insert x (y ∷ ys)
in_old_by x y ys ih m (less a) = rw (insert_lt x y ys a) (there m)
in_old_by x y ys ih m (same a) = rw (insert_eq x y ys a) m
in_old_by x y ys ih m (more a) = rw (insert_gt x y ys a) (⊎_elim (λ e. here e) (λ n. there (ih n)) (in_cons m))

pub in_old : (x : ℕ) (l : List ℕ) {z : ℕ} → z ∈ l → z ∈ insert x l
in_old x [] m = absurd (in_none m)
in_old x (y ∷ ys) m = in_old_by x y ys (λ n. in_old x ys n) m (order x y)

insert_in_by : (x y : ℕ) (ys : List ℕ) {z : ℕ} → (z ∈ insert x ys → (z ≡ x) ⊎ (z ∈ ys)) → Order x y → z ∈ insert x (y ∷ ys) → (z ≡ x) ⊎ (z ∈ (y ∷ ys))
insert_in_by x y ys ih (less a) m = in_cons (rw (insert_lt x y ys a) at m)
insert_in_by x y ys ih (same a) m = inr (rw (insert_eq x y ys a) at m)
insert_in_by x y ys ih (more a) m =
    ⊎_elim
    (λ e. inr (here e))
    (λ n. ⊎_elim (λ e. inl e) (λ k. inr (there k)) (ih n))
    (in_cons (rw (insert_gt x y ys a) at m))

pub insert_in : (x : ℕ) (l : List ℕ) {z : ℕ} → z ∈ insert x l → (z ≡ x) ⊎ (z ∈ l)
insert_in x [] m = in_cons (rw (insert_none x) at m)
insert_in x (y ∷ ys) m = insert_in_by x y ys (λ n. insert_in x ys n) (order x y) m

-- `rising` keeps what stands in a list, and no more, and no longer a list
pub in_rising : (l : List ℕ) {z : ℕ} → z ∈ l → z ∈ rising l
unfolding rising
in_rising [] m = m
in_rising (x ∷ xs) {z} m =
    ⊎_elim
    (λ e. subst (λ (k : ℕ). k ∈ insert x (rising xs)) (sym e) (in_new x (rising xs)))
    (λ n. in_old x (rising xs) (in_rising xs n))
    (in_cons m)

pub rising_in : (l : List ℕ) {z : ℕ} → z ∈ rising l → z ∈ l
unfolding rising
rising_in [] m = m
rising_in (x ∷ xs) m =
    ⊎_elim (λ e. here e) (λ n. there (rising_in xs n)) (insert_in x (rising xs) m)

insert_length_by : (x y : ℕ) (ys : List ℕ) → length (insert x ys) ≤ suc (length ys) → Order x y → length (insert x (y ∷ ys)) ≤ suc (suc (length ys))
insert_length_by x y ys ih (less a) = rw (insert_lt x y ys a) (omega arith)
insert_length_by x y ys ih (same a) = rw (insert_eq x y ys a) (omega arith)
insert_length_by x y ys ih (more a) = rw (insert_gt x y ys a) (omega arith)

pub insert_length : (x : ℕ) (l : List ℕ) → length (insert x l) ≤ suc (length l)
insert_length x [] = rw (insert_none x) (omega arith)
insert_length x (y ∷ ys) = insert_length_by x y ys (insert_length x ys) (order x y)

pub rising_length : (l : List ℕ) → length (rising l) ≤ length l
unfolding rising
rising_length [] = omega arith
rising_length (x ∷ xs) =
    let a = insert_length x (rising xs) in
    let b = rising_length xs in
    omega arith

-- a list of numbers above lo
pub rises_rising : (lo : ℕ) (l : List ℕ) → ((z : ℕ) → z ∈ l → lo < z) → Rises lo (rising l)
unfolding rising
rises_rising lo [] h = rises_none
rises_rising lo (x ∷ xs) h =
    rises_insert lo x (h x (here refl)) (rises_rising lo xs (λ z m. h z (there m)))

-- a rising list by its places: each is above the one before, and the last is the greatest
pub rises_at : {lo : ℕ} {l : List ℕ} → Rises lo l → (i : ℕ) → i < length l → get_or (lo ∷ l) i 0 < get_or l i 0
rises_at rises_none i h = absurd (omega arith)
rises_at (rises_more p r) zero h = p
rises_at (rises_more p r) (suc i) h = rises_at r i (omega arith)

-- so a later place has a greater number
pub rises_mono : {lo : ℕ} {l : List ℕ} → Rises lo l → (i j : ℕ) → i ≤ j → j < length l → get_or l i 0 ≤ get_or l j 0
rises_mono r i zero h b = let e : i ≡ 0 = omega arith in rw e (omega arith)
rises_mono {lo} {l} r i (suc j) h b =
    let a = rises_at r (suc j) b in
    let ih = rises_mono r i j in
    elim (dec_lt i (suc j)) [
      | yes k ↦ let c = ih (omega arith) (omega arith) in omega arith
      | no g ↦ let e : i ≡ suc j = omega arith in rw e (omega arith)
    ]
