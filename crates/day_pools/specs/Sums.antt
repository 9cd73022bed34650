-- Rows of five, pools and money added up over the numbers below a count.
use Rattle.std.specs.Prelude.{ℕ, zero, suc, ◌+◌, ◌≤◌, ◌<◌, ◌≡◌, refl, List, Bool, true, false, ◌||◌, ltb, ℤ}
use Rattle.std.proofs.Common.{add-one, arith, sym, ◌∙◌, ap, lt-ltb, le-ltb, ltb-true, ltb-false}
use Rattle.std.proofs.Math.Decide.{dec_lt}
use Rattle.rules.specs.Fold.{sum_to, sum_z, some_to, five, at}
use Rattle.laws.specs.Folds.{sum_more, sum_suc, sum_none, sum_same, sum_z_none, sum_z_suc, some_none, some_suc, same_five}
use Rattle.laws.specs.Ints.{Split, split_none, split_add}
use Rattle.numbers.specs.Fives.{five_is}
use Rattle.step_pool.specs.declared.pool_amounts.SidePool.{SidePool}
use Rattle.step_payments.specs.declared.amounts.Money.{Money}
use Rattle.step_pool.specs.Amounts.{sum_in, no_pool, no_money, pool_sum, money_sum}

-- the sum over i below n of place s of row i
unfoldable pub place_of : (ℕ → List ℕ) → ℕ → ℕ → ℕ
place_of f s i = at (f i) s

unfoldable pub row_to : ℕ → (ℕ → List ℕ) → ℕ → ℕ
row_to n f s = sum_to n (place_of f s)

row_more : (n : ℕ) (f : ℕ → List ℕ) → five (row_to (n + 1) f) ≡ five (sum_in (five (row_to n f)) (f n))
unfolding row_to sum_in place_of
row_more n f = same_five (sum_more n _) (sum_more n _) (sum_more n _) (sum_more n _) (sum_more n _)

pub row_whole : (f : ℕ → ℕ) → five (sum_in (five f) (five (λ (s : ℕ). 0))) ≡ five f
unfolding sum_in
row_whole f =
    let e : (n : ℕ) → n + 0 ≡ n = λ n. omega arith in
    five_is f (e (f 0)) (e (f 1)) (e (f 2)) (e (f 3)) (e (f 4))

pub row_same : (n : ℕ) (f g : ℕ → List ℕ) → ((i : ℕ) → f i ≡ g i) → five (row_to n f) ≡ five (row_to n g)
unfolding row_to place_of
row_same n f g h =
    let e : (s : ℕ) → sum_to n (λ i. at (f i) s) ≡ sum_to n (λ i. at (g i) s) = λ s. sum_same n _ _ (λ i l. ap (λ (r : List ℕ). at r s) (h i)) in
    same_five (e 0) (e 1) (e 2) (e 3) (e 4)

-- pools
unfoldable pub plus_rows : (ℕ → SidePool) → ℕ → List ℕ
plus_rows f i = (f i).plus

unfoldable pub minus_rows : (ℕ → SidePool) → ℕ → List ℕ
minus_rows f i = (f i).minus

unfoldable pub rises_rows : (ℕ → SidePool) → ℕ → List ℕ
rises_rows f i = (f i).rises

unfoldable pub falls_rows : (ℕ → SidePool) → ℕ → List ℕ
falls_rows f i = (f i).falls

unfoldable pub differs_rows : (ℕ → SidePool) → ℕ → List ℕ
differs_rows f i = (f i).differs

unfoldable pub pool_to : ℕ → (ℕ → SidePool) → SidePool
pool_to n f =
    record {
      plus = five (row_to n (plus_rows f));
      minus = five (row_to n (minus_rows f));
      rises = five (row_to n (rises_rows f));
      falls = five (row_to n (falls_rows f));
      differs = five (row_to n (differs_rows f));
    }

pub pool_more : (n : ℕ) (f : ℕ → SidePool) → pool_to (n + 1) f ≡ pool_sum (pool_to n f) (f n)
unfolding pool_to pool_sum plus_rows minus_rows rises_rows falls_rows differs_rows
pool_more n f = rw (row_more n (λ i. (f i).plus), row_more n (λ i. (f i).minus), row_more n (λ i. (f i).rises), row_more n (λ i. (f i).falls), row_more n (λ i. (f i).differs))

pub pool_whole : (n : ℕ) (f : ℕ → SidePool) (q : SidePool) → q ≡ pool_to n f → pool_sum q no_pool ≡ q
unfolding pool_to pool_sum no_pool
pool_whole n f q e = rw (e, row_whole (row_to n (plus_rows f)), row_whole (row_to n (minus_rows f)), row_whole (row_to n (rises_rows f)), row_whole (row_to n (falls_rows f)), row_whole (row_to n (differs_rows f)))

-- money
unfoldable pub paid_of : (ℕ → Money) → ℕ → List ℕ
paid_of f i = (f i).plus

unfoldable pub taken_of : (ℕ → Money) → ℕ → List ℕ
taken_of f i = (f i).minus

unfoldable pub money_to : ℕ → (ℕ → Money) → Money
money_to n f = record { plus = five (row_to n (paid_of f)); minus = five (row_to n (taken_of f)) }

pub money_more : (n : ℕ) (f : ℕ → Money) → money_to (n + 1) f ≡ money_sum (money_to n f) (f n)
unfolding money_to money_sum paid_of taken_of
money_more n f = rw (row_more n (λ i. (f i).plus), row_more n (λ i. (f i).minus))

pub money_whole : (n : ℕ) (f : ℕ → Money) (q : Money) → q ≡ money_to n f → money_sum q no_money ≡ q
unfolding money_to money_sum no_money
money_whole n f q e = rw (e, row_whole (row_to n (paid_of f)), row_whole (row_to n (taken_of f)))

-- what adds nothing from place m on
pub pool_rest : (m n : ℕ) (f : ℕ → SidePool) → m ≤ n → ((i : ℕ) → m ≤ i → i < n → f i ≡ no_pool) → pool_to n f ≡ pool_to m f
pool_rest m zero f l h = let e : m ≡ 0 = omega arith in rw e
pool_rest m (suc n) f l h =
    elim (dec_lt n m) [
      | yes k ↦ let e : m ≡ suc n = omega arith in rw e
      | no k ↦
          let r = pool_rest m n f (omega arith) (λ i a b. h i a (omega arith)) in
          ap (λ (i : ℕ). pool_to i f) (sym (add-one n)) ∙ pool_more n f ∙ ap (pool_sum (pool_to n f)) (h n (omega arith) (omega arith)) ∙ pool_whole n f (pool_to n f) refl ∙ r
    ]

pub money_rest : (m n : ℕ) (f : ℕ → Money) → m ≤ n → ((i : ℕ) → m ≤ i → i < n → f i ≡ no_money) → money_to n f ≡ money_to m f
money_rest m zero f l h = let e : m ≡ 0 = omega arith in rw e
money_rest m (suc n) f l h =
    elim (dec_lt n m) [
      | yes k ↦ let e : m ≡ suc n = omega arith in rw e
      | no k ↦
          let r = money_rest m n f (omega arith) (λ i a b. h i a (omega arith)) in
          ap (λ (i : ℕ). money_to i f) (sym (add-one n)) ∙ money_more n f ∙ ap (money_sum (money_to n f)) (h n (omega arith) (omega arith)) ∙ money_whole n f (money_to n f) refl ∙ r
    ]

-- a signed sum by what is paid and what is taken back
pub sum_split : (n : ℕ) (f : ℕ → ℤ) (p m : ℕ → ℕ) → ((i : ℕ) → i < n → Split (f i) (p i) (m i)) → Split (sum_z n f) (sum_to n p) (sum_to n m)
sum_split zero f p m h = rw (sum_z_none f, sum_none p, sum_none m) split_none
sum_split (suc n) f p m h =
    let r = sum_split n f p m (λ i l. h i (omega arith)) in
    rw (sum_z_suc n f, sum_suc n p, sum_suc n m) (split_add r (h n (omega arith)))

-- a sum is above 0 where a term is
some_or : (a b : ℕ) → ltb 0 (a + b) ≡ ltb 0 a || ltb 0 b
some_or a b = go (ltb 0 a) (ltb 0 b) refl refl
  where
    go : (t u : Bool) → ltb 0 a ≡ t → ltb 0 b ≡ u → ltb 0 (a + b) ≡ t || u
    go true u e g = lt-ltb 0 (a + b) (omega (arith, ltb-true 0 a e))
    go false true e g = lt-ltb 0 (a + b) (omega (arith, ltb-true 0 b g))
    go false false e g = le-ltb 0 (a + b) (omega (arith, ltb-false 0 a e, ltb-false 0 b g))

pub some_sum : (n : ℕ) (f : ℕ → ℕ) (p : ℕ → Bool) → ((i : ℕ) → i < n → ltb 0 (f i) ≡ p i) → ltb 0 (sum_to n f) ≡ some_to n p
some_sum zero f p h = rw (sum_none f, some_none p)
some_sum (suc n) f p h =
    let r = some_sum n f p (λ i l. h i (omega arith)) in
    let e = h n (omega arith) in
    rw (sum_suc n f, some_suc n p, some_or (sum_to n f) (f n), r, e)
