-- Groups as the code finds them: whether a schedule is of one group with the one before it, and sums over a group from these links.
use Prim.Native.Nat.{ℕ, zero, suc, ◌+◌, ◌*◌, ◌-◌, ◌≤◌, ◌<◌, ◌^◌, min, max}
use native.Mathlib.Omega.{arith}
use Rattle.std.proofs.Math.Nat.{add-zero}
use Rattle.std.proofs.Common.{mul-zero, ◌∙◌, true≢false}
use Rattle.std.specs.Prelude.{◌≡◌, List, Bool, ◌&&◌, ◌||◌, eqb, ℤ}
use Rattle.std.proofs.Math.Path.{refl, sym, ap}
use Rattle.std.proofs.Math.Bool.{true, false, cond}
use Rattle.rules.specs.Fold.{sum_to, all_to, five, at, at_z}
use Rattle.rules.specs.Payments.{bit}
use Rattle.rules.specs.Uplift.{above, below, all_from, same_group}
use Rattle.laws.specs.Folds.{sum_none, sum_suc, sum_same, sum_most, at_five}
use Rattle.uplift_laws.specs.Signs.{one_side, same_part, same_turn, same_group_lem}

-- 1 for a number above 0, 2 for one below 0, 0 for 0
abbrev pub sign_word : ℤ → ℕ
sign_word z = cond (above z) 1 (cond (below z) 2 0)

-- of neighbours with these signs whether they are of one group
abbrev pub link_of : ℕ → ℕ → ℕ
link_of a b = cond (eqb a 0) 0 (bit (eqb a b))

-- of schedule s and the one before it
abbrev pub link_at : List ℕ → ℕ → ℕ
link_at g zero = 0
link_at g (suc s) = link_of (at g s) (at g (suc s))

-- the sum of x over the schedules of the group of s that are before s; over the whole group, where m schedules follow s
unfoldable pub before : List ℕ → List ℕ → ℕ → ℕ
before l x zero = 0
before l x (suc s) = cond (eqb (at l (suc s)) 0) 0 (before l x s + at x s)

unfoldable pub whole_of : List ℕ → List ℕ → ℕ → ℕ → ℕ
whole_of l x s zero = before l x s + at x s
whole_of l x s (suc m) = cond (eqb (at l (suc s)) 0) (before l x s + at x s) (whole_of l x (suc s) m)

abbrev pub whole : List ℕ → List ℕ → ℕ → ℕ
whole l x s = whole_of l x s (4 - s)

-- five of them, added up, fit 64 bits
pub record Small (x : List ℕ) : Type 0 where
  pub most : (s : ℕ) → s < 5 → at x s < 2 ^ 61

-- sums of which terms are 0
sum_zero : (n : ℕ) (f : ℕ → ℕ) → ((i : ℕ) → i < n → f i ≡ 0) → sum_to n f ≡ 0
sum_zero n f h =
    let m = sum_most n 0 f (λ i l. let e = h i l in omega arith) in
    omega (arith, m, mul-zero n)

sum_tail : (n k : ℕ) (f : ℕ → ℕ) → ((i : ℕ) → n ≤ i → f i ≡ 0) → sum_to (n + k) f ≡ sum_to n f
sum_tail n zero f h = rw (add-zero n)
sum_tail n (suc k) f h =
    let r = sum_tail n k f h in
    let e = h (n + k) (omega arith) in
    let p : n + suc k ≡ suc (n + k) = omega arith in
    rw (p, sum_suc (n + k) f, r, e) (omega arith)

cond_most : (b : Bool) (n k : ℕ) → n ≤ k → cond b 0 n ≤ k
cond_most true n k e = omega arith
cond_most false n k e = e

-- what stands before a schedule, at most so much for each
pub before_most : (l x : List ℕ) → Small x → (s : ℕ) → s < 5 → before l x s ≤ s * 2 ^ 61
unfolding before
before_most l x h zero g = omega arith
before_most l x h (suc s) g =
    let r = before_most l x h s (omega arith) in
    let m = h.most s (omega arith) in
    cond_most (eqb (at l (suc s)) 0) (before l x s + at x s) (suc s * 2 ^ 61) (omega arith)

-- the code's sums, one schedule at a time
pub before_first : (l x : List ℕ) → before l x 0 ≡ 0
unfolding before
before_first l x = refl

pub before_next : (l x : List ℕ) (s : ℕ) → before l x (suc s) ≡ cond (eqb (at l (suc s)) 0) 0 (before l x s + at x s)
unfolding before
before_next l x s = refl

pub whole_last : (l x : List ℕ) → whole l x 4 ≡ before l x 4 + at x 4
unfolding whole_of
whole_last l x = refl

pub whole_next : (l x : List ℕ) (s : ℕ) → s < 4 → whole l x s ≡ cond (eqb (at l (suc s)) 0) (before l x s + at x s) (whole l x (suc s))
unfolding whole_of
whole_next l x s g =
    let e : 4 - s ≡ suc (4 - suc s) = omega arith in
    rw e

-- neighbours
link_bits : (a b c d : Bool) → (a ≡ true → b ≡ true → ⊥) → (c ≡ true → d ≡ true → ⊥) → link_of (cond a 1 (cond b 2 0)) (cond c 1 (cond d 2 0)) ≡ bit ((a && c) || (b && d))
link_bits true true true true h k = absurd (h refl refl)
link_bits true true true false h k = absurd (h refl refl)
link_bits true true false true h k = absurd (h refl refl)
link_bits true true false false h k = absurd (h refl refl)
link_bits true false true true h k = absurd (k refl refl)
link_bits true false true false h k = refl
link_bits true false false true h k = refl
link_bits true false false false h k = refl
link_bits false true true true h k = absurd (k refl refl)
link_bits false true true false h k = refl
link_bits false true false true h k = refl
link_bits false true false false h k = refl
link_bits false false true true h k = absurd (k refl refl)
link_bits false false true false h k = refl
link_bits false false false true h k = refl
link_bits false false false false h k = refl

not_so : (a : Bool) → (a ≡ true → ⊥) → a ≡ false
not_so true h = absurd (h refl)
not_so false h = refl

module _ (t : List ℤ) where
  abbrev pub signs_of : List ℕ
  signs_of = five (λ s. sign_word (at_z t s))

  abbrev pub links_of : List ℕ
  links_of = five (link_at signs_of)

  two_all : (p : ℤ → Bool) (s : ℕ) → all_from p t s (suc s) ≡ (p (at_z t s) && p (at_z t (suc s)))
  unfolding all_from all_to
  two_all p s =
      let a : max s (suc s) - min s (suc s) ≡ 1 = omega arith in
      let b : min s (suc s) ≡ s = omega arith in
      let c : s + 1 ≡ suc s = omega arith in
      rw (a, b, add-zero s, c)

  pub link_is : (s : ℕ) → suc s < 5 → at links_of (suc s) ≡ bit (same_group t s (suc s))
  unfolding same_group
  link_is s l =
      let u = at_five (λ i. sign_word (at_z t i)) 0 s (omega arith) in
      let v = at_five (λ i. sign_word (at_z t i)) 0 (suc s) l in
      let w = at_five (link_at signs_of) 0 (suc s) l in
      rw (w, u, v, two_all above s, two_all below s)
      (link_bits (above (at_z t s)) (below (at_z t s)) (above (at_z t (suc s))) (below (at_z t (suc s))) (one_side (at_z t s)) (one_side (at_z t (suc s))))

  -- the sum of x over those of the group of s that are below n
  abbrev pub group_to : List ℕ → ℕ → ℕ → ℕ
  group_to x s n = sum_to n (λ q. cond (same_group t s q) (at x q) 0)

  -- a schedule that is not of one group with the next has no later one in its group, and the next has no earlier one
  parted : (s q : ℕ) → same_group t s (suc s) ≡ false → s < q → same_group t s q ≡ false
  parted s q e l =
      not_so (same_group t s q) (λ f. true≢false (sym (same_part t s q f (suc s) (omega arith) (omega arith)) ∙ e))

  parted_back : (s q : ℕ) → same_group t s (suc s) ≡ false → q ≤ s → same_group t (suc s) q ≡ false
  parted_back s q e l =
      not_so (same_group t (suc s) q)
      (λ f. true≢false (sym (same_part t (suc s) q f s (omega arith) (omega arith)) ∙ same_turn t (suc s) s ∙ e))

  module _ (x : List ℕ) where
    before_by : (s : ℕ) (b : Bool) → same_group t s (suc s) ≡ b → suc s < 5 → before links_of x s ≡ group_to x s s → before links_of x (suc s) ≡ group_to x (suc s) (suc s)
    before_by s true e l r =
        let k = link_is s l in
        let same = sum_same s (λ q. cond (same_group t (suc s) q) (at x q) 0) (λ q. cond (same_group t s q) (at x q) 0) (λ q g. rw (same_group_lem t s (suc s) e q)) in
        let back = same_turn t (suc s) s ∙ e in
        rw (before_next links_of x s, k, e, r, sum_suc s (λ q. cond (same_group t (suc s) q) (at x q) 0), same, back)
    before_by s false e l r =
        let k = link_is s l in
        let none = sum_zero (suc s) (λ q. cond (same_group t (suc s) q) (at x q) 0) (λ q g. rw (parted_back s q e (omega arith))) in
        rw (before_next links_of x s, k, e, none)

    pub before_is : (s : ℕ) → s < 5 → before links_of x s ≡ group_to x s s
    before_is zero l = rw (before_first links_of x, sum_none (λ q. cond (same_group t 0 q) (at x q) 0))
    before_is (suc s) l = before_by s (same_group t s (suc s)) refl l (before_is s (omega arith))

    so_far : (s : ℕ) → s < 5 → same_group t s s ≡ true → before links_of x s + at x s ≡ group_to x s (suc s)
    so_far s l e =
        let r = before_is s l in
        rw (r, sum_suc s (λ q. cond (same_group t s q) (at x q) 0), e)

    whole_by : (s m : ℕ) (b : Bool) → s + suc m ≡ 4 → same_group t s s ≡ true → same_group t s (suc s) ≡ b → (same_group t (suc s) (suc s) ≡ true → whole_of links_of x (suc s) m ≡ group_to x (suc s) 5)
        → whole_of links_of x s (suc m) ≡ group_to x s 5
    unfolding whole_of
    whole_by s m true h own e r =
        let k = link_is s (omega arith) in
        let next = r (same_group_lem t s (suc s) e (suc s) ∙ e) in
        let same = sum_same 5 (λ q. cond (same_group t (suc s) q) (at x q) 0) (λ q. cond (same_group t s q) (at x q) 0) (λ q g. rw (same_group_lem t s (suc s) e q)) in
        rw (k, e) (next ∙ same)
    whole_by s m false h own e r =
        let k = link_is s (omega arith) in
        let n : 5 ≡ suc s + suc m = omega arith in
        let tail = sum_tail (suc s) (suc m) (λ q. cond (same_group t s q) (at x q) 0) (λ q g. rw (parted s q e (omega arith))) in
        rw (k, e) (so_far s (omega arith) own ∙ sym tail ∙ ap (group_to x s) (sym n))

    whole_from : (m s : ℕ) → s + m ≡ 4 → same_group t s s ≡ true → whole_of links_of x s m ≡ group_to x s 5
    unfolding whole_of
    whole_from zero s h own =
        let e : s ≡ 4 = omega arith in
        rw e (so_far 4 (omega arith) (rw e at own))
    whole_from (suc m) s h own =
        whole_by s m (same_group t s (suc s)) h own refl (λ f. whole_from m (suc s) (omega arith) f)

    -- the group's sum, of a schedule whose total isn't 0
    pub whole_is : (s : ℕ) → s < 5 → same_group t s s ≡ true → whole links_of x s ≡ group_to x s 5
    whole_is s l own = whole_from (4 - s) s (omega arith) own
