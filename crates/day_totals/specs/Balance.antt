-- Demand 3's laws of the adjusted totals: they add up to the totals, and no negative one stands after a positive one.
-- What earlier schedules left is never more than the later ones need, and once a schedule keeps something it is just that.
use Rattle.std.specs.Prelude.{ℕ, zero, suc, ◌+◌, ◌-◌, ◌<◌, ◌≤◌, min, ◌≡◌, refl, List, Bool, true, false, ℤ, ◌+ℤ◌, ◌-ℤ◌}
use Rattle.std.proofs.Math.Decide.{dec_lt}
use Rattle.std.proofs.Common.{arith, ◌∙◌}
use Rattle.std.proofs.Math.Path.{sym}
use Rattle.std.proofs.Math.Dec.{eqb-suc-zero}
use Rattle.rules.specs.Fold.{sum_z, at_z}
use Rattle.rules.specs.Totals.{carried, adjusted}
use Rattle.laws.specs.Folds.{sum_z_none, sum_z_suc}
use Rattle.laws.specs.Ints.{pl, mi, apart, eq_z, add_read, sub_read, non_neg_yes}
use Rattle.day_totals.specs.Parts.{need, is_kept, KeptTotal, Owed, Case, case_of, carried_first, carried_step}

-- what the schedules from s on need
abbrev need_from : List ℤ → ℕ → ℕ
need_from t s = need t s (5 - s)

need_step : (t : List ℤ) (s : ℕ) → s < 5 → need_from t s ≡ (need_from t (suc s) + mi (at_z t s)) - pl (at_z t s)
unfolding need
need_step t s l =
    let e : 5 - s ≡ suc (4 - s) = omega arith in
    let g : 5 - suc s ≡ 4 - s = omega arith in
    rw (e, g)

-- what is left before s, e, and what of it: never below 0, at most what is needed
pub record Left (t : List ℤ) (s : ℕ) (e : ℤ) : Type 0 where
  pub whole : mi e ≡ 0
  pub most : pl e ≤ need_from t s

-- just what is needed
pub record Exact (t : List ℤ) (s : ℕ) (e : ℤ) : Type 0 where
  pub whole : mi e ≡ 0
  pub all : pl e ≡ need_from t s

-- the totals that are kept are not below 0, where the first isn't
pub kept_whole : (t : List ℤ) → mi (at_z t 0) ≡ 0 → (s : ℕ) → is_kept t s ≡ true → mi (at_z t s) ≡ 0
kept_whole t h zero e = h
kept_whole t h (suc s) e = non_neg_yes (at_z t (suc s)) (rw (eqb-suc-zero s) at e)

-- one schedule: its total x, what is left before it e, its adjusted total a, what is left after it
module _ (t : List ℤ) (s : ℕ) (l : s < 5) (e a : ℤ) where
  abbrev x : ℤ
  x = at_z t s

  abbrev after : ℤ
  after = e +ℤ (x -ℤ a)

  after_kept : KeptTotal t s a → mi x ≡ 0 → mi e ≡ 0 → (mi after ≡ 0) × (pl after ≡ pl e + min (pl x) (need_from t (suc s)))
  after_kept c h g =
      let n : 5 - suc s ≡ 4 - s = omega arith in
      let k : pl a ≡ pl x - (mi x + need_from t (suc s)) = rw n c.above in
      let b = c.below in
      let r = add_read e (x -ℤ a) in
      let r' = sub_read x a in
      let p = apart after in
      (omega arith, omega arith)

  after_owed : Owed t e s a → mi e ≡ 0 → (mi after ≡ 0) × (pl after ≡ pl e - mi x)
  after_owed c g =
      let k = c.above in
      let b = c.below in
      let f = c.negative in
      let r = add_read e (x -ℤ a) in
      let r' = sub_read x a in
      let p = apart after in
      let q = apart x in
      (omega arith, omega arith)

-- one schedule more, by its two cases
module _ (t : List ℤ) (s : ℕ) (l : s < 5) (e a : ℤ) where
  left_by : (b : Bool) → (b ≡ true → mi (at_z t s) ≡ 0) → Case b t e s a → Left t s e → Left t (suc s) (e +ℤ (at_z t s -ℤ a))
  left_by true k c h =
      let r = after_kept t s l e a c (k refl) h.whole in
      let n = need_step t s l in
      let m = h.most in
      record { whole = r.0; most = omega (arith, k refl) }
  left_by false k c h =
      let r = after_owed t s l e a c h.whole in
      let n = need_step t s l in
      let m = h.most in
      record { whole = r.0; most = omega (arith, apart (at_z t s), c.negative) }

  -- a schedule that keeps something leaves just what is needed
  keeps_by : (b : Bool) → (b ≡ true → mi (at_z t s) ≡ 0) → Case b t e s a → Left t s e → 0 < pl a → Exact t (suc s) (e +ℤ (at_z t s -ℤ a))
  keeps_by true k c h g =
      let r = after_kept t s l e a c (k refl) h.whole in
      let n = need_step t s l in
      let m = h.most in
      let i : 5 - suc s ≡ 4 - s = omega arith in
      let u : pl a ≡ pl (at_z t s) - (mi (at_z t s) + need_from t (suc s)) = rw i c.above in
      record { whole = r.0; all = omega arith }
  keeps_by false k c h g = absurd (omega (arith, c.above))

  -- just what is needed stays so, and then nothing is owed
  exact_by : (b : Bool) → (b ≡ true → mi (at_z t s) ≡ 0) → Case b t e s a → Exact t s e → Exact t (suc s) (e +ℤ (at_z t s -ℤ a))
  exact_by true k c h =
      let r = after_kept t s l e a c (k refl) h.whole in
      let n = need_step t s l in
      let m = h.all in
      record { whole = r.0; all = omega (arith, k refl) }
  exact_by false k c h =
      let r = after_owed t s l e a c h.whole in
      let n = need_step t s l in
      let m = h.all in
      record { whole = r.0; all = omega (arith, apart (at_z t s), c.negative) }

  pub owes_by : (b : Bool) → Case b t e s a → Exact t s e → mi a ≡ 0
  owes_by true c h = c.below
  owes_by false c h = omega (arith, c.below, c.negative, h.whole, h.all, need_step t s l, apart (at_z t s))

-- the adjusted totals of five totals of which the first is not below 0
module _ (t : List ℤ) (h : mi (at_z t 0) ≡ 0) where
  pub left_before : (s : ℕ) → s ≤ 5 → Left t s (carried t s)
  left_before zero l = rw (carried_first t) (record { whole = refl; most = omega arith })
  left_before (suc s) l =
      rw (carried_step t s)
      (left_by t s (omega arith) (carried t s) (adjusted t s) (is_kept t s) (kept_whole t h s) (case_of t s) (left_before s (omega arith)))

  pub exact_after : (r s : ℕ) → r < s → s ≤ 5 → 0 < pl (adjusted t r) → Exact t s (carried t s)
  exact_after r zero l g p = absurd (omega arith)
  exact_after r (suc s) l g p =
      let i = exact_after r s in
      rw (carried_step t s)
      (elim (dec_lt r s) [
        | yes m ↦ exact_by t s g (carried t s) (adjusted t s) (is_kept t s) (kept_whole t h s) (case_of t s) (i m (omega arith) p)
        | no m ↦
            let q : s ≡ r = omega arith in
            keeps_by t s g (carried t s) (adjusted t s) (is_kept t s) (kept_whole t h s) (case_of t s) (left_before s (omega arith)) (rw q p)
      ])

  -- "no negative one stands after a positive one"
  pub none_owed : (r s : ℕ) → r < s → s < 5 → 0 < pl (adjusted t r) → mi (adjusted t s) ≡ 0
  none_owed r s l g p =
      owes_by t s g (carried t s) (adjusted t s) (is_kept t s) (case_of t s) (exact_after r s l (omega arith) p)

  -- the totals so far are the adjusted ones so far and what is left
  pub sums_so_far : (s : ℕ) → sum_z s (at_z t) ≡ sum_z s (adjusted t) +ℤ carried t s
  sums_so_far zero = rw (sum_z_none (at_z t), sum_z_none (adjusted t), carried_first t)
  sums_so_far (suc s) =
      let r = sums_so_far s in
      let u = sum_z s (adjusted t) in
      let e = carried t s in
      let x = at_z t s in
      let a = adjusted t s in
      rw (sum_z_suc s (at_z t), sum_z_suc s (adjusted t), carried_step t s, r)
      (eq_z ((u +ℤ e) +ℤ x) ((u +ℤ a) +ℤ (e +ℤ (x -ℤ a)))
      (omega (arith, add_read (u +ℤ e) x, add_read u e, add_read (u +ℤ a) (e +ℤ (x -ℤ a)), add_read u a, add_read e (x -ℤ a), sub_read x a)))

  -- after the last schedule nothing is left
  pub none_left : sum_z 5 (adjusted t) +ℤ carried t 5 ≡ sum_z 5 (adjusted t)
  unfolding need
  none_left =
      let e = left_before 5 (omega arith) in
      let none : mi (carried t 5) ≡ 0 = e.whole in
      let most : pl (carried t 5) ≤ 0 = e.most in
      let u = sum_z 5 (adjusted t) in
      eq_z (u +ℤ carried t 5) u (omega (arith, add_read u (carried t 5)))

  -- "the five adjusted totals .. add up": to the five totals
  pub adjusted_sum : sum_z 5 (adjusted t) ≡ sum_z 5 (at_z t)
  adjusted_sum = sym (sums_so_far 5 ∙ none_left)
