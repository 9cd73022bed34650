-- Document 02, F-14, of the view's answer: the running sum of modified payments against the open rises, from the law of a step (step_payments).
use Prim.Native.Nat.{ℕ, suc, ◌+◌, ◌*◌, ◌-◌, ◌≤◌, ◌<◌}
use Rattle.std.proofs.Common.{arith, ◌∙◌}
use Rattle.std.specs.Prelude.{◌≡◌, List, true, false, eqb, pos}
use Rattle.std.proofs.Math.Path.{ap}
use Rattle.std.proofs.Math.Bool.{cond}
use Rattle.std.specs.Int.Signed.{le_z}
use Rattle.rules.specs.Fold.{sum_to, sum_z, five, at_z}
use Rattle.rules.specs.Layout.{market_price, line_at}
use Rattle.rules.specs.Steps.{upper_end, paid}
use Rattle.rules.specs.Matching.{rise, matched}
use Rattle.rules.specs.Payments.{bit, on_step, rate, is_paid, given_back, modified}
use Rattle.rules.specs.Days.{step_of}
use Rattle.rules.specs.Viewing.{view_of}
use Rattle.laws.specs.Folds.{sum_same, sum_most, all_yes, some_no, at_five}
use Rattle.laws.specs.Ints.{le_le_z}
use Rattle.day_totals.specs.Sums.{sum_z_same}
use Rattle.step_matching.specs.Balance.{matched_with}
use Rattle.step_matching.specs.OpenValue.{open_before, open_at, open_value}
use Rattle.step_payments.specs.Running.{taken_at_zero_on, at_zero_none, running_sum_lem}
use Rattle.certificate.specs.Certificate.{match_in, paid_up_to, rate_in, running_sum, open_in, open_at_rates, fell_at_zero, taken_at_zero}
use Rattle.certificate.specs.Answers.{match_is}

module _ (d : List ℕ) (k j : ℕ) where
  -- the view's figures are those of the definitions
  rate_is : (s : ℕ) → s < 5 → rate_in d k (view_of d k j) s ≡ rate (step_of d k j) s
  unfolding rate_in rate view_of step_of
  rate_is s l = rw (at_five (market_price d) 0 s l)

  paid_is : (s : ℕ) → s < 5 → paid (line_at d k) (view_of d k j).end s ≡ true → is_paid (step_of d k j) s ≡ true
  unfolding is_paid view_of step_of
  paid_is s l p = rw (at_five (λ q. bit (paid (line_at d k) (upper_end (line_at d k) j) q)) 0 s l, p)

  sum_is : (s : ℕ) → s < 5 → running_sum (view_of d k j) s ≡ sum_z (suc s) (modified (step_of d k j))
  unfolding running_sum view_of
  sum_is s l =
      sum_z_same (suc s) (at_z (five (modified (step_of d k j)))) (modified (step_of d k j))
      (λ q g. at_five (modified (step_of d k j)) (pos 0) q (omega arith))

  left_is : (s r : ℕ) → s < 5 → open_in (view_of d k j) s r ≡ open_before (on_step (step_of d k j)) (suc s) r
  unfolding open_in open_before matched_with view_of
  left_is s r l =
      let c = on_step (step_of d k j) in
      ap (λ (taken : ℕ). rise c r - taken)
      (sum_same (suc s) (λ q. match_in (view_of d k j) q r) (λ q. matched c q r) (λ q g. match_is d k j q r (omega arith)))

  open_is : (s : ℕ) → s < 5 → open_at_rates d k (view_of d k j) s ≡ open_value (on_step (step_of d k j)) (rate (step_of d k j)) (suc s)
  unfolding open_at_rates open_value open_at
  open_is s l =
      let x = step_of d k j in
      sum_same (suc s) (λ r. open_in (view_of d k j) s r * rate_in d k (view_of d k j) r) (λ r. open_before (on_step x) (suc s) r * rate x r)
      (λ r g. rw (left_is s r l, rate_is r (omega arith)))

  taken_is : (s : ℕ) → s < 5 → sum_to s (λ r. match_in (view_of d k j) s r * rate_in d k (view_of d k j) r) ≡ given_back (step_of d k j) s (rate (step_of d k j))
  unfolding given_back
  taken_is s l =
      let x = step_of d k j in
      sum_same s (λ r. match_in (view_of d k j) s r * rate_in d k (view_of d k j) r) (λ r. matched (on_step x) s r * rate x r)
      (λ r g. rw (match_is d k j s r l, rate_is r (omega arith)))

  at_zero_is : (s : ℕ) → s < 5 → taken_at_zero d k (view_of d k j) s ≡ sum_to (suc s) (taken_at_zero_on (step_of d k j))
  unfolding taken_at_zero taken_at_zero_on
  at_zero_is s l =
      let x = step_of d k j in
      sum_same (suc s) _ (taken_at_zero_on x)
      (λ q g. rw (rate_is q (omega arith)) (ap (λ (taken : ℕ). cond (eqb (rate x q) 0) taken 0) (taken_is q (omega arith))))

  -- the difference
  pub view_difference : (s : ℕ) → s < 5 → paid_up_to d k (view_of d k j) (suc s) ≡ true → running_sum (view_of d k j) s ≡ pos (open_at_rates d k (view_of d k j) s + taken_at_zero d k (view_of d k j) s)
  unfolding paid_up_to
  view_difference s l p =
      rw (sum_is s l, open_is s l, at_zero_is s l)
      (running_sum_lem (step_of d k j) (suc s)
      (λ q g. paid_is q (omega arith) (all_yes (suc s) (paid (line_at d k) (view_of d k j).end) p q g)))

  -- at least
  pub view_least : (s : ℕ) → s < 5 → paid_up_to d k (view_of d k j) (suc s) ≡ true → le_z (pos (open_at_rates d k (view_of d k j) s)) (running_sum (view_of d k j) s) ≡ true
  view_least s l p =
      let v = view_of d k j in
      rw (view_difference s l p)
      (le_le_z (pos (open_at_rates d k v s)) (pos (open_at_rates d k v s + taken_at_zero d k v s)) (omega arith))

  -- exactly
  none_at_zero : (s : ℕ) → s < 5 → fell_at_zero d k (view_of d k j) s ≡ false → taken_at_zero d k (view_of d k j) s ≡ 0
  unfolding fell_at_zero view_of
  none_at_zero s l z =
      let x = step_of d k j in
      let each : (q : ℕ) → q < suc s → taken_at_zero_on x q ≤ 0 =
      λ q g. omega (arith, at_zero_none x q (rw (rate_is q (omega arith)) at (some_no (suc s) _ z q g))) in
      omega (arith, at_zero_is s l, sum_most (suc s) 0 (taken_at_zero_on x) each)

  pub view_exact : (s : ℕ) → s < 5 → paid_up_to d k (view_of d k j) (suc s) ≡ true → fell_at_zero d k (view_of d k j) s ≡ false → running_sum (view_of d k j) s ≡ pos (open_at_rates d k (view_of d k j) s)
  view_exact s l p z = view_difference s l p ∙ ap pos (omega (arith, none_at_zero s l z))
