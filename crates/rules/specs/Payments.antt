-- Document 01, "Payments" (FD 8.4, 8.5): the figures of one step, then those of a day as its steps.
use Rattle.std.specs.Prelude.{ℕ, ◌*◌, ◌-◌, min, max, List, Bool, false, not, cond, ◌&&◌, ◌||◌, replicate, eqb, ℤ, pos, neg_ℤ, ◌-ℤ◌, ◌*ℤ◌}
use Rattle.std.proofs.Math.IntN.{sub_ℕ}
use Rattle.std.specs.Int.Signed.{lt_z, le_z, non_neg, quot_z}
use Rattle.rules.specs.Fold.{sum_to, sum_z, some_to, eqb_z, five, at}
use Rattle.rules.specs.Layout.{withdrawal}
use Rattle.rules.specs.Quantities.{allocated, untaken, agino, msiq, constrained}
use Rattle.rules.specs.declared.Step.{Step}
use Rattle.rules.specs.declared.Excess.{Excess}
use Rattle.rules.specs.Matching.{earlier, rise, fall, matched}

-- "On a step, O(s) is operating, E(s) pricing, A effective actual" (document 01, "Quantities")
unfoldable pub operating_on : Step → ℕ → ℕ
operating_on x s = allocated (at x.operating s) x.lower x.upper

unfoldable pub pricing_on : Step → ℕ → ℕ
pricing_on x s = allocated (at x.pricing s) x.lower x.upper

unfoldable pub actual_on : Step → ℕ
actual_on x = allocated x.actual x.lower x.upper

-- "this excess for pricing, operating and effective actual" (document 02, F-2): the line's, so the same on each of its steps
unfoldable pub excess_of : Step → Excess
excess_of x =
    record {
      operating = five (λ s. untaken (at x.operating s) x.most);
      pricing = five (λ s. untaken (at x.pricing s) x.most);
      actual = untaken x.actual x.most;
    }

unfoldable pub no_excess : Excess
no_excess = record { operating = replicate 5 0; pricing = replicate 5 0; actual = 0 }

unfoldable pub agino_on : Step → ℕ → ℕ
agino_on x s = agino (five (operating_on x)) (actual_on x) s

unfoldable pub msiq_on : Step → ℕ → ℕ
msiq_on x s = msiq x.side x.price x.market (five (pricing_on x)) s

unfoldable pub constrained_on : Step → ℕ → ℕ
constrained_on x s = constrained (five (operating_on x)) (five (agino_on x)) (five (msiq_on x)) s

-- C for the five schedules, from which rises, falls and matches are taken
unfoldable pub on_step : Step → List ℕ
on_step x = five (constrained_on x)

-- "max(0, price - market price), reversed for withdrawals"
unfoldable pub beyond_by : ℕ → ℕ → ℕ → ℕ
beyond_by sd p m = cond (withdrawal sd) (m - p) (p - m)

-- "lesser of the prices in r and s .. Withdrawals: .. the greater"
unfoldable pub milder : ℕ → ℕ → ℕ → ℕ
milder sd p q = cond (withdrawal sd) (max p q) (min p q)

-- "Rate R(s) = max(0, price - market price), reversed for withdrawals"
unfoldable pub rate : Step → ℕ → ℕ
rate x s = beyond_by x.side (at x.price s) (at x.market s)

-- "max(0, lesser of the prices in r and s, less market price of s). Withdrawals: market price less the greater"
unfoldable pub revised_rate : Step → ℕ → ℕ → ℕ
revised_rate x s r = beyond_by x.side (milder x.side (at x.price r) (at x.price s)) (at x.market s)

-- 1 for a test that holds
abbrev pub bit : Bool → ℕ
bit b = cond b 1 0

unfoldable pub is_paid : Step → ℕ → Bool
is_paid x s = eqb (at x.paid s) 1

-- "A step is paid if ..; otherwise all its payments are 0". "Initial: (C(s) - C(s-1)) times R(s)".
-- Of an unpaid step this is 0, and so are the three kinds below: each is the initial one where that is at least 0
unfoldable pub initial : Step → ℕ → ℤ
initial x s = cond (is_paid x s) (sub_ℕ (at (on_step x) s) (earlier (on_step x) s) *ℤ pos (rate x s)) (pos 0)

-- what matches give back: m(r, s) times a rate of r, summed over r before s
unfoldable pub given_back : Step → ℕ → (ℕ → ℕ) → ℕ
given_back x s f = sum_to s (λ r. matched (on_step x) s r * f r)

-- the initial payment if that is at least 0, else minus what is given back at these rates
unfoldable pub initial_or : Step → ℕ → (ℕ → ℕ) → ℤ
initial_or x s f = cond (non_neg (initial x s)) (initial x s) (neg_ℤ (pos (given_back x s f)))

-- "Revised: initial if that is at least 0; else minus the sum over r of m(r, s) times max(0, lesser of the prices .."
unfoldable pub revised : Step → ℕ → ℤ
revised x s = initial_or x s (revised_rate x s)

-- "Modified: initial if at least 0; else minus the sum of m(r, s) times R(r)"
unfoldable pub modified : Step → ℕ → ℤ
modified x s = initial_or x s (rate x)

-- The pool of one side in one schedule: T, B, and whether some revised differs from its initial.
pub record Pool : Type 0 where
  pub total : ℤ
  pub base : ℕ
  pub differs : Bool

abbrev pub max_z : ℤ → ℤ → ℤ
max_z a b = cond (le_z a b) b a

-- "revised - T times D(s) / B, the quotient rounded towards zero"
unfoldable pub pooled_payment : Step → ℕ → Pool → ℤ
pooled_payment x s p = revised x s -ℤ quot_z (p.total *ℤ pos (fall (on_step x) s)) (pos p.base)

-- "If T > 0, initial < 0 and some revised on that side in s differs from its initial"
unfoldable pub is_pooled : Step → ℕ → Pool → Bool
is_pooled x s p = lt_z (pos 0) p.total && lt_z (initial x s) (pos 0) && p.differs

-- "Final: initial if s = 1 or clawback is off; modified if the flag is 1. Otherwise .. the greater of initial and
-- revised - T times D(s) / B .. Else revised", with the clawback switch and the pool of the step's side in s
unfoldable pub final_payment : Step → ℕ → ℕ → Pool → ℤ
final_payment x claw s p =
    cond (eqb s 0 || eqb claw 0)
    (initial x s)
    (cond (eqb (at x.flag s) 1)
    (modified x s)
    (cond (is_pooled x s p) (max_z (initial x s) (pooled_payment x s p)) (revised x s)))

-- A day as its steps: how many lines it has; of line k participant, point, side and how many steps; its step j; the clawback switch.
pub record Day : Type 0 where
  pub lines : ℕ
  pub participant : ℕ → ℕ
  pub point : ℕ → ℕ
  pub side : ℕ → ℕ
  pub count : ℕ → ℕ
  pub step : ℕ → ℕ → Step
  pub clawback : ℕ

-- "over all steps of that side": a sum or search, over the lines and over a line's steps, of what f gives; none for a line of the other side
abbrev pub over_side : {A : Type 0} → (ℕ → (ℕ → A) → A) → A → Day → ℕ → (Step → A) → A
over_side fold none y sd f = fold y.lines (λ k. cond (eqb (y.side k) sd) (fold (y.count k) (λ j. f (y.step k j))) none)

-- "T be the sum of revised over all steps of that side in s"
unfoldable pub pool_total : Day → ℕ → ℕ → ℤ
pool_total y sd s = over_side sum_z (pos 0) y sd (λ x. revised x s)

-- "B the greater of two sums over that side's paid steps in s, of the rises U(s) and of the falls D(s)"
unfoldable pub pool_change : (List ℕ → ℕ → ℕ) → Day → ℕ → ℕ → ℕ
pool_change change y sd s = over_side sum_to 0 y sd (λ x. cond (is_paid x s) (change (on_step x) s) 0)

unfoldable pub pool_base : Day → ℕ → ℕ → ℕ
pool_base y sd s = max (pool_change rise y sd s) (pool_change fall y sd s)

-- "some revised on that side in s differs from its initial"
unfoldable pub pool_differs : Day → ℕ → ℕ → Bool
pool_differs y sd s = over_side some_to false y sd (λ x. not (eqb_z (revised x s) (initial x s)))

unfoldable pub pool_of : Day → ℕ → ℕ → Pool
pool_of y sd s =
    record {
      total = pool_total y sd s;
      base = pool_base y sd s;
      differs = pool_differs y sd s;
    }

-- the final payment of step j of line k in s
unfoldable pub step_final : Day → ℕ → ℕ → ℕ → ℤ
step_final y s k j = final_payment (y.step k j) y.clawback s (pool_of y (y.side k) s)
