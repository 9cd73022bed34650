-- A step outside its line's window adds nothing to pool or money.
use Prim.Native.Nat.{ℕ, ◌≤◌, max}
use native.Mathlib.Omega.{arith}
use mathlib.Core.Path.{◌≡◌, refl, sym, ◌∙◌, ap, subst}
use mathlib.Core.Bool.{Bool, true, false, cond}
use mathlib.Core.List.{List}
use lib.ListN.{replicate}
use lib.Dec.{leb}
use borrow.Author.Tests.{leb-true, leb-false, ne_eqb}
use Rattle.rules.specs.Fold.{most_to, five, at}
use Rattle.rules.specs.Quantities.{least_from}
use Rattle.rules.specs.Layout.{line_at}
use Rattle.rules.specs.InForce.{table_in_force}
use Rattle.rules.specs.Steps.{upper_end, lower_end, price, flag}
use Rattle.rules.specs.Days.{step_of}
use Rattle.rules.specs.declared.Step.{Step}
use Rattle.step_terms.specs.Terms.{paid_row}
use Rattle.step_inputs.specs.declared.inputs.Market.{Market}
use Rattle.step_inputs.specs.declared.inputs.LineTotals.{LineTotals}
use Rattle.step_inputs.specs.Inputs.{market_of, totals_of, step_with}
use Rattle.step_inputs.specs.Steps.{step_parts}
use Rattle.step_pool.specs.Amounts.{Idle, all_zero}
use Rattle.step_pool.proofs.pool_amounts.Idle.{idle_unpaid, idle_within, idle_past, idle_covered}
use Rattle.day_pools.specs.declared.window.Window.{Window}
use Rattle.day_pools.specs.Window.{window_of, is_covered}

zeros : true ≡ all_zero (replicate 5 0)
unfolding all_zero most_to
zeros = refl

module _ (m : Market) (t : LineTotals) (l u : ℕ) (p f : List ℕ) where
  abbrev x : Step
  x = step_with m t l u p f

  paid_is : x.paid ≡ paid_row t.accredited t.hedge u
  unfolding step_with
  paid_is = refl

  -- up to the hedge, or accredited in no schedule
  hedged_idle : leb u t.hedge ≡ true → Idle x
  unfolding paid_row
  hedged_idle e = idle_unpaid x (zeros ∙ ap all_zero (sym (paid_is ∙ rw e)))

  none_by : (h : Bool) → leb u t.hedge ≡ h → true ≡ all_zero t.accredited → true ≡ all_zero x.paid
  unfolding paid_row
  none_by true e z = zeros ∙ ap all_zero (sym (paid_is ∙ rw e))
  none_by false e z = z ∙ ap all_zero (sym (paid_is ∙ rw e))

  below_by : (h : Bool) → leb u t.hedge ≡ h → u ≤ max t.hedge (least_from t.pricing 0 4) → Idle x
  unfolding step_with
  below_by true e b = hedged_idle e
  below_by false e b = idle_within x (omega (arith, leb-false u t.hedge e))

  past_by : (z : Bool) → all_zero t.accredited ≡ z → cond z 0 (most_to 5 (at t.operating)) ≤ l → Idle x
  unfolding step_with
  past_by true e b = idle_unpaid x (none_by (leb u t.hedge) refl (sym e))
  past_by false e b = idle_past x b

  ends_below : u ≤ (window_of t).from → Idle x
  unfolding window_of
  ends_below h = below_by (leb u t.hedge) refl h

  begins_past : (window_of t).to ≤ l → Idle x
  unfolding window_of
  begins_past h = past_by (all_zero t.accredited) refl h

  all_covered : is_covered t ≡ true → Idle x
  unfolding is_covered step_with
  all_covered h = idle_covered x (leb-true _ _ h)

-- the window, from what the code has worked out
module _ (t : LineTotals) (n a z : ℕ) (least : n ≡ least_from t.pricing 0 4) (begin : a ≡ max t.hedge n) (marks : z ≡ most_to 5 (at t.accredited)) where
  pub window_none : z ≡ 0 → ◌≡◌ {A = Window} (record { from = a; to = 0 }) (window_of t)
  unfolding window_of all_zero
  window_none e =
      let all : most_to 5 (at t.accredited) ≡ 0 = sym marks ∙ e in
      rw (begin, least, all)

  pub window_some : (z ≡ 0 → ⊥) → (o : ℕ) → o ≡ most_to 5 (at t.operating) → ◌≡◌ {A = Window} (record { from = a; to = o }) (window_of t)
  unfolding window_of all_zero
  window_some e o most = rw (begin, least, most, ne_eqb (most_to 5 (at t.accredited)) 0 (λ q. e (marks ∙ q)))

-- step j of line k, by where it ends and begins
module _ (d : List ℕ) (k j : ℕ) where
  abbrev w : List ℕ
  w = line_at d k

  whole : step_with (market_of d) (totals_of (table_in_force d k) w) (lower_end w j) (upper_end w j) (five (λ s. price w s (upper_end w j))) (five (λ s. flag w s (upper_end w j)))
      ≡ step_of d k j
  whole = step_parts d k j (five (λ s. price w s (upper_end w j))) (five (λ s. flag w s (upper_end w j))) refl refl

  pub below_idle : (t : LineTotals) → t ≡ totals_of (table_in_force d k) (line_at d k) → upper_end (line_at d k) j ≤ (window_of t).from → Idle (step_of d k j)
  below_idle t e h =
      subst Idle whole (ends_below (market_of d) (totals_of (table_in_force d k) w) (lower_end w j) (upper_end w j) _ _ (subst (λ (z : LineTotals). upper_end w j ≤ (window_of z).from) e h))

  pub past_idle : (t : LineTotals) → t ≡ totals_of (table_in_force d k) (line_at d k) → (window_of t).to ≤ lower_end (line_at d k) j → Idle (step_of d k j)
  past_idle t e h =
      subst Idle whole (begins_past (market_of d) (totals_of (table_in_force d k) w) (lower_end w j) (upper_end w j) _ _ (subst (λ (z : LineTotals). (window_of z).to ≤ lower_end w j) e h))

  pub covered_idle : (t : LineTotals) → t ≡ totals_of (table_in_force d k) (line_at d k) → is_covered t ≡ true → Idle (step_of d k j)
  covered_idle t e h =
      subst Idle whole (all_covered (market_of d) (totals_of (table_in_force d k) w) (lower_end w j) (upper_end w j) _ _ (subst (λ (z : LineTotals). is_covered z ≡ true) e h))
