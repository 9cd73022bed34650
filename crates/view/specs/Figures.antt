-- The view's figures as a function of a step, the clawback switch and a pool.
use Rattle.std.specs.Prelude.{ℕ, zero, suc, ◌-◌, ◌≤◌, ◌<◌, ◌≡◌, refl, List, ◌∷◌, get_or}
use Rattle.std.proofs.Common.{arith, sym, ◌∙◌}
use Rattle.std.proofs.Math.Path.{ap}
use Rattle.std.proofs.Math.Dec.{eqb}
use borrow.Author.Tests.{eq-eqb, ne_eqb, le-leb, lt-leb}
use Rattle.rules.specs.Fold.{five}
use Rattle.rules.specs.Layout.{line_count, line_at, side, clawback}
use Rattle.rules.specs.Steps.{step_count}
use Rattle.rules.specs.Refusals.{day_fault, view_fault}
use Rattle.rules.specs.Payments.{step_final}
use Rattle.rules.specs.Days.{step_of, settled_day}
use Rattle.rules.specs.Viewing.{figures_of, view_of, view_refused, view_answer}
use Rattle.rules.specs.declared.Step.{Step}
use Rattle.rules.specs.declared.View.{View}
use Rattle.laws.specs.Folds.{stops, passes, ends_at, none_at, part_stops, part_passes}
use Rattle.numbers.specs.Fives.{five_same}
use Rattle.step_pool.specs.declared.pool_amounts.SidePool.{SidePool}
use Rattle.step_pool.specs.Amounts.{final_on}
use Rattle.day_pools.specs.Lines.{PoolFor, final_is}

unfoldable pub view_from : Step → ℕ → SidePool → View
view_from x claw p = figures_of x (five (final_on x claw p))

-- of step j of line k they are the view's
pub view_is : (d : List ℕ) (k j : ℕ) (p : SidePool) → PoolFor (settled_day d) (side (line_at d k)) p → view_from (step_of d k j) (clawback d) p ≡ view_of d k j
unfolding view_from view_of
view_is d k j p h =
    let e = five_same (final_on (step_of d k j) (clawback d) p) (λ s. step_final (settled_day d) s k j) (final_is (settled_day d) k j p h) in
    λ i. figures_of (step_of d k j) (e i)

-- the answer, refusal by refusal
module _ (d : List ℕ) (k j x : ℕ) (number : x ≡ day_fault d) where
  pub view_refused_lem : (v : View) (y : ℕ) → v ≡ view_refused y → y ≡ view_fault d k j → (y ≡ 0 → ⊥) → v ≡ view_answer d k j
  unfolding view_answer
  view_refused_lem v y e f n =
      let h : eqb (view_fault d k j) 0 ≡ mathlib.Core.Bool.false = ne_eqb (view_fault d k j) 0 (λ z. n (f ∙ z)) in
      e ∙ ap view_refused f ∙ rw h

  pub fault_day : (x ≡ 0 → ⊥) → x ≡ view_fault d k j
  unfolding view_fault
  fault_day n = part_stops _ _ _ number n

  module _ (good : x ≡ 0) where
    pub fault_line : (n : ℕ) → n ≡ line_count d → n ≤ k → 16 ≡ view_fault d k j
    unfolding view_fault
    fault_line n e l = part_passes _ _ _ _ number good (stops 15 _ _ (le-leb (line_count d) k (omega arith)))

    module _ (within : k < line_count d) where
      pub fault_step : (n : ℕ) → n ≡ step_count (line_at d k) → n ≤ j → 17 ≡ view_fault d k j
      unfolding view_fault
      fault_step n e l =
          part_passes _ _ _ _ number good
          (passes 16 _ _ _ (lt-leb (line_count d) k within) (ends_at 17 _ (le-leb (step_count (line_at d k)) j (omega arith))))

      pub fault_none : j < step_count (line_at d k) → 0 ≡ view_fault d k j
      unfolding view_fault
      fault_none l =
          part_passes _ _ _ _ number good
          (passes 16 _ _ _ (lt-leb (line_count d) k within) (none_at 17 _ (lt-leb (step_count (line_at d k)) j l)))

      pub view_whole : (v : View) → v ≡ view_of d k j → j < step_count (line_at d k) → v ≡ view_answer d k j
      unfolding view_answer
      view_whole v e l =
          let h : eqb (view_fault d k j) 0 ≡ mathlib.Core.Bool.true = eq-eqb (view_fault d k j) 0 (sym (fault_none l)) in
          e ∙ rw h

-- the end before step j, in the cutter's array
pub lower_there : (l : List ℕ) (j : ℕ) → (j ≡ 0 → ⊥) → get_or l (j - 1) 0 ≡ get_or (0 ∷ l) j 0
lower_there l zero n = absurd (n refl)
lower_there l (suc j) n = ap (λ (i : ℕ). get_or l i 0) (omega arith)
