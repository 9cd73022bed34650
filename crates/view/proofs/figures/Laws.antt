-- The view's answer from what the code has worked out.
use Prim.Native.Nat.{ℕ, zero, suc, ◌*◌, ◌-◌, ◌<◌}
use mathlib.Core.Path.{◌≡◌, refl, sym, ◌∙◌, ap, subst}
use mathlib.Core.List.{List, ◌∷◌}
use lib.ListN.{get_or}
use lib.IntN.{ℤ}
use Rattle.rules.specs.Fold.{five}
use Rattle.rules.specs.Layout.{quantity_most, price_most, line_count, line_at, side}
use Rattle.rules.specs.Steps.{step_count, ends, lower_end}
use Rattle.rules.specs.Cutting.{cut_of}
use Rattle.rules.specs.Matching.{ten_matches}
use Rattle.rules.specs.Payments.{on_step, initial, revised, modified}
use Rattle.rules.specs.Days.{step_of, settled_day}
use Rattle.rules.specs.Viewing.{view_of}
use Rattle.rules.specs.declared.Step.{Step}
use Rattle.rules.specs.declared.View.{View}
use Rattle.rules.specs.declared.Cut.{Cut}
use Rattle.laws.specs.Ints.{mi}
use Rattle.numbers.specs.Fives.{five_same}
use Rattle.cutter.specs.Arrays.{padded_at}
use Rattle.step_quantities.specs.declared.constrained.StepQuantities.{StepQuantities}
use Rattle.step_quantities.specs.Quantities.{quantities_on}
use Rattle.step_pool.specs.declared.pool_amounts.SidePool.{SidePool}
use Rattle.step_pool.specs.Amounts.{final_on, pool_at}
use Rattle.step_pool.specs.Parts.{off_initial}
use Rattle.laws.specs.Accepted.{AcceptedDay}
use Rattle.step_payments.specs.Sizes.{Sized}
use Rattle.step_payments.specs.Kinds.{SizeWithin, final_within}
use Rattle.step_payments.specs.Amounts.{minus_of}
use Rattle.step_inputs.specs.declared.inputs.Market.{Market}
use Rattle.step_inputs.specs.declared.inputs.LineTotals.{LineTotals}
use Rattle.step_inputs.specs.Inputs.{market_of, totals_of}
use Rattle.step_inputs.specs.Paid.{settled_sized}
use Rattle.day_pools.specs.Lines.{PoolFor, Payable, payable}
use Rattle.day_pools.proofs.Laws.{market_claw}
use Rattle.view.specs.Figures.{view_from, view_is}

-- with clawback off the final payments take back what the initial ones take back
pub finals_off : (x : Step) (claw : ℕ) (p : SidePool) → claw ≡ 0 → five (minus_of (initial x)) ≡ five (minus_of (final_on x claw p))
unfolding final_on minus_of
finals_off x claw p e =
    five_same (minus_of (initial x)) (minus_of (final_on x claw p)) (λ s l. ap mi (sym (off_initial x claw s (pool_at p s) e)))

-- a step's final payments within the limits
pub finals_within : (x : Step) (claw : ℕ) (p : SidePool) → Sized x → (s : ℕ) → SizeWithin (quantity_most * price_most) (final_on x claw p s)
unfolding final_on
finals_within x claw p z s = final_within x claw s (pool_at p s) z

-- C among the quantities of a step
pub constrained_is : (x : Step) (q : StepQuantities) → q ≡ quantities_on x → q.constrained ≡ on_step x
unfolding quantities_on
constrained_is x q e = ap (λ (z : StepQuantities). z.constrained) e

pub figures_are : (x : Step) (claw : ℕ) (p : SidePool) (w : ℕ) (q : StepQuantities) (t : List ℕ) (i r m f : List ℤ)
    → w ≡ x.upper - x.lower → q ≡ quantities_on x → t ≡ ten_matches q.constrained
    → i ≡ five (initial x) → r ≡ five (revised x) → m ≡ five (modified x) → f ≡ five (final_on x claw p)
    → ◌≡◌ {A = View} (record {
      initial = i;
      revised = r;
      modified = m;
      finals = f;
      number = 0;
      end = x.upper;
      width = w;
      actual = q.actual;
      price = x.price;
      flag = x.flag;
      operating = q.operating;
      pricing = q.pricing;
      agino = q.agino;
      msiq = q.msiq;
      constrained = q.constrained;
      matches = t;
      excess = q.excess;
    }) (view_from x claw p)
unfolding view_from quantities_on
figures_are x claw p w q t i r m f h1 h2 h3 h4 h5 h6 h7 = rw (h1, h3, h2, h4, h5, h6, h7)

-- the end before step j in the cutter's answer
cut_lower : (w : List ℕ) (j : ℕ) → get_or (0 ∷ (cut_of w).ends) j 0 ≡ lower_end w j
unfolding cut_of lower_end
cut_lower w zero = refl
cut_lower w (suc j) = padded_at 56 (ends w) j

pub lower_is : (d v : List ℕ) (k j lo : ℕ) (c : Cut) → v ≡ line_at d k → c ≡ cut_of v → lo ≡ get_or (0 ∷ c.ends) j 0 → lo ≡ lower_end (line_at d k) j
lower_is d v k j lo c e h g = g ∙ ap (λ (z : Cut). get_or (0 ∷ z.ends) j 0) (h ∙ ap cut_of e) ∙ cut_lower (line_at d k) j

-- step j of line k of an accepted day, with the pool of the line's side: it can be paid, and its figures are the view's
module _ (d : List ℕ) (a : AcceptedDay d) (k : ℕ) (l : k < line_count d) (p : SidePool) (g : PoolFor (settled_day d) (side (line_at d k)) p) (m : Market) (me : m ≡ market_of d) where
  pub step_payable : (j : ℕ) → j < step_count (line_at d k) → (x : Step) → x ≡ step_of d k j → (Sized x) × (Payable x m.clawback p)
  step_payable j h x e =
      let z = settled_sized d a in
      rw (e, market_claw d m me) (z.steps k l j h, payable (settled_day d) z k j l h p g)

  pub step_figures : (j : ℕ) (x : Step) (v : View) → x ≡ step_of d k j → v ≡ view_from x m.clawback p → v ≡ view_of d k j
  step_figures j x v e f = f ∙ (λ i. view_from (e i) (market_claw d m me i) p) ∙ view_is d k j p g

-- the pool of the side that a line's totals name
pub pool_there : (d v : List ℕ) (k : ℕ) (tb : List (List ℕ)) (t : LineTotals) (p : SidePool) → v ≡ line_at d k → t ≡ totals_of tb v → PoolFor (settled_day d) t.side p → PoolFor (settled_day d) (side (line_at d k)) p
unfolding totals_of
pool_there d v k tb t p e te h = subst (λ (s : ℕ). PoolFor (settled_day d) s p) (ap (λ (z : LineTotals). z.side) te ∙ ap side e) h
