-- Rows and records of a step's inputs, from what the code has read.
use Prim.Native.Nat.{ℕ, ◌+◌, ◌^◌, ◌≤◌, ◌<◌}
use native.Mathlib.Omega.{arith}
use mathlib.Core.Path.{◌≡◌, sym, ◌∙◌, ap, subst}
use mathlib.Core.List.{List, []}
use lib.ListN.{get_or}
use borrow.Author.Tests.{lt-leb}
use Rattle.rules.specs.Fold.{five, at, sum_to}
use Rattle.rules.specs.Layout as layout
use Rattle.rules.specs.Layout.{excess_most, actual_entry}
use Rattle.rules.specs.Steps.{greatest_break, upper_end, lower_end, price, flag}
use Rattle.rules.specs.Quantities.{pricing_total, table_total, table_actual}
use Rattle.rules.specs.Refusals.{line_fault_with}
use Rattle.rules.specs.InForce.{table_in_force}
use Rattle.rules.specs.Cutting.{cut_of}
use Rattle.rules.specs.Days.{step_of}
use Rattle.rules.specs.declared.Step.{Step}
use Rattle.laws.specs.Folds.{at_five}
use Rattle.laws.specs.Accepted.{accepted_with}
use Rattle.line_totals.specs.Sums.{lesser_sum, lesser_at}
use Rattle.cutter_cursors.specs.declared.cursors.Sweep.{Sweep}
use Rattle.cutter_prices.specs.Step.{step_rows}
use Rattle.cutter_prices.specs.declared.Slots.{Slots}
use Rattle.cutter_prices.specs.declared.StepRows.{StepRows}
use Rattle.cutter.specs.Arrays.{price_in, flag_in}
use Rattle.cutter.specs.Ends.{most_limit}
use Rattle.step_inputs.specs.declared.inputs.Market.{Market}
use Rattle.step_inputs.specs.declared.inputs.LineTotals.{LineTotals}
use Rattle.step_inputs.specs.Inputs.{market_of, totals_of, step_with, StepReady, StepHere}
use Rattle.step_terms.specs.Terms.{capped_in, accredited_in, paid_row}
use Rattle.step_inputs.specs.Steps.{end_is, step_parts, step_is, actual_most}

pub market_is : (d p m : List ℕ) (c k : ℕ) → p ≡ five (layout.market_price d) → m ≡ five (layout.cap_mark d) → c ≡ layout.price_cap d → k ≡ layout.clawback d
    → ◌≡◌ {A = Market} (record { price = p; mark = m; cap = c; clawback = k }) (market_of d)
unfolding market_of
market_is d p m c k a b e f = rw (a, b, e, f)

-- totals of a line that is accepted with the table t fit a word
module _ (t : List (List ℕ)) (w : List ℕ) (z : line_fault_with t w ≡ 0) where
  row_narrow : (f : ℕ → ℕ) (row : List ℕ) → ((s : ℕ) → s < 5 → f s ≤ greatest_break w + excess_most) → row ≡ five f → (s : ℕ) → s < 5 → at row s < 2 ^ 32
  row_narrow f row h e s l =
      let m = most_limit w (accepted_with t w z).line in
      let g = h s l in
      subst (λ (r : List ℕ). at r s < 2 ^ 32) (sym e) (subst (λ (v : ℕ). v < 2 ^ 32) (sym (at_five f 0 s l)) (omega arith))

  pub pricing_narrow : (row : List ℕ) → row ≡ five (pricing_total w) → (s : ℕ) → s < 5 → at row s < 2 ^ 32
  pricing_narrow row e = row_narrow (pricing_total w) row (accepted_with t w z).line.pricing_most e

  pub operating_narrow : (row : List ℕ) → row ≡ five (table_total t) → (s : ℕ) → s < 5 → at row s < 2 ^ 32
  operating_narrow row e = row_narrow (table_total t) row (accepted_with t w z).operating_most e

  -- the effective actual from the table's last row
  pub actual_is : (a : List ℕ) (x : ℕ) → a ≡ five (actual_entry w) → x ≡ lesser_sum (get_or t 4 []) a → x ≡ table_actual t w
  unfolding lesser_sum lesser_at table_actual sum_to
  actual_is a x h g = g ∙ rw h

  pub actual_narrow : (x : ℕ) → x ≡ table_actual t w → x < 2 ^ 32
  actual_narrow x e =
      let m = most_limit w (accepted_with t w z).line in
      let g = (accepted_with t w z).operating_most 4 (omega arith) in
      let b = actual_most t w in
      omega arith

  narrowed : (f : ℕ → ℕ) (q p : List ℕ) → q ≡ five (at p) → p ≡ five f → q ≡ five f
  narrowed f q p e h = e ∙ ap (λ (x : List ℕ). five (at x)) h

  pub totals_are : (sd ac hg v g : ℕ) (m p p' o o' : List ℕ)
      → sd ≡ layout.side w → ac ≡ layout.accreditation w → m ≡ five (accredited_in ac) → hg ≡ layout.hedge w
      → p ≡ five (pricing_total w) → p' ≡ five (at p) → o ≡ five (table_total t) → o' ≡ five (at o) → v ≡ table_actual t w → g ≡ greatest_break w
      → ◌≡◌ {A = LineTotals} (record { side = sd; accredited = m; hedge = hg; pricing = p'; operating = o'; actual = v; most = g }) (totals_of t w)
  unfolding totals_of
  totals_are sd ac hg v g m p p' o o' a b q c d e f i h j =
      let pe : p' ≡ five (pricing_total w) = narrowed (pricing_total w) p' p e d in
      let oe : o' ≡ five (table_total t) = narrowed (table_total t) o' o i f in
      rw (a, q, b, c, pe, oe, h, j)

pub step_from_is : (m : Market) (t : LineTotals) (l u : ℕ) (p f q r : List ℕ)
    → q ≡ five (capped_in m.mark m.cap p) → r ≡ paid_row t.accredited t.hedge u
    → ◌≡◌ {A = Step} (record { side = t.side; lower = l; upper = u; price = q; flag = f; market = m.price; paid = r; pricing = t.pricing; operating = t.operating; actual = t.actual; most = t.most }) (step_with m t l u p f)
unfolding step_with
step_from_is m t l u p f q r a b = rw (a, b)

-- the step that is put together from what the cutter answers for its line
pub step_ready : (d : List ℕ) (k : ℕ) (m : Market) (t : LineTotals) (es ps fs : List ℕ) (lo j : ℕ) → StepReady d k m t es ps fs lo j
    → (up : ℕ) (p f : List ℕ) (x : Step) → up ≡ get_or es j 0 → p ≡ five (price_in ps j) → f ≡ five (flag_in fs j) → x ≡ step_with m t lo up p f → x ≡ step_of d k j
step_ready d k m t es ps fs lo j r up p f x ue pe fe xe =
    let w = layout.line_at d k in
    let ue' : up ≡ upper_end w j = ue ∙ ap (λ (l : List ℕ). get_or l j 0) r.ends ∙ end_is w r.accepted j r.step in
    let pe' : p ≡ five (price_in (cut_of w).prices j) = pe ∙ ap (λ (l : List ℕ). five (price_in l j)) r.prices in
    let fe' : f ≡ five (flag_in (cut_of w).flags j) = fe ∙ ap (λ (l : List ℕ). five (flag_in l j)) r.flags in
    let same : step_with m t lo up p f
    ≡ step_with (market_of d) (totals_of (table_in_force d k) w) (lower_end w j) (upper_end w j) (five (price_in (cut_of w).prices j)) (five (flag_in (cut_of w).flags j)) =
    rw (r.market, r.totals, r.lower, ue', pe', fe') in
    xe ∙ same ∙ step_is d k j r.accepted r.step

-- past the hedge a step is paid where its line is accredited
pub unhedged : (t : LineTotals) (u : ℕ) → t.hedge < u → t.accredited ≡ paid_row t.accredited t.hedge u
unfolding paid_row
unhedged t u h = rw (lt-leb u t.hedge h)

-- the step that is put together where the sweep stands
pub step_there : (d : List ℕ) (k : ℕ) (w : List ℕ) (m : Market) (t : LineTotals) (c : Slots) (at : Sweep) (lo up j : ℕ) → StepHere d k w m t c at lo up j
    → (r : StepRows) (x : Step) → r ≡ step_rows w up → x ≡ step_with m t lo up r.price r.flag → x ≡ step_of d k j
unfolding step_rows
step_there d k w m t c at lo up j h r x re xe =
    let v = layout.line_at d k in
    let pe : r.price ≡ five (λ s. price v s (upper_end v j)) = ap (λ (z : StepRows). z.price) re ∙ rw (h.upper, h.line) in
    let fe : r.flag ≡ five (λ s. flag v s (upper_end v j)) = ap (λ (z : StepRows). z.flag) re ∙ rw (h.upper, h.line) in
    let same : step_with m t lo up r.price r.flag ≡ step_with (market_of d) (totals_of (table_in_force d k) v) (lower_end v j) (upper_end v j) r.price r.flag =
    rw (h.market, h.totals, h.lower, h.upper, h.line) in
    xe ∙ same ∙ step_parts d k j r.price r.flag pe fe

pub past_hedge : {d : List ℕ} {k : ℕ} {w : List ℕ} {m : Market} {t : LineTotals} {c : Slots} {at : Sweep} {lo up j : ℕ} → StepHere d k w m t c at lo up j → t.hedge < up
unfolding totals_of
past_hedge {d} {k} {w} {m} {t} {c} {at} {lo} {up} h = subst (λ (z : LineTotals). z.hedge < up) (sym h.totals) h.past
