-- Line k of an accepted day: where its bytes lie, and that it is accepted with its rows in force.
use Prim.Native.Nat.{ℕ, ◌+◌, ◌*◌, ◌≤◌, ◌<◌}
use native.Mathlib.Omega.{arith}
use mathlib.Core.Path.{◌≡◌, sym, ◌∙◌, ap, subst}
use mathlib.Core.List.{List}
use lib.ListN.{length}
use Rattle.rules.specs.Layout.{line_count, line_place, file_length, line_at}
use Rattle.rules.specs.Refusals.{line_fault_with}
use Rattle.rules.specs.InForce.{table_in_force}
use Rattle.laws.specs.Accepted.{AcceptedLine, AcceptedDay, accepted_line_at}
use Rattle.layout.proofs.header.Lent.{line_length}
use Rattle.cutter_cursors.specs.Sweep.{Line}
use Rattle.cutter_cursors.specs.Sweep.{far}
use Rattle.cutter_cursors.specs.declared.cursors.Sweep.{Sweep}
use Rattle.cutter_prices.specs.Step.{slots_of}
use Rattle.cutter_prices.specs.declared.Slots.{Slots}
use Rattle.cutter.proofs.positions.Laws.{end_is}
use Rattle.step_inputs.specs.declared.inputs.Market.{Market}
use Rattle.step_inputs.specs.declared.inputs.LineTotals.{LineTotals}
use Rattle.step_inputs.specs.Inputs.{market_of, totals_of, StepHere}
use Rattle.step_inputs.specs.Ready.{LineReady, PastHedge}

module _ (d : List ℕ) (a : AcceptedDay d) (k : ℕ) (l : k < line_count d) where
  pub line_lies : (64 ≤ length d) × (k < 64) × (line_place d (k + 1) ≤ length d)
  line_lies = (omega (arith, a.header.length_least), omega (arith, a.header.count_most), omega (arith, a.header.length_is))

  pub lent_length : (v : List ℕ) → v ≡ line_at d k → length v ≡ 660
  lent_length v e = ap length e ∙ line_length d k line_lies.2

  -- what its rows in force are read from
  pub table_lies : (v : List ℕ) → v ≡ line_at d k → (64 ≤ length d) × (file_length d ≤ length d) × (length v ≡ 660) × (v ≡ line_at d k)
  table_lies v e = (line_lies.0, omega (arith, a.header.length_is), lent_length v e, e)

  pub lent_with : (v : List ℕ) → v ≡ line_at d k → (tb : List (List ℕ)) → tb ≡ table_in_force d k → line_fault_with tb v ≡ 0
  lent_with v e tb be = rw (e, be) (a.line_fault_lem k l)

  pub lent_line : (v : List ℕ) → v ≡ line_at d k → Line v
  lent_line v e = record { long = lent_length v e; accepted = subst AcceptedLine (sym e) (accepted_line_at d a k l) }

  pub ready_is : (v : List ℕ) (tb : List (List ℕ)) (t : LineTotals) → v ≡ line_at d k → tb ≡ table_in_force d k → t ≡ totals_of tb v → LineReady d k v t
  ready_is v tb t e be te =
      record { accepted = a; there = l; line = e; totals = te ∙ ap (λ (z : List (List ℕ)). totals_of z v) be }

-- the step before which the sweep over the line stands
pub step_ready : {d : List ℕ} {k : ℕ} {w : List ℕ} {t : LineTotals} → LineReady d k w t → {j : ℕ} {at : Sweep} {e g : ℕ} → PastHedge w j at e g → g < far
    → (m : Market) (c : Slots) → m ≡ market_of d → c ≡ slots_of w → StepHere d k w m t c at e (e + 1 + g) j
step_ready h v l m c me ce =
    record {
      line = h.line;
      market = me;
      totals = h.totals;
      prices = ce;
      here = v.swept.here;
      lower = v.swept.last;
      upper = end_is v.swept l;
      past = v.past l;
    }
