-- The market table and a line's totals as the code holds them, and a step put together from them.
use Rattle.std.specs.Prelude.{ℕ, ◌<◌, ◌≡◌, List}
use Rattle.rules.specs.Fold.{five}
use Rattle.rules.specs.Layout as layout
use Rattle.rules.specs.Quantities.{pricing_total, table_total, table_actual}
use Rattle.rules.specs.Steps.{greatest_break, step_count, upper_end, lower_end}
use Rattle.rules.specs.InForce.{table_in_force}
use Rattle.rules.specs.Cutting.{cut_of}
use Rattle.rules.specs.declared.Step.{Step}
use Rattle.laws.specs.Accepted.{AcceptedLine}
use Rattle.cutter_cursors.specs.Sweep.{SweepAt}
use Rattle.cutter_cursors.specs.declared.cursors.Sweep.{Sweep}
use Rattle.cutter_prices.specs.Step.{slots_of}
use Rattle.cutter_prices.specs.declared.Slots.{Slots}
use Rattle.step_inputs.specs.declared.inputs.Market.{Market}
use Rattle.step_inputs.specs.declared.inputs.LineTotals.{LineTotals}
use Rattle.step_terms.specs.Terms.{capped_in, accredited_in, paid_row}

unfoldable pub market_of : List ℕ → Market
market_of d =
    record {
      price = five (layout.market_price d);
      mark = five (layout.cap_mark d);
      cap = layout.price_cap d;
      clawback = layout.clawback d;
    }

-- the totals of a line, with a table of operating quantities
unfoldable pub totals_of : List (List ℕ) → List ℕ → LineTotals
totals_of t w =
    record {
      side = layout.side w;
      accredited = five (accredited_in (layout.accreditation w));
      hedge = layout.hedge w;
      pricing = five (pricing_total w);
      operating = five (table_total t);
      actual = table_actual t w;
      most = greatest_break w;
    }

unfoldable pub step_with : Market → LineTotals → ℕ → ℕ → List ℕ → List ℕ → Step
step_with m t l u p f =
    record {
      side = t.side;
      lower = l;
      upper = u;
      price = five (capped_in m.mark m.cap p);
      flag = f;
      market = m.price;
      paid = paid_row t.accredited t.hedge u;
      pricing = t.pricing;
      operating = t.operating;
      actual = t.actual;
      most = t.most;
    }

-- what a step is put together from: step j of line k of the day d, whose line is accepted
pub record StepReady (d : List ℕ) (k : ℕ) (m : Market) (t : LineTotals) (es ps fs : List ℕ) (lo j : ℕ) : Type 0 where
  pub accepted : AcceptedLine (layout.line_at d k)
  pub step : j < step_count (layout.line_at d k)
  pub market : m ≡ market_of d
  pub totals : t ≡ totals_of (table_in_force d k) (layout.line_at d k)
  pub ends : es ≡ (cut_of (layout.line_at d k)).ends
  pub prices : ps ≡ (cut_of (layout.line_at d k)).prices
  pub flags : fs ≡ (cut_of (layout.line_at d k)).flags
  pub lower : lo ≡ lower_end (layout.line_at d k) j

-- what a step is put together from where the sweep stands: step j of line k of the day d, whose bytes are w, past the hedge
pub record StepHere (d : List ℕ) (k : ℕ) (w : List ℕ) (m : Market) (t : LineTotals) (slots : Slots) (places : Sweep) (lo up j : ℕ) : Type 0 where
  pub line : w ≡ layout.line_at d k
  pub market : m ≡ market_of d
  pub totals : t ≡ totals_of (table_in_force d k) w
  pub prices : slots ≡ slots_of w
  pub here : SweepAt w places up
  pub lower : lo ≡ lower_end w j
  pub upper : up ≡ upper_end w j
  pub past : layout.hedge w < up
