-- Document 01, "Totals and book": the step view's whole answer.
use Rattle.std.specs.Prelude.{ℕ, ◌-◌, List, cond, replicate, eqb, ℤ, pos}
use Rattle.rules.specs.Fold.{five}
use Rattle.rules.specs.Refusals.{view_fault}
use Rattle.rules.specs.Matching.{ten_matches}
use Rattle.rules.specs.Payments.{operating_on, pricing_on, actual_on, excess_of, no_excess, agino_on, msiq_on, on_step, initial, revised, modified, step_final}
use Rattle.rules.specs.Days.{step_of, settled_day}
use Rattle.rules.specs.declared.Step.{Step}
use Rattle.rules.specs.declared.View.{View}

-- "For all schedules it answers upper end, width, price, flag, O, E, A, AGINO, MSIQ, C, the ten matches and the four kinds of payment":
-- of a step, with its final payments. "A step's width is its upper end less the one before" (document 01, "Steps and prices"). "The view
-- shows this excess for pricing, operating and effective actual" (document 02, F-2)
abbrev pub figures_of : Step → List ℤ → View
figures_of x finals =
    record {
      initial = five (initial x);
      revised = five (revised x);
      modified = five (modified x);
      finals = finals;
      number = 0;
      end = x.upper;
      width = x.upper - x.lower;
      actual = actual_on x;
      price = x.price;
      flag = x.flag;
      operating = five (operating_on x);
      pricing = five (pricing_on x);
      agino = five (agino_on x);
      msiq = five (msiq_on x);
      constrained = on_step x;
      matches = ten_matches (on_step x);
      excess = excess_of x;
    }

unfoldable pub view_of : List ℕ → ℕ → ℕ → View
view_of d k j = figures_of (step_of d k j) (five (λ s. step_final (settled_day d) s k j))

-- "A refused cutter or view answers the number and zeros"
unfoldable pub view_refused : ℕ → View
view_refused n =
    record {
      initial = replicate 5 (pos 0);
      revised = replicate 5 (pos 0);
      modified = replicate 5 (pos 0);
      finals = replicate 5 (pos 0);
      number = n;
      end = 0;
      width = 0;
      actual = 0;
      price = replicate 5 0;
      flag = replicate 5 0;
      operating = replicate 5 0;
      pricing = replicate 5 0;
      agino = replicate 5 0;
      msiq = replicate 5 0;
      constrained = replicate 5 0;
      matches = replicate 10 0;
      excess = no_excess;
    }

-- "The step view takes day file, line and step"
unfoldable pub view_answer : List ℕ → ℕ → ℕ → View
view_answer d k j = cond (eqb (view_fault d k j) 0) (view_of d k j) (view_refused (view_fault d k j))
