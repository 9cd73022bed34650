-- A day file as its steps, from which settling works out everything else (document 01, "Steps and prices", "Quantities", "Payments").
use Rattle.std.specs.Prelude.{ℕ, List}
use Rattle.rules.specs.Fold.{five}
use Rattle.rules.specs.Layout.{line_count, market_price, clawback, line_at, participant, point, side}
use Rattle.rules.specs.Steps.{greatest_break, step_count, upper_end, lower_end, price, flag, capped, paid}
use Rattle.rules.specs.Quantities.{pricing_total}
use Rattle.rules.specs.InForce.{operating_total, effective_actual}
use Rattle.rules.specs.declared.Step.{Step}
use Rattle.rules.specs.Payments.{bit, Day}

-- step j of line k of the file d: its price, "Then, if the cap mark of s is 1, .. the lesser of it and APC"; its flag; whether it is paid
unfoldable pub step_of : List ℕ → ℕ → ℕ → Step
step_of d k j =
    record {
      side = side (line_at d k);
      lower = lower_end (line_at d k) j;
      upper = upper_end (line_at d k) j;
      price = five (λ s. capped d s (price (line_at d k) s (upper_end (line_at d k) j)));
      flag = five (λ s. flag (line_at d k) s (upper_end (line_at d k) j));
      market = five (market_price d);
      paid = five (λ s. bit (paid (line_at d k) (upper_end (line_at d k) j) s));
      pricing = five (pricing_total (line_at d k));
      operating = five (operating_total d k);
      actual = effective_actual d k;
      most = greatest_break (line_at d k);
    }

-- the lines of the file d, with the steps x
abbrev pub day_with : List ℕ → (ℕ → ℕ → Step) → Day
day_with d x =
    record {
      lines = line_count d;
      participant = λ k. participant (line_at d k);
      point = λ k. point (line_at d k);
      side = λ k. side (line_at d k);
      count = λ k. step_count (line_at d k);
      step = x;
      clawback = clawback d;
    }

-- with its own steps: the day that settling settles
abbrev pub settled_day : List ℕ → Day
settled_day d = day_with d (step_of d)
