-- A step and a day with min(Q, M) in place of each quantity Q that a line's steps share: the five pricing totals, the five operating totals
-- and the effective actual (document 02, F-2).
use Rattle.std.specs.Prelude.{ℕ, min, List}
use Rattle.rules.specs.Fold.{five, at}
use Rattle.rules.specs.Payments.{Day, no_excess}
use Rattle.rules.specs.Days.{step_of, day_with}
use Rattle.rules.specs.declared.Step.{Step}
use Rattle.rules.specs.declared.View.{View}

abbrev pub within_bid : Step → Step
within_bid x =
    record {
      side = x.side;
      lower = x.lower;
      upper = x.upper;
      price = x.price;
      flag = x.flag;
      market = x.market;
      paid = x.paid;
      pricing = five (λ s. min (at x.pricing s) x.most);
      operating = five (λ s. min (at x.operating s) x.most);
      actual = min x.actual x.most;
      most = x.most;
    }

-- the day file d with its steps so
abbrev pub day_within : List ℕ → Day
day_within d = day_with d (λ k j. within_bid (step_of d k j))

-- a view's answer with no excess
abbrev pub without_excess : View → View
without_excess v =
    record {
      initial = v.initial;
      revised = v.revised;
      modified = v.modified;
      finals = v.finals;
      number = v.number;
      end = v.end;
      width = v.width;
      actual = v.actual;
      price = v.price;
      flag = v.flag;
      operating = v.operating;
      pricing = v.pricing;
      agino = v.agino;
      msiq = v.msiq;
      constrained = v.constrained;
      matches = v.matches;
      excess = no_excess;
    }
