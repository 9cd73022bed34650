-- The answer of the uplift call: the five shares and 0, or zeros and the refusal's number.
use Rattle.std.specs.Prelude.{List, ℤ, pos, Result, Ok, Err}
use Rattle.rules.specs.Fold.{five}
use Rattle.rules.specs.declared.Uplift.{Uplift}
use Rattle.refusals.specs.declared.Refusal.{Refusal}
use Rattle.refusals.specs.Numbers.{number}

abbrev pub answer_of : Result (List ℤ) Refusal → Uplift
answer_of (Ok shares) = record { shares = shares; number = 0 }
answer_of (Err refusal) = record { shares = five (λ s. pos 0); number = number refusal }
