-- What allocation answers: of one quantity and of the totals of five schedules, what a step takes and what no step takes.
use Rattle.std.specs.Prelude.{ℕ, List}
use Rattle.rules.specs.Fold.{five, at}
use Rattle.rules.specs.Quantities.{allocated, untaken}
use Rattle.rules.specs.Payments.{operating_on, pricing_on, actual_on, excess_of}
use Rattle.rules.specs.declared.Step.{Step}
use Rattle.step_allocation.specs.declared.Allocation.{Allocation}

-- q on the step from l to u of a line whose steps end at m
unfoldable pub allocation : ℕ → ℕ → ℕ → ℕ → Allocation ℕ
allocation q l u m = record { taken = allocated q l u; excess = untaken q m }

-- the totals q on that step
unfoldable pub allocations : List ℕ → ℕ → ℕ → ℕ → Allocation (List ℕ)
allocations q l u m =
    record {
      taken = five (λ s. allocated (at q s) l u);
      excess = five (λ s. untaken (at q s) m);
    }

-- O, E and A of a step, each with its excess
unfoldable pub operating_allocations : Step → Allocation (List ℕ)
operating_allocations x = record { taken = five (operating_on x); excess = (excess_of x).operating }

unfoldable pub pricing_allocations : Step → Allocation (List ℕ)
pricing_allocations x = record { taken = five (pricing_on x); excess = (excess_of x).pricing }

unfoldable pub actual_allocation : Step → Allocation ℕ
actual_allocation x = record { taken = actual_on x; excess = (excess_of x).actual }
