-- The quantities of one step, as the code answers them together.
use Rattle.rules.specs.Fold.{five}
use Rattle.rules.specs.Payments.{operating_on, pricing_on, actual_on, excess_of, agino_on, msiq_on, on_step}
use Rattle.rules.specs.declared.Step.{Step}
use Rattle.step_quantities.specs.declared.constrained.StepQuantities.{StepQuantities}

unfoldable pub quantities_on : Step → StepQuantities
quantities_on x =
    record {
      operating = five (operating_on x);
      pricing = five (pricing_on x);
      actual = actual_on x;
      agino = five (agino_on x);
      msiq = five (msiq_on x);
      constrained = on_step x;
      excess = excess_of x;
    }
