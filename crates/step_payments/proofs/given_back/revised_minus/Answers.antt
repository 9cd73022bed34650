-- `step_payments::given_back::revised_minus` meets its contract.
use mathlib.Core.Path.{refl}
use Rattle.step_payments.proofs.amounts.Joining.{revised_fits, revised_row}
use Rattle.step_payments.proofs.given_back.revised_minus.Goals as goal

pub revised_rows-requires : goal.revised_rows-requires
revised_rows-requires c = revised_fits c.args.x refl c.requires.1 c.requires.0

pub returns : goal.returns
returns c =
    revised_row c.args.x refl c.requires.1 c.requires.2 c.revised_rows.ensures
