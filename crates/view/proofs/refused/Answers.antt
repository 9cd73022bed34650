-- `view::refused` meets its contract.
use mathlib.Core.Path.{refl}
use Rattle.rules.specs.Payments.{no_excess}
use Rattle.rules.specs.Viewing.{view_refused}
use Rattle.view.proofs.refused.Goals as goal

pub returns : goal.returns
unfolding view_refused no_excess
returns c = refl
