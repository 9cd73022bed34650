-- `view::figures::final_minus` meets its contract.
use mathlib.Core.Path.{◌∙◌}
use Rattle.step_pool.proofs.pool_amounts.Settling.{of_minus, shares_final, shares_fit}
use Rattle.view.proofs.figures.Laws.{finals_off}
use Rattle.view.proofs.figures.final_minus.Goals as goal

pub returns-then-claw-eq0 : goal.returns-then-claw-eq0
returns-then-claw-eq0 c =
    let g = c.args in
    of_minus g.x g.v c.requires.2 ∙ finals_off g.x g.claw g.p c.if-claw-eq0.true

pub final_rows-requires : goal.final_rows-requires
final_rows-requires c =
    let r = c.requires in
    let shares = c.shares_of.ensures in
    (shares_fit c.args.x c.args.p shares.0 shares.1 r.0 (r.1.pooled c.if-claw-eq0.false), r.2, r.3, r.4)

pub returns-else-claw-eq0 : goal.returns-else-claw-eq0
returns-else-claw-eq0 c =
    let g = c.args in
    let shares = c.shares_of.ensures in
    shares_final g.x g.claw g.p c.if-claw-eq0.false shares.0 shares.1 c.final_rows.ensures
