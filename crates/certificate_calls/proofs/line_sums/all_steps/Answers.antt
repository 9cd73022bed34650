-- `certificate_calls::line_sums::all_steps` meets its contract: by the certificate's clauses on sums.
use Rattle.certificate_calls.specs.Lines.{addable}
use Rattle.certificate_calls.proofs.line_sums.all_steps.Goals as goal

pub with_step-sums-requires : goal.with_step-sums-requires
with_step-sums-requires c =
    addable c.args.day.now c.args.line c.args.count c.requires.0 c.loop-j.j
    _ _ c.loop-j-test.true c.loop-j.invariant c.view.ensures
