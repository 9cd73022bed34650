-- `cutter::cut` meets its contract.
use Rattle.refusals.specs.Laws.{refused}
use Rattle.cutter.proofs.Answers.{cut_short, cut_refused_lem, cut_line, cut_whole}
use Rattle.cutter.proofs.cut.Goals as goal

pub returns-in_default : goal.returns-in_default
returns-in_default c = cut_short _ c.in_default.ensures.cases c.refused.ensures

pub steps-requires : goal.steps-requires
steps-requires c = cut_line c.in-Some.ensures.cases c.in-Ok.ensures

pub returns-in-Ok : goal.returns-in-Ok
returns-in-Ok c = cut_whole c.in-Some.ensures.cases c.in-Ok.ensures c.steps.ensures

pub returns-in-Err : goal.returns-in-Err
returns-in-Err c = cut_refused_lem c.in-Some.ensures.cases c.in-Err.ensures (refused _) c.refused-in-Err.ensures
