-- `view::figures::step_view` meets its contract.
use Rattle.view.proofs.figures.Laws.{step_payable, step_figures}
use Rattle.view.proofs.figures.step_view.Goals as goal

pub figures-requires : goal.figures-requires
figures-requires c =
    let line = c.args.line.now in
    step_payable line.day.now line.ready.accepted line.k line.ready.there c.args.p c.requires.1
    _ line.market_is c.args.j c.requires.0.step _ c.step_at-x.ensures

pub returns : goal.returns
returns c =
    let line = c.args.line.now in
    step_figures line.day.now line.ready.accepted line.k line.ready.there c.args.p c.requires.1
    _ line.market_is c.args.j _ _ c.step_at-x.ensures c.figures.ensures
