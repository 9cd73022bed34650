-- `view::figures::figures` meets its contract.
use borrow.Author.Rules.{rules}
use Rattle.view.proofs.figures.Laws.{constrained_is, figures_are}
use Rattle.view.proofs.figures.figures.Goals as goal

pub payments_on-y-requires : goal.payments_on-y-requires
payments_on-y-requires c =
    (c.requires.0, c.requires.1, constrained_is c.args.x _ c.quantities_on-q.ensures)

pub returns : goal.returns
returns c =
    let paid = c.payments_on-y.ensures in
    figures_are _ _ _ _ _ _ _ _ _ _ c.saturating_sub.ensures c.quantities_on-q.ensures
    c.ten_matches.ensures paid.0 paid.1 paid.2 paid.3
