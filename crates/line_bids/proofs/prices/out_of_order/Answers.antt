-- `line_bids::prices::out_of_order` meets its contract.
use Rattle.std.proofs.Common.{arith}
use Rattle.numbers.specs.Turned.{turned_order}
use Rattle.line_bids.proofs.prices.out_of_order.Goals as goal

pub returns : goal.returns
returns c =
    let g = c.args in
    rw (c.turned.ensures, c.turned-2.ensures) (turned_order g.sd g.p g.q (omega arith))
