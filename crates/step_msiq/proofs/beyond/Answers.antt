-- `step_msiq::beyond` meets its contract.
use native.Mathlib.Omega.{arith}
use Rattle.numbers.specs.Turned.{turned_beyond}
use Rattle.step_msiq.proofs.beyond.Goals as goal

pub returns : goal.returns
returns c =
    let g = c.args in
    rw (c.turned.ensures, c.turned-2.ensures) (turned_beyond g.side g.price g.market (omega arith))
