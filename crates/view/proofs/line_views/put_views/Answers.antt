-- `view::line_views::put_views` meets its contract: the line of the accepted day is put together.
use native.Mathlib.Omega.{arith}
use Rattle.laws.specs.Accepted.{accepted_day}
use Rattle.view.proofs.line_views.put_views.Goals as goal

pub market_of-requires : goal.market_of-requires
market_of-requires c = omega (arith, (accepted_day c.args.day.now c.requires.0).header.length_least)

pub new-requires : goal.new-requires
new-requires c = (accepted_day c.args.day.now c.requires.0, c.requires.1, c.market_of.ensures)
