-- `step_inputs::day_line::DayLine::step_here` meets its contract.
use native.Mathlib.Omega.{arith}
use Rattle.cutter.proofs.positions.Laws.{limit}
use Rattle.step_inputs.proofs.Lines.{step_ready}
use Rattle.step_inputs.proofs.day_line.DayLine.step_here.Goals as goal

pub overflow_add-upper : goal.overflow_add-upper
overflow_add-upper c = record { fits = omega (arith, limit c.requires.0.swept c.requires.1) }

pub overflow_add-upper-2 : goal.overflow_add-upper-2
overflow_add-upper-2 c = record { fits = omega (arith, limit c.requires.0.swept c.requires.1) }

pub step_here-requires : goal.step_here-requires
step_here-requires c =
    let line = c.args.self.now in
    step_ready line.ready c.requires.0 c.requires.1 line.market _ line.market_is c.requires.2
