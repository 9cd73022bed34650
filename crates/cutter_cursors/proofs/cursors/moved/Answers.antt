-- `cutter_cursors::cursors::moved` meets its contract.
use Rattle.std.proofs.Common.{eqb, arith}
use Rattle.cutter_cursors.specs.Places.{place_least, place_most}
use Rattle.cutter_cursors.proofs.cursors.Moves.{bit_most, moved_is}
use Rattle.cutter_cursors.proofs.cursors.moved.Goals as goal

pub stop_of-requires : goal.stop_of-requires
stop_of-requires c =
    (c.requires.0.schedule, place_least c.requires.0, place_most c.requires.0)

pub overflow_add-result : goal.overflow_add-result
overflow_add-result c =
    omega (arith, place_most c.requires.0, bit_most (eqb c.stop_of.result c.args.u))

pub returns : goal.returns
returns c =
    moved_is c.requires.0 c.requires.1 c.stop_of.ensures c.from.ensures
