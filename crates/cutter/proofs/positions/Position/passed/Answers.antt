-- `cutter::positions::Position::passed` meets its contract.
use Rattle.std.proofs.Common.{arith, refl, sym, subst, ℕ}
use Rattle.cutter_cursors.specs.Sweep.{SweepAt}
use Rattle.cutter.proofs.positions.Laws.{limit, room, swept_on}
use Rattle.cutter.proofs.positions.Position.passed.Goals as goal

pub passed-places-requires : goal.passed-places-requires
passed-places-requires c =
    (subst (λ (x : ℕ). SweepAt c.args.line.now c.args.self.places x) (sym c.requires.2) c.requires.0.here, omega (arith, limit c.requires.0 c.requires.1))

pub next_gap-requires : goal.next_gap-requires
next_gap-requires c =
    (record { line = c.requires.0.here.line; above = omega arith; same = c.passed-places.ensures }, omega (arith, limit c.requires.0 c.requires.1))

pub overflow_add-result : goal.overflow_add-result
overflow_add-result c = omega (arith, room c.requires.0 c.requires.1)

pub returns : goal.returns
returns c = (swept_on c.requires.0 c.requires.1 c.requires.2 c.next_gap.ensures.value c.next_gap.ensures.sweep_at, refl, refl)
