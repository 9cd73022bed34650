-- An entry was read and shown in each turn.
use Rattle.std.proofs.Common.{length}
use Rattle.std.specs.Fn.{CalledAt}
use Rattle.pack.proofs.Entries.{Turned}
use Rattle.pack.proofs.for_each.Given as goal

abbrev pub invariant-loop-turns : goal.invariant-loop-turns
invariant-loop-turns g l =
    goal.F-IsAlwaysCallable g l.show
    × Turned (CalledAt g.F.FnMut) (length l.initial.space) l.initial.show (g.R.Read.remaining l.initial.input) l.show (g.R.Read.remaining l.input) l.turns
