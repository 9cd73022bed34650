use Rattle.std.proofs.Common.{◌≡◌, ◌-◌}
use Rattle.rules.specs.Fold.{first}
use Rattle.rules.specs.Refusals.{unused_fault}
use Rattle.line_bids.proofs.unused_slots.check_unused.Given as goal

abbrev pub invariant-loop-j : goal.invariant-loop-j
invariant-loop-j l = first (unused_fault l.line l.s) (l.j - l.count) ≡ 0
