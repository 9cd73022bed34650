use Rattle.std.proofs.Common.{◌≡◌, ◌≤◌, ◌-◌}
use Rattle.rules.specs.Fold.{first}
use Rattle.rules.specs.Refusals.{break_fault, bid_fault}
use Rattle.line.specs.Parts.{line_from}
use Rattle.line.proofs.check_lines.Given as goal

abbrev pub invariant-loop-j : goal.invariant-loop-j
invariant-loop-j l = first (break_fault l.line l.s) l.j ≡ 0

abbrev pub invariant-loop-s : goal.invariant-loop-s
invariant-loop-s l = first (bid_fault l.line) l.s ≡ 0

abbrev pub invariant-lines : goal.invariant-lines
invariant-lines l = (l.k ≤ l.n) × (first (line_from l.b l.at l.records l.count) l.k ≡ 0)

abbrev pub decreases-lines : goal.decreases-lines
decreases-lines l = l.n - l.k
