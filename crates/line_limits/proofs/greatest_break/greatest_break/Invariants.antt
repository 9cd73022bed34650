use Rattle.std.proofs.Common.{◌≡◌}
use Rattle.rules.specs.Fold.{most_to}
use Rattle.rules.specs.Steps.{bid_most}
use Rattle.line_limits.proofs.greatest_break.greatest_break.Given as goal

abbrev pub invariant-loop-s : goal.invariant-loop-s
invariant-loop-s l = l.most ≡ most_to l.s (bid_most l.line)
