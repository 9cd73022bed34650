-- `day_paid::pay_initial` meets its contract: after k turns the first k lines are paid and added up.
use Prim.Native.Nat.{◌-◌, ◌≤◌}
use mathlib.Core.Path.{◌≡◌}
use lib.Seq.{sets}
use native.Mathlib.Omega.{arith}
use borrow.Author.Rules.{rules}
use Rattle.rules.specs.Fold.{list_to}
use Rattle.rules.specs.Days.{settled_day}
use Rattle.step_inputs.specs.Paid.{settled_sized}
use Rattle.day_pools.specs.Sums.{money_to}
use Rattle.day_pools.specs.Lines.{no_money_lem}
use Rattle.day_paid.specs.Sums.{line_money}
use Rattle.day_paid.specs.Paid.{payments_to, payments_none, payments_next, counts_none, counts_next}
use Rattle.day_paid.proofs.Laws.{total_addable, lines_next, lines_paid}
use Rattle.day_paid.proofs.pay_initial.Given as goal

abbrev pub invariant-loop-k : goal.invariant-loop-k
invariant-loop-k l = (l.total ≡ money_to l.k (line_money (settled_day l.day))) × (l.paid ≡ sets l.initial.paid 0 (payments_to (settled_day l.day) l.k))
    × (l.counts ≡ sets l.initial.counts 0 (list_to l.k (settled_day l.day).count))
