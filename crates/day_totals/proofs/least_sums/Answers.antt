-- `day_totals::least_sums` meets its contract, from the last schedule back.
use mathlib.Core.Path.{◌≡◌, sym}
use native.Mathlib.Omega.{arith}
use borrow.Author.Rules.{rules}
use Rattle.std.specs.Prelude.{length, pos}
use Rattle.rules.specs.Fold.{at_z}
use Rattle.day_totals.specs.Parts.{least_of, least_last}
use Rattle.day_totals.specs.Rows.{row_stands, row_back_kept, row_back, row_back_done}
use Rattle.day_totals.proofs.Least.{sum_fits, least_is}
use Rattle.day_totals.proofs.least_sums.Goals as goal

pub loop-s-init : goal.loop-s-init
loop-s-init c =
    let t = c.args.t in
    let h : length t ≡ 5 = search rules in
    row_back_kept (pos 0) (at_z t) (least_of t) t 5 (row_stands (pos 0) (least_of t) t h) (omega arith) (omega arith) (sym (least_last t))

pub overflow_add-t : goal.overflow_add-t
overflow_add-t c = sum_fits c.args.t c.requires c.loop-s.least c.loop-s.s c.loop-s.invariant c.loop-s-test.true c.loop-s.auto.s

pub loop-s-preserved : goal.loop-s-preserved
loop-s-preserved c =
    let l = c.loop-s in
    row_back (pos 0) _ (least_of c.args.t) _ l.s _ l.invariant c.loop-s-test.true (omega arith)
    (least_is c.args.t c.requires l.least l.s l.invariant c.loop-s-test.true l.auto.s _ c.min.ensures.value)

pub returns : goal.returns
returns c = row_back_done (pos 0) _ _ _ _ c.loop-s.invariant c.loop-s-test.false
