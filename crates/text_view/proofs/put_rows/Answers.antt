-- After s turns the rows of the first s schedules are put.
use Rattle.std.proofs.Common.{◌≡◌, arith, rules}
use Rattle.text.specs.Put.{row_none, row_more}
use Rattle.text_view.specs.ViewText.{schedule_row}
use Rattle.text_view.proofs.put_rows.Goals as goal

pub loop-s-init : goal.loop-s-init
loop-s-init c = (search rules, row_none _ _ 256 _)

pub loop-s-preserved : goal.loop-s-preserved
loop-s-preserved c =
    (search rules, row_more (schedule_row c.args.v) 256 c.loop-s.s c.loop-s.invariant.1 c.put_row-p.ensures)

pub returns : goal.returns
returns c = let e : c.loop-s.s ≡ 5 = omega arith in rw e at c.loop-s.invariant.1
