-- After s turns the first s numbers are put.
use Rattle.std.proofs.Common.{◌≡◌, arith, rules}
use Rattle.rules.specs.Report.{number_after}
use Rattle.rules.specs.Fold.{at_z}
use Rattle.text.specs.Rows.{numbers}
use Rattle.text.specs.Put.{row_none, row_more}
use Rattle.text.proofs.number_rows.put_numbers.Goals as goal

pub loop-s-init : goal.loop-s-init
loop-s-init c = (search rules, row_none _ _ 22 _)

pub loop-s-preserved : goal.loop-s-preserved
loop-s-preserved c =
    (search rules, row_more (number_after (at_z c.args.v)) 22 c.loop-s.s c.loop-s.invariant.1 c.put_number_in-p.ensures)

pub returns : goal.returns
unfolding numbers
returns c = let e : c.loop-s.s ≡ 5 = omega arith in rw e at c.loop-s.invariant.1
