-- `cutter_text::rows::put_five` meets its contract: after s turns the first s numbers are put.
use Rattle.std.proofs.Common.{◌≡◌, arith, rules}
use Rattle.cutter_text.specs.CutRows.{spaced, row_text}
use Rattle.text.specs.Put.{then, row_none, row_more}
use Rattle.cutter_text.proofs.rows.put_five.Goals as goal

pub loop-s-init : goal.loop-s-init
loop-s-init c = (search rules, row_none _ _ 21 _)

pub loop-s-preserved : goal.loop-s-preserved
unfolding spaced
loop-s-preserved c = (search rules, row_more _ 21 _ c.loop-s.invariant.1 c.put_spaced-p.ensures)

pub returns : goal.returns
unfolding row_text
returns c = let e : c.loop-s.s ≡ 5 = omega arith in then (rw e at c.loop-s.invariant.1) c.put_byte.ensures
