-- After k turns the first k lines are put.
use Rattle.std.proofs.Common.{◌≡◌, arith, rules}
use Rattle.text.specs.Put.{row_none, row_more}
use Rattle.text_report.proofs.put_entries.Goals as goal

pub loop-k-init : goal.loop-k-init
loop-k-init c = (search rules, row_none _ _ 177 _)

pub loop-k-preserved : goal.loop-k-preserved
loop-k-preserved c = (search rules, row_more _ 177 _ c.loop-k.invariant.1 c.put_entry-p.ensures)

pub returns : goal.returns
returns c = let e : c.loop-k.k ≡ c.args.n = omega arith in rw e at c.loop-k.invariant.1
