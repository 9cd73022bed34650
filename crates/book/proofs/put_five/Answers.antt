-- After s turns the first s amounts are put.
use Rattle.std.proofs.Common.{◌≡◌, SFits, w64, arith, rules}
use Rattle.rules.specs.Fold.{at_z}
use Rattle.text.specs.Put.{row_none}
use Rattle.book.proofs.Laws.{money_more}
use Rattle.book.proofs.put_five.Goals as goal

pub loop-s-init : goal.loop-s-init
loop-s-init c = (search rules, row_none _ _ 8 _)

pub loop-s-preserved : goal.loop-s-preserved
loop-s-preserved c =
    let fits : SFits w64 (at_z c.args.v c.loop-s.s) = search rules in
    (search rules, money_more (at_z c.args.v) c.loop-s.s fits c.loop-s.invariant.1 c.put_money-p.ensures)

pub returns : goal.returns
returns c = let e : c.loop-s.s ≡ 5 = omega arith in rw e at c.loop-s.invariant.1
