-- After s turns the first s pairs are put.
use Rattle.std.proofs.Common.{◌≡◌, SFits, w64, arith, rules}
use Rattle.rules.specs.Fold.{at_z}
use Rattle.text.specs.Put.{row_none}
use Rattle.book.proofs.Laws.{pair_more}
use Rattle.book.proofs.put_pairs.Goals as goal

pub loop-s-init : goal.loop-s-init
loop-s-init c = (search rules, row_none _ _ 16 _)

pub loop-s-preserved : goal.loop-s-preserved
loop-s-preserved c =
    let t = at_z c.args.t in
    let a = at_z c.args.a in
    let fits : SFits w64 (t c.loop-s.s) × SFits w64 (a c.loop-s.s) = search rules in
    (search rules, pair_more t a c.loop-s.s fits.0 fits.1 c.loop-s.invariant.1 c.put_pair-p.ensures)

pub returns : goal.returns
returns c = let e : c.loop-s.s ≡ 5 = omega arith in rw e at c.loop-s.invariant.1
