-- `text_steps::steps_text::put_steps` meets its contract: after j turns the first j steps are put.
use mathlib.Core.Path.{◌≡◌}
use native.Mathlib.Omega.{arith}
use lib.ListN.{length}
use borrow.Author.Rules.{rules}
use Rattle.text.specs.Put.{written_as, row_none, row_more}
use Rattle.text_steps.proofs.steps_text.Laws.{place_is}
use Rattle.text_steps.proofs.steps_text.put_steps.Goals as goal

pub loop-j-init : goal.loop-j-init
loop-j-init c = (search rules, row_none _ _ 1587 _)

pub loop-j-preserved : goal.loop-j-preserved
loop-j-preserved c =
    let there = place_is c.args.views.now c.loop-j.j _ c.loop-j-test.true in
    (search rules, row_more _ 1587 c.loop-j.j c.loop-j.invariant.1 (written_as there c.put_view-p.ensures))

pub returns : goal.returns
returns c =
    let e : c.loop-j.j ≡ length c.args.views.now = omega (arith, c.loop-j.auto.j-end, c.loop-j-test.false) in
    rw e at c.loop-j.invariant.1
