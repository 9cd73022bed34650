-- `cutter_text::rows::put_steps` meets its contract: after k turns the first k steps are put.
use mathlib.Core.Path.{◌≡◌, refl}
use native.Mathlib.Omega.{arith}
use borrow.Author.Rules.{rules}
use Rattle.cutter_text.specs.CutRows.{line_of_step}
use Rattle.text.specs.Put.{written_as, row_none, row_more}
use Rattle.cutter_text.proofs.rows.put_steps.Goals as goal

pub loop-k-init : goal.loop-k-init
loop-k-init c = (search rules, row_none _ _ 126 _)

pub loop-k-preserved : goal.loop-k-preserved
loop-k-preserved c =
    let written-as' = written_as (line_of_step _ _ refl c.prices_of.ensures)
    c.put_step-p.ensures in
    (search rules, row_more _ 126 _ c.loop-k.invariant.1 written-as')

pub returns : goal.returns
returns c = let e : c.loop-k.k ≡ c.args.count = omega arith in rw e at c.loop-k.invariant.1
