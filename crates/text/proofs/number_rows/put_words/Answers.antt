-- After i turns the first i numbers are put.
use Rattle.std.proofs.Common.{◌≡◌, ◌∙◌, ap, ◌++◌, length, arith, rules}
use Rattle.rules.specs.Report.{decimal, space}
use Rattle.text.specs.Rows.{word_after, words}
use Rattle.text.specs.Put.{written_as, row_none, row_more}
use Rattle.text.specs.Rows.{word_is}
use Rattle.text.proofs.number_rows.put_words.Goals as goal

pub loop-x-init : goal.loop-x-init
loop-x-init c = (search rules, row_none _ _ 21 _)

pub loop-x-preserved : goal.loop-x-preserved
loop-x-preserved c =
    let put = written_as (ap (λ n. space ++ decimal n) c.from.ensures ∙ word_is c.args.v.now c.loop-x.x-index) c.put_spaced-p.ensures in
    (search rules, row_more (word_after c.args.v.now) 21 c.loop-x.x-index c.loop-x.invariant.1 put)

pub returns : goal.returns
unfolding words
returns c =
    let e : c.loop-x.x-index ≡ length c.args.v.now = omega arith in
    rw e at c.loop-x.invariant.1
