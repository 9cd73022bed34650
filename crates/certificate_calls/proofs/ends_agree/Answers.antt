-- `certificate_calls::ends_agree` meets its contract: by the certificate's clauses on the cutter. What returns is answered here, since a wrong
-- program's goal would otherwise end at the search's limit.
use mathlib.Core.Path.{refl}
use borrow.Author.Tests.{eq-eqb}
use Rattle.certificate_calls.specs.Calls.{refused_twelve, same_end}
use Rattle.certificate_calls.proofs.ends_agree.Goals as goal

pub returns-then-v-ne0 : goal.returns-then-v-ne0
returns-then-v-ne0 c = refl

pub returns-then-c-ne0 : goal.returns-then-c-ne0
returns-then-c-ne0 c =
    eq-eqb _ _
    (refused_twelve c.args.day.now c.args.line c.args.step _ _ _ c.view-v.ensures c.if-v-ne0.false c.line_part.ensures c.cut-c.ensures c.if-c-ne0.true)

pub returns-else-c-ne0 : goal.returns-else-c-ne0
returns-else-c-ne0 c =
    eq-eqb _ _
    (same_end c.args.day.now c.args.line c.args.step _ _ _ c.view-v.ensures c.if-v-ne0.false c.line_part.ensures c.cut-c.ensures c.if-c-ne0.false)
