-- `certificate_calls::matches::matches_agree` meets its contract: by the certificate's clauses on matches. What returns is answered here, since
-- a wrong program's goal would otherwise end at the search's limit.
use mathlib.Core.Path.{refl}
use Rattle.certificate_calls.specs.Matches.{falls_matched, rises_bound}
use Rattle.certificate_calls.proofs.matches.matches_agree.Goals as goal

pub falls_agree-requires : goal.falls_agree-requires
falls_agree-requires c =
    falls_matched c.args.day.now c.args.line c.args.step _ c.view-v.ensures
    c.if-v-ne0.false

pub rises_agree-requires : goal.rises_agree-requires
rises_agree-requires c =
    rises_bound c.args.day.now c.args.line c.args.step _ c.view-v.ensures
    c.if-v-ne0.false

pub returns-then-v-ne0 : goal.returns-then-v-ne0
returns-then-v-ne0 c = refl

pub returns-then-rises_agree : goal.returns-then-rises_agree
returns-then-rises_agree c = c.balance_agrees.ensures
