-- `view::figures::payments_on` meets its contract.
use mathlib.Core.Path.{◌∙◌}
use borrow.Author.Rules.{rules}
use Rattle.rules.specs.Payments.{initial, revised, modified}
use Rattle.step_payments.specs.Kinds.{initial_within, revised_within, modified_within}
use Rattle.step_payments.proofs.amounts.Joining.{revised_pays, modified_pays}
use Rattle.step_payments.proofs.amounts.Signing.{rows_signable, rows_signed}
use Rattle.step_pool.specs.Amounts.{final_on}
use Rattle.step_pool.proofs.pool_amounts.Settling.{of_plus, of_minus, final_pays}
use Rattle.view.proofs.figures.Laws.{finals_within}
use Rattle.view.proofs.figures.payments_on.Goals as goal

pub changes_on-v-requires : goal.changes_on-v-requires
changes_on-v-requires c = (c.requires.2, c.rates-rate.ensures)

pub revised_minus-revised-requires : goal.revised_minus-revised-requires
revised_minus-revised-requires c = (
  c.requires.0,
  rw (c.match_table-t.ensures, c.requires.2),
  of_minus c.args.x _ c.changes_on-v.ensures,
)

pub modified_minus-modified-requires : goal.modified_minus-modified-requires
modified_minus-modified-requires c = (
  c.requires.0,
  rw (c.match_table-t.ensures, c.requires.2),
  c.rates-rate.ensures,
  of_minus c.args.x _ c.changes_on-v.ensures,
)

pub final_minus-finals-requires : goal.final_minus-finals-requires
final_minus-finals-requires c =
    let r = c.requires in
    (r.0, r.1, c.changes_on-v.ensures, c.revised_minus-revised.ensures, c.modified_minus-modified.ensures)

pub signed_money-requires : goal.signed_money-requires
signed_money-requires c =
    let x = c.args.x in
    let e = c.changes_on-v.ensures in
    rows_signable (initial x) (of_plus x _ e) (of_minus x _ e) (λ s. initial_within x s c.requires.0)

pub signed_money-requires-2 : goal.signed_money-requires-2
signed_money-requires-2 c =
    let x = c.args.x in
    rows_signable (revised x) (of_plus x _ c.changes_on-v.ensures ∙ revised_pays x)
    c.revised_minus-revised.ensures (λ s. revised_within x s c.requires.0)

pub signed_money-requires-3 : goal.signed_money-requires-3
signed_money-requires-3 c =
    let x = c.args.x in
    rows_signable (modified x) (of_plus x _ c.changes_on-v.ensures ∙ modified_pays x)
    c.modified_minus-modified.ensures (λ s. modified_within x s c.requires.0)

pub signed_money-requires-4 : goal.signed_money-requires-4
signed_money-requires-4 c =
    let g = c.args in
    rows_signable (final_on g.x g.claw g.p)
    (of_plus g.x _ c.changes_on-v.ensures ∙ final_pays g.x g.claw g.p)
    c.final_minus-finals.ensures (finals_within g.x g.claw g.p c.requires.0)

pub returns : goal.returns
returns c =
    let g = c.args in
    let x = g.x in
    let e = c.changes_on-v.ensures in
    let plus = of_plus x _ e in (
      rows_signed (initial x) plus (of_minus x _ e) c.signed_money.ensures,
      rows_signed (revised x) (plus ∙ revised_pays x) c.revised_minus-revised.ensures
          c.signed_money-2.ensures,
      rows_signed (modified x) (plus ∙ modified_pays x) c.modified_minus-modified.ensures
          c.signed_money-3.ensures,
      rows_signed (final_on x g.claw g.p) (plus ∙ final_pays x g.claw g.p) c.final_minus-finals.ensures
          c.signed_money-4.ensures,
    )
