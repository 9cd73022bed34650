-- `day_totals::adjusted_in` meets its contract: the cases are those of the definition.
use mathlib.Core.Path.{◌≡◌, sym, ◌∙◌}
use Rattle.day_totals.specs.Parts.{is_kept}
use Rattle.day_totals.proofs.Least.{kept_first, kept_later, kept_is, owed_fits, owed_is}
use Rattle.day_totals.proofs.adjusted_in.Goals as goal
use Rattle.day_totals.proofs.adjusted_in.Goals.{then-s-eq0, else-s-eq0}

pub overflow_add-t : goal.overflow_add-t
overflow_add-t c = let p = c.requires in owed_fits c.args.t p.bounded c.args.s p.s_bound _ p.left_value

pub returns-then-t-s-ge0 : goal.returns-then-t-s-ge0
returns-then-t-s-ge0 c =
    let p = c.requires in
    let k : c.if-s-eq0.value ≡ is_kept c.args.t c.args.s =
    elim c.if-s-eq0.branch [
      | then-s-eq0 w ↦ w.value-is ∙ kept_first c.args.t p.bounded c.args.s p.s_bound w.if-s-eq0.true
      | else-s-eq0 w ↦ w.value-is ∙ kept_later c.args.t p.bounded c.args.s p.s_bound w.if-s-eq0.false
    ]
    in
    kept_is c.args.t p.bounded c.args.s p.s_bound _ _ p.least_value (sym k ∙ c.if-t-s-ge0.true) c.max.ensures.value

pub returns-else-t-s-ge0 : goal.returns-else-t-s-ge0
returns-else-t-s-ge0 c =
    let p = c.requires in
    let k : c.if-s-eq0.value ≡ is_kept c.args.t c.args.s =
    elim c.if-s-eq0.branch [
      | then-s-eq0 w ↦ w.value-is ∙ kept_first c.args.t p.bounded c.args.s p.s_bound w.if-s-eq0.true
      | else-s-eq0 w ↦ w.value-is ∙ kept_later c.args.t p.bounded c.args.s p.s_bound w.if-s-eq0.false
    ]
    in
    owed_is c.args.t p.bounded c.args.s p.s_bound _ _ p.left_value (sym k ∙ c.if-t-s-ge0.false) c.min.ensures.value
