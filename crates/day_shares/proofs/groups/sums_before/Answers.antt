-- `day_shares::groups::sums_before` meets its contract, one schedule after another.
use Prim.Native.Nat.{◌-◌}
use mathlib.Core.Path.{◌≡◌, sym, ◌∙◌}
use native.Mathlib.Omega.{arith}
use Rattle.day_totals.specs.Rows.{row_begins, row_on, row_kept, row_done}
use Rattle.day_shares.specs.Groups.{before, before_first}
use Rattle.day_shares.proofs.Laws.{sum_fits, before_goes, before_begins}
use Rattle.day_shares.proofs.groups.sums_before.Goals as goal
use Rattle.day_shares.proofs.groups.sums_before.Goals.{then-l-s-eq0, else-l-s-eq0}

pub loop-s-init : goal.loop-s-init
loop-s-init c =
    let f = before c.args.l c.args.x in
    row_kept 0 f _ _ 0 (row_begins 0 f (λ k. 0)) (omega arith) (sym (before_first c.args.l c.args.x))

pub overflow_add-sums : goal.overflow_add-sums
overflow_add-sums c =
    let s = c.loop-s.s in
    omega (arith, sum_fits c.args.l c.args.x (s - 1) _ c.requires (omega arith) (c.loop-s.invariant.below (s - 1) (omega arith)))

pub loop-s-preserved : goal.loop-s-preserved
loop-s-preserved c =
    let l = c.args.l in
    let x = c.args.x in
    let s = c.loop-s.s in
    let r = c.loop-s.invariant in
    let e : c.if-l-s-eq0.sums ≡ before l x s =
    elim c.if-l-s-eq0.branch [
      | then-l-s-eq0 w ↦ w.sums-is ∙ before_begins l x _ s r (omega arith) (omega arith) w.if-l-s-eq0.true
      | else-l-s-eq0 w ↦ w.sums-is ∙ before_goes l x _ s r (omega arith) (omega arith) w.if-l-s-eq0.false
    ]
    in
    row_on 0 (before l x) _ _ s _ r (omega arith) e

pub returns : goal.returns
returns c = row_done 0 _ _ _ _ c.loop-s.invariant c.loop-s-test.false
