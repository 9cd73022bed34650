-- `day_shares::groups::group_sums` meets its contract: what stands before each schedule, then the groups from the last one back.
use Prim.Native.Nat.{◌-◌}
use mathlib.Core.Path.{◌≡◌, sym, ◌∙◌, ap}
use native.Mathlib.Omega.{arith}
use Rattle.day_totals.specs.Rows.{row_back_begins, row_back, row_back_done}
use Rattle.day_shares.specs.Groups.{before, whole, whole_last}
use Rattle.day_shares.proofs.Laws.{sum_fits, whole_goes, whole_ends}
use Rattle.day_shares.proofs.groups.group_sums.Goals as goal
use Rattle.day_shares.proofs.groups.group_sums.Goals.{then-l-s-eq0, else-l-s-eq0}

pub overflow_add-sums : goal.overflow_add-sums
overflow_add-sums c =
    let e = c.sums_before-sums.ensures in
    rw e (omega (arith, sum_fits c.args.l c.args.x 4 _ c.requires (omega arith) mathlib.Core.Path.refl))

pub loop-s-init : goal.loop-s-init
loop-s-init c =
    let l = c.args.l in
    let x = c.args.x in
    rw c.sums_before-sums.ensures
    (row_back 0 (before l x) (whole l x) _ 5 _ (row_back_begins 0 (before l x) (whole l x)) (omega arith) (omega arith) (sym (whole_last l x)))

pub overflow_add-sums-then-l-s-eq0 : goal.overflow_add-sums-then-l-s-eq0
overflow_add-sums-then-l-s-eq0 c =
    let s = c.loop-s.s in
    omega (arith, sum_fits c.args.l c.args.x (s - 1) _ c.requires (omega arith) (c.loop-s.invariant.below (s - 1) (omega arith)))

pub loop-s-preserved : goal.loop-s-preserved
loop-s-preserved c =
    let l = c.args.l in
    let x = c.args.x in
    let s = c.loop-s.s in
    let r = c.loop-s.invariant in
    let e : c.if-l-s-eq0.sums ≡ whole l x (s - 1) =
    elim c.if-l-s-eq0.branch [
      | then-l-s-eq0 w ↦ w.sums-is ∙ whole_ends l x _ s r (omega arith) (omega arith) w.if-l-s-eq0.true
      | else-l-s-eq0 w ↦ w.sums-is ∙ whole_goes l x _ s r (omega arith) (omega arith) w.if-l-s-eq0.false
    ]
    in
    row_back 0 _ (whole l x) _ s _ r (omega arith) (omega arith) e

pub returns : goal.returns
returns c = row_back_done 0 _ _ _ _ c.loop-s.invariant c.loop-s-test.false
