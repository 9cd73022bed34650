-- `day_totals::adjusted` meets its contract, one schedule after another.
use mathlib.Core.Path.{sym}
use Rattle.std.specs.Prelude.{pos}
use Rattle.rules.specs.Totals as T
use Rattle.day_totals.specs.Parts.{carried_first}
use Rattle.day_totals.specs.Rows.{row_begins, row_on, row_done}
use Rattle.day_totals.specs.Sizes.{read_back, adjusted_fits}
use Rattle.day_totals.proofs.Least.{rest_fits_bits, left_fits, left_is, least_back}
use Rattle.day_totals.proofs.adjusted.Goals as goal

pub loop-s-init : goal.loop-s-init
loop-s-init c =
    record { row = row_begins (pos 0) (T.adjusted c.args.t) (λ k. pos 0); left = sym (carried_first c.args.t) }

pub adjusted_in-share-requires : goal.adjusted_in-share-requires
adjusted_in-share-requires c =
    let l = c.loop-s-test.true in
    record { bounded = c.requires; s_bound = l; least_value = least_back c.args.t c.requires c.loop-s.s l _ c.least_sums-least.ensures; left_value = c.loop-s.invariant.left }

pub overflow_sub-left : goal.overflow_sub-left
overflow_sub-left c = rest_fits_bits c.args.t c.requires c.loop-s.s c.loop-s-test.true _ c.adjusted_in-share.ensures

pub overflow_add-left : goal.overflow_add-left
overflow_add-left c =
    left_fits c.args.t c.requires c.loop-s.s c.loop-s-test.true _ _ c.loop-s.invariant.left c.adjusted_in-share.ensures

pub loop-s-preserved : goal.loop-s-preserved
loop-s-preserved c =
    let t = c.args.t in
    let s = c.loop-s.s in
    let l = c.loop-s-test.true in
    record {
      row = row_on (pos 0) (T.adjusted t) _ _ s _ c.loop-s.invariant.row l (read_back c.adjusted_in-share.ensures (adjusted_fits t c.requires s l));
      left = left_is t c.requires s l _ _ c.loop-s.invariant.left c.adjusted_in-share.ensures;
    }

pub returns : goal.returns
returns c = row_done (pos 0) _ _ _ _ c.loop-s.invariant.row c.loop-s-test.false
