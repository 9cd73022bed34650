-- `day_paid::keep_lines` meets its contract: after k turns the first k lines are in the pools, and what is kept of them at their places.
use Prim.Native.Nat.{◌-◌, ◌≤◌, ◌<◌}
use mathlib.Core.Path.{◌≡◌, refl, ap}
use lib.ListN.{length}
use lib.Seq.{sets}
use native.Mathlib.Omega.{arith}
use borrow.Author.Rules.{rules}
use Rattle.rules.specs.Fold.{list_to}
use Rattle.rules.specs.Days.{settled_day}
use Rattle.step_inputs.proofs.Lines.{line_lies}
use Rattle.day_paid.specs.Paid.{counts_none, counts_next}
use Rattle.day_paid.specs.Lines.{pools_to, KeptTo}
use Rattle.day_paid.proofs.Kept.{pools_none, pools_addable, pools_next, kept_next, all_kept}
use Rattle.day_paid.proofs.keep_lines.Goals as goal

pub line_count-k-end-requires : goal.line_count-k-end-requires
line_count-k-end-requires c = omega (arith, c.requires.0.header.length_least)

pub loop-k-init : goal.loop-k-init
loop-k-init c =
    let y = settled_day c.args.day.now in (
      pools_none y _ _ c.empty_pool.ensures c.empty_pool-2.ensures,
      refl,
      λ i l z. absurd (omega arith),
      counts_none y.count _,
    )

pub line_pool-x-requires : goal.line_pool-x-requires
line_pool-x-requires c =
    (c.requires.0, omega (arith, c.line_count-k-end.ensures), c.requires.1)

pub line_of-requires : goal.line_of-requires
line_of-requires c =
    line_lies c.args.day.now c.requires.0 c.loop-k.k
    (omega (arith, c.line_count-k-end.ensures))

pub pools_with-pools-requires : goal.pools_with-pools-requires
pools_with-pools-requires c =
    pools_addable c.args.day.now c.requires.0 c.loop-k.k
    (omega (arith, c.line_count-k-end.ensures)) _ c.loop-k.invariant.0 _ c.line_of.ensures _
    c.side.ensures _ c.line_pool-x.ensures.pool

pub offset_bounds-lines-k : goal.offset_bounds-lines-k
offset_bounds-lines-k c =
    record { fits = omega (arith, c.line_count-k-end.ensures, c.requires.0.header.count_most) }

pub bounds-lines-k : goal.bounds-lines-k
bounds-lines-k c =
    omega (arith, c.line_count-k-end.ensures, c.requires.0.header.count_most)

pub offset_bounds-counts-k : goal.offset_bounds-counts-k
offset_bounds-counts-k c =
    record { fits = omega (arith, c.line_count-k-end.ensures, c.requires.0.header.count_most) }

pub bounds-counts-k : goal.bounds-counts-k
bounds-counts-k c =
    omega (arith, c.line_count-k-end.ensures, c.requires.0.header.count_most)

pub loop-k-preserved : goal.loop-k-preserved
loop-k-preserved c =
    let day = c.args.day.now in
    let k = c.loop-k.k in
    let few : k < 64 = omega (arith, c.line_count-k-end.ensures, c.requires.0.header.count_most) in
    let kept = kept_next day k c.loop-k.lines _ _ c.loop-k.invariant.1 few c.line_pool-x.ensures
    c.kept_of.ensures c.loop-k.invariant.2 in (
      pools_next day c.requires.0 k (omega (arith, c.line_count-k-end.ensures)) _ c.loop-k.invariant.0 _
          c.line_of.ensures _ c.side.ensures _
          c.line_pool-x.ensures.pool _ c.pools_with-pools.ensures,
      kept.0,
      kept.1,
      counts_next (settled_day day).count k _ _ _ c.loop-k.invariant.3
          (ap (lib.ListN.set c.loop-k.counts k) c.line_pool-x.ensures.count),
    )

pub returns : goal.returns
returns c =
    let whole =
    all_kept c.args.day.now c.loop-k.k _ _ _ _ _ c.line_count-k-end.ensures
    c.loop-k.auto.k-end c.loop-k-test.false c.loop-k.invariant.0 c.loop-k.invariant.2 c.loop-k.invariant.3 in
    record { kept_all = whole.0; counts_after = whole.1 }
