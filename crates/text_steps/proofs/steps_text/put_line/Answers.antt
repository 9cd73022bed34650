-- `text_steps::steps_text::put_line` meets its contract: the heading, then the steps, then the excess.
use Prim.Native.Nat.{ℕ, ◌≤◌, ◌<◌}
use mathlib.Core.Path.{◌≡◌, refl, sym, ◌∙◌, ap}
use native.Mathlib.Omega.{arith}
use lib.ListN.{length, take}
use Rattle.std.proofs.Common.{length-take}
use Rattle.rules.specs.Steps.{step_count}
use Rattle.laws.specs.Accepted.{accepted_day}
use Rattle.text.specs.Put.{then, written_as, written_wider}
use Rattle.step_inputs.proofs.Lines.{line_lies}
use Rattle.text_steps.proofs.steps_text.Laws.{counted, line_is, front_is}
use Rattle.text_steps.proofs.steps_text.put_line.Goals as goal

pub line_of-line-requires : goal.line_of-line-requires
line_of-line-requires c = line_lies c.args.day.now (accepted_day c.args.day.now c.requires.0) c.args.k c.requires.1

pub overflow_cast-count : goal.overflow_cast-count
overflow_cast-count c =
    let put = c.put_views-count.ensures in
    let many = counted c.args.day.now c.args.k c.requires.0 c.requires.1 _ _ _ put.value put.views_after in
    record { fits = omega (arith, many.2) }

pub put_line_head-a-requires : goal.put_line_head-a-requires
put_line_head-a-requires c =
    let put = c.put_views-count.ensures in
    let many = counted c.args.day.now c.args.k c.requires.0 c.requires.1 _ _ _ put.value put.views_after in
    (many.0 ∙ ap step_count (sym c.line_of-line.ensures), omega (arith, c.requires.2))

pub slice_bounds-views-end : goal.slice_bounds-views-end
slice_bounds-views-end c =
    let put = c.put_views-count.ensures in
    let many = counted c.args.day.now c.args.k c.requires.0 c.requires.1 _ _ _ put.value put.views_after in
    omega (arith, many.2, c.put_views-count.array_long)

pub slice_bounds-put_steps-end : goal.slice_bounds-put_steps-end
slice_bounds-put_steps-end c =
    let put = c.put_views-count.ensures in
    let many = counted c.args.day.now c.args.k c.requires.0 c.requires.1 _ _ _ put.value put.views_after in
    omega (arith, length-take c.put_views-count.result c.put_views-count.new.views, many.2, c.put_views-count.array_long)

pub returns : goal.returns
returns c =
    let put = c.put_views-count.ensures in
    let n = c.put_views-count.result in
    let vs = c.put_views-count.new.views in
    let many = counted c.args.day.now c.args.k c.requires.0 c.requires.1 _ _ _ put.value put.views_after in
    let taken : length (take n vs) ≡ n = omega (arith, length-take n vs, many.2, c.put_views-count.array_long) in
    let text = line_is c.args.day.now c.args.k c.requires.0 c.requires.1 _ _ _ put.value put.views_after _ _ c.line_of-line.ensures refl in
    let steps = written_as (rw taken (front_is n vs)) c.put_steps-b.ensures in
    written_wider _ 89228 (written_as text (then (then c.put_line_head-a.ensures steps) c.put_excess.ensures)) (omega (arith, many.2, taken))
