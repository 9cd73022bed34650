-- `text_steps::steps_text::part` meets its contract: by its cases.
use mathlib.Core.Path.{refl, sym, ◌∙◌}
use native.Mathlib.Omega.{arith}
use borrow.Author.Rules.{rules}
use Rattle.laws.specs.Accepted.{accepted_day}
use Rattle.refusals.specs.Laws.{refused}
use Rattle.text.specs.Put.{written_as, written_wider, written_nothing}
use Rattle.text_steps.proofs.steps_text.Laws.{part_short, part_refused, part_after, part_none, part_line}
use Rattle.text_steps.proofs.steps_text.part.Goals as goal

pub returns-then-out-lt-PART_MOST : goal.returns-then-out-lt-PART_MOST
returns-then-out-lt-PART_MOST c =
    written_nothing _ _ (part_short c.args.day.now c.args.k _ c.if-out-lt-PART_MOST.true)

pub line_count-requires : goal.line_count-requires
line_count-requires c = omega (arith, (accepted_day c.args.day.now (sym c.in-Ok.ensures)).header.length_least)

pub returns-then-line_count-k : goal.returns-then-line_count-k
returns-then-line_count-k c =
    written_nothing _ _
    (part_none c.args.day.now c.args.k _ c.if-out-lt-PART_MOST.false c.in-Ok.ensures refl
    (omega (arith, c.line_count.ensures, c.if-line_count-k.true)))

pub put_line-requires : goal.put_line-requires
put_line-requires c = (
  sym c.in-Ok.ensures,
  omega (arith, c.line_count.ensures, c.if-line_count-k.false),
  omega (arith, c.if-out-lt-PART_MOST.false),
)

pub returns-else-line_count-k : goal.returns-else-line_count-k
returns-else-line_count-k c =
    let text = part_line c.args.day.now c.args.k _ c.if-out-lt-PART_MOST.false c.in-Ok.ensures refl
    (omega (arith, c.line_count.ensures, c.if-line_count-k.false)) in
    written_wider 89228 _ (written_as text c.put_line.ensures) c.if-out-lt-PART_MOST.false

pub returns-then-k-eq0 : goal.returns-then-k-eq0
returns-then-k-eq0 c =
    let text = part_refused c.args.day.now c.args.k _ c.if-out-lt-PART_MOST.false (c.from.ensures ∙ c.in-Err.ensures)
    (λ e. refused _ (sym c.from.ensures ∙ e)) c.if-k-eq0.true in
    written_wider 29 _ (written_as text c.put_refused.ensures) (omega (arith, c.if-out-lt-PART_MOST.false))

pub returns-else-k-eq0 : goal.returns-else-k-eq0
returns-else-k-eq0 c =
    written_nothing _ _ (part_after c.args.day.now c.args.k _ c.if-out-lt-PART_MOST.false c.in-Err.ensures (refused _) c.if-k-eq0.false)
