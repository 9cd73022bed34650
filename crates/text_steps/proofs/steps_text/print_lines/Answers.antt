-- The lines are printed one after another.
use Rattle.std.proofs.Common.{◌≡◌, arith, rules, subst}
use Rattle.std.specs.Io.KnownBytes.{Appends}
use Rattle.rules.specs.Fold.{joined}
use Rattle.rules.specs.Layout.{line_count}
use Rattle.laws.specs.Accepted.{accepted_day}
use Rattle.text_steps.specs.Text.{line_steps}
use Rattle.text_steps.proofs.steps_text.Laws.{lines_more, lines_none}
use Rattle.text_steps.proofs.steps_text.print_lines.Goals as goal

pub loop-k-init : goal.loop-k-init
loop-k-init g c = (search rules, lines_none _ _)

pub loop-k-preserved : goal.loop-k-preserved
loop-k-preserved g c =
    (search rules, lines_more _ _ _ _ c.loop-k.k c.loop-k.invariant.1 c.in_ok-print_line.ensures)

pub line_count-k-end-requires : goal.line_count-k-end-requires
line_count-k-end-requires g c = omega (arith, (accepted_day c.args.day.now c.requires.0).header.length_least)

pub returns : goal.returns
returns g c =
    let all : c.loop-k.k ≡ line_count c.args.day.now = omega (arith, c.line_count-k-end.ensures, c.loop-k.auto.k-end, c.loop-k-test.false) in
    subst (λ n. Appends (g.W.Write.contents c.args.output.now) (g.W.Write.contents c.loop-k.output) (joined n (line_steps c.args.day.now)))
    all c.loop-k.invariant.1
