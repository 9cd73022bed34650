-- The refusal or the lines are the whole text.
use Rattle.std.proofs.Common.{◌≤◌, arith, length, subst, OnOk, sym, ◌∙◌, rules}
use Rattle.std.specs.Io.KnownBytes.{Appends}
use Rattle.refusals.specs.Laws.{refused}
use Rattle.text.specs.Put.{written_front}
use Rattle.text_steps.proofs.steps_text.Laws.{text_refused, text_accepted}
use Rattle.text_steps.proofs.steps_text.print.Goals as goal

pub returns-in-Ok : goal.returns-in-Ok
returns-in-Ok g c =
    let text = text_accepted c.args.day.now (sym c.in-Ok.ensures) in
    subst (λ t. OnOk c.print_lines.result (Appends (g.W.Write.contents c.args.output.now) (g.W.Write.contents c.print_lines.new.output) t))
    text c.print_lines.ensures

pub returns-in-Err : goal.returns-in-Err
returns-in-Err g c =
    let fits : c.put_refused-end.result ≤ length c.put_refused-end.new.out = omega (arith, c.put_refused-end.ensures.most, c.put_refused-end.ensures.end) in
    let text = written_front c.put_refused-end.ensures fits
    ∙ text_refused c.args.day.now (c.from.ensures ∙ c.in-Err.ensures) (λ e. refused _ (sym c.from.ensures ∙ e)) in
    subst (λ t. OnOk c.write_all.result (Appends (g.W.Write.contents c.args.output.now) (g.W.Write.contents c.write_all.new.self) t))
    text c.write_all.ensures.bytes
