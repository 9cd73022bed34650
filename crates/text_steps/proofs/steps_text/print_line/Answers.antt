-- The line stands at the front of the lent bytes, and those are written.
use Rattle.std.proofs.Common.{◌≤◌, arith, length, subst, OnOk}
use Rattle.std.specs.Io.KnownBytes.{Appends}
use Rattle.text.specs.Put.{written_front}
use Rattle.text_steps.proofs.steps_text.print_line.Goals as goal

pub returns : goal.returns
returns g c =
    let fits : c.put_line-end.result ≤ length c.put_line-end.new.out = omega arith in
    subst (λ t. OnOk c.write_all.result (Appends (g.W.Write.contents c.args.output.now) (g.W.Write.contents c.write_all.new.self) t))
    (written_front c.put_line-end.ensures fits) c.write_all.ensures.bytes
