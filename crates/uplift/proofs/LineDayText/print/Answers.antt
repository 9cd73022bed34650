-- What was put into the bytes is the line.
use Rattle.std.proofs.Common.{rules}
use Rattle.day_input.proofs.Whole.{written_lent}
use Rattle.uplift.proofs.LineDayText.print.Goals as goal

pub returns : goal.returns
returns g c =
    let text = written_lent 117 c.day_line-end.result c.day_line-end.ensures (search rules) (search rules) in
    rw text at c.write_all.ensures.bytes
