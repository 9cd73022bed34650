-- What was put into the bytes is the report.
use Rattle.std.proofs.Common.{rules}
use Rattle.day_input.proofs.Whole.{written_lent}
use Rattle.settle.proofs.ReportDayText.print.Goals as goal

pub returns : goal.returns
returns g c =
    let text = written_lent 11588 c.day_report-end.result c.day_report-end.ensures (search rules) (search rules) in
    rw text at c.write_all.ensures.bytes
