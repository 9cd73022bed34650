-- `cutter_text::rows::put_step` meets its contract: the texts that its calls put, one after another.
use Rattle.std.proofs.Common.{ℕ, ◌++◌, ap}
use Rattle.rules.specs.Fold.{at}
use Rattle.rules.specs.Report.{decimal}
use Rattle.cutter_text.specs.CutRows.{row_text}
use Rattle.text.specs.Put.{then, written_as}
use Rattle.cutter_text.proofs.rows.put_step.Goals as goal

pub returns : goal.returns
returns c =
    written_as (ap (λ (x : ℕ). decimal x ++ row_text (at c.args.price)) c.from.ensures)
    (then c.put_decimal-p.ensures c.put_five.ensures)
