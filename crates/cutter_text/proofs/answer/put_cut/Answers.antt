-- `cutter_text::answer::put_cut` meets its contract: by its cases.
use native.Mathlib.Omega.{arith}
use Rattle.cutter_text.specs.CutText.{text_most, text_refused, text_steps}
use Rattle.text.specs.Put.{written_as, written_wider}
use Rattle.cutter_text.proofs.answer.put_cut.Goals as goal

pub returns-then-r-ne0 : goal.returns-then-r-ne0
returns-then-r-ne0 c =
    written_wider 29 text_most (written_as (text_refused _ c.if-r-ne0.true) c.put_refused.ensures)
    (omega arith)

pub returns-else-r-ne0 : goal.returns-else-r-ne0
returns-else-r-ne0 c =
    written_as (text_steps _ c.if-r-ne0.false) c.put_accepted.ensures
