-- By the side.
use Rattle.text.specs.Put.{written_as}
use Rattle.text_lines.specs.Lines.{side_withdrawal, side_injection}
use Rattle.text_lines.proofs.put_side.Goals as goal

pub returns-then-side-eq1 : goal.returns-then-side-eq1
returns-then-side-eq1 c = written_as (side_withdrawal _ c.if-side-eq1.true) c.put_bytes.ensures

pub returns-else-side-eq1 : goal.returns-else-side-eq1
returns-else-side-eq1 c = written_as (side_injection _ c.if-side-eq1.false) c.put_bytes-else-side-eq1.ensures
