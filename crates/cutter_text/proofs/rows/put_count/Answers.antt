-- `cutter_text::rows::put_count` meets its contract: the texts that its calls put, one after another.
use Rattle.std.proofs.Common.{ℕ, ap}
use Rattle.cutter_text.specs.CutRows.{count_text}
use Rattle.text.specs.Put.{then, written_as}
use Rattle.cutter_text.proofs.rows.put_count.Goals as goal

pub returns : goal.returns
unfolding count_text
returns c =
    written_as (ap (λ (x : ℕ). count_text x) c.from.ensures)
    (then (then c.put_bytes-a.ensures c.put_decimal-b.ensures) c.put_byte.ensures)
