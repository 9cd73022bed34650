-- `text_steps::steps_text::put_line_head` meets its contract: the texts that its calls put, one after another.
use Rattle.text.specs.Put.{then, written_as}
use Rattle.text_steps.proofs.steps_text.Laws.{head_is}
use Rattle.text_steps.proofs.steps_text.put_line_head.Goals as goal

pub returns : goal.returns
returns c =
    let head-is' = head_is _ c.args.line.now c.participant.ensures
    c.point.ensures c.side.ensures c.requires.0 in
    let then₁ = then c.put_bytes-a.ensures c.put_decimal-b.ensures in
    let then₂ = then (then then₁ c.put_byte-c.ensures) c.put_ids-d.ensures in
    let then₃ = then (then then₂ c.put_side_steps-e.ensures) c.put_byte.ensures in
    written_as head-is' then₃
