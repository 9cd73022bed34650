-- `cutter_text::answer::put_line` meets its contract: an answer has at most 56 steps.
use borrow.Author.Rules.{rules}
use Rattle.cutter_text.specs.CutText.{text_most, lent_short, lent_whole}
use Rattle.text.specs.Put.{written_as, written_wider, written_nothing}
use Rattle.cutter.specs.Certificate.{answer_count}
use Rattle.cutter_text.proofs.answer.put_line.Goals as goal

pub returns-then-out-lt-TEXT_MOST : goal.returns-then-out-lt-TEXT_MOST
returns-then-out-lt-TEXT_MOST c = written_nothing _ _ (lent_short _ _ c.if-out-lt-TEXT_MOST.true)

pub put_cut-requires : goal.put_cut-requires
put_cut-requires c = (answer_count _ _ c.cut.ensures, search rules)

pub returns-else-out-lt-TEXT_MOST : goal.returns-else-out-lt-TEXT_MOST
returns-else-out-lt-TEXT_MOST c =
    written_wider text_most _
    (written_as (lent_whole _ c.cut.ensures c.if-out-lt-TEXT_MOST.false)
    c.put_cut.ensures) c.if-out-lt-TEXT_MOST.false
