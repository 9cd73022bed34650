-- What the program `steps` prints for a day: each line's heading, for each of its steps the figures that the step view answers, and the
-- line's excess.
use Rattle.std.specs.Prelude.{ℕ, ◌+◌, ◌*◌, List, [], ◌∷◌, ◌++◌, cond, get_or, eqb, ltb}
use Rattle.rules.specs.Fold.{joined}
use Rattle.rules.specs.Layout.{line_count, line_at, participant, point, side}
use Rattle.rules.specs.Steps.{step_count}
use Rattle.rules.specs.Refusals.{day_fault}
use Rattle.rules.specs.Viewing.{view_refused, view_answer}
use Rattle.rules.specs.declared.View.{View}
use Rattle.rules.specs.Report.{decimal, space, line_feed, refused_line}
use Rattle.text_lines.specs.Lines.{line_ids, side_steps}
use Rattle.text_view.specs.ViewText.{view_text, excess_row}

-- "line "
abbrev pub line_word : List ℕ
line_word = 108 ∷ 105 ∷ 110 ∷ 101 ∷ 32 ∷ []

-- the step view's answer for step j of line k, as text
unfoldable pub step_text : List ℕ → ℕ → ℕ → List ℕ
step_text d k j = view_text j (view_answer d k j)

-- place j of a list of views, as text
unfoldable pub place_text : List View → ℕ → List ℕ
place_text l j = view_text j (get_or l j (view_refused 0))

-- `line K PARTICIPANT POINT INJ|WDR COUNT`: of the line with the bytes w
unfoldable pub line_head : ℕ → List ℕ → List ℕ
line_head k w = line_word ++ decimal k ++ space ++ line_ids (participant w) (point w) ++ side_steps (side w) (step_count w) ++ line_feed

-- line k, all its steps and its excess, as the view of its first step shows it
unfoldable pub line_steps : List ℕ → ℕ → List ℕ
line_steps d k = line_head k (line_at d k) ++ joined (step_count (line_at d k)) (step_text d k) ++ excess_row (view_answer d k 0).excess

-- the whole text of a day: all lines, or the refusal
unfoldable pub steps_text : List ℕ → List ℕ
steps_text d = cond (eqb (day_fault d) 0) (joined (line_count d) (line_steps d)) (refused_line (day_fault d))

-- the same in parts: line k; of a refused day the refusal is part 0; nothing past the last part
unfoldable pub steps_part : List ℕ → ℕ → List ℕ
steps_part d k =
    cond (eqb (day_fault d) 0)
    (cond (ltb k (line_count d)) (line_steps d k) [])
    (cond (eqb k 0) (refused_line (day_fault d)) [])

-- the bytes that the longest part takes: a line's heading, 56 steps and the excess
abbrev pub part_most : ℕ
part_most = 93 + 56 * 1587 + 263

-- the part put into `lent` bytes: nothing where these are too few for the longest one
unfoldable pub part_of : List ℕ → ℕ → ℕ → List ℕ
part_of d k lent = cond (ltb lent part_most) [] (steps_part d k)
