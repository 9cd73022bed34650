-- The text of one step's figures, and of a line's excess.
use Rattle.std.specs.Prelude.{ℕ, ◌+◌, List, [], ◌∷◌, ◌++◌}
use Rattle.rules.specs.Fold.{joined, at, at_z}
use Rattle.rules.specs.Report.{decimal, line_feed, number_after}
use Rattle.rules.specs.declared.View.{View}
use Rattle.rules.specs.declared.Excess.{Excess}
use Rattle.text.specs.Rows.{words}

abbrev pub step_word : List ℕ
step_word = 115 ∷ 116 ∷ 101 ∷ 112 ∷ 32 ∷ []

abbrev pub matches_word : List ℕ
matches_word = 109 ∷ 97 ∷ 116 ∷ 99 ∷ 104 ∷ 101 ∷ 115 ∷ []

-- "excess pricing", " operating" and " actual"
abbrev pub excess_pricing_word : List ℕ
excess_pricing_word = 101 ∷ 120 ∷ 99 ∷ 101 ∷ 115 ∷ 115 ∷ 32 ∷ 112 ∷ 114 ∷ 105 ∷ 99 ∷ 105 ∷ 110 ∷ 103 ∷ []

abbrev pub operating_word : List ℕ
operating_word = 32 ∷ 111 ∷ 112 ∷ 101 ∷ 114 ∷ 97 ∷ 116 ∷ 105 ∷ 110 ∷ 103 ∷ []

abbrev pub actual_word : List ℕ
actual_word = 32 ∷ 97 ∷ 99 ∷ 116 ∷ 117 ∷ 97 ∷ 108 ∷ []

-- `step J END WIDTH A`: the step's number, its upper end, its width, its effective actual
unfoldable pub step_head : ℕ → View → List ℕ
step_head j v = step_word ++ decimal j ++ words (v.end ∷ v.width ∷ v.actual ∷ []) ++ line_feed

-- price, flag, O, E, AGINO, MSIQ, C in schedule s
unfoldable pub quantities_in : View → ℕ → List ℕ
quantities_in v s =
    at v.price s ∷ at v.flag s ∷ at v.operating s ∷ at v.pricing s
    ∷ at v.agino s ∷ at v.msiq s ∷ at v.constrained s ∷ []

-- initial, revised, modified and final payment in schedule s
unfoldable pub payments_text : View → ℕ → List ℕ
payments_text v s = number_after (at_z v.initial) s ++ number_after (at_z v.revised) s ++ number_after (at_z v.modified) s ++ number_after (at_z v.finals) s

-- `S PRICE FLAG O E AGINO MSIQ C INITIAL REVISED MODIFIED FINAL`: schedules are printed from 1 on
unfoldable pub schedule_row : View → ℕ → List ℕ
schedule_row v s = decimal (s + 1) ++ words (quantities_in v s) ++ payments_text v s ++ line_feed

-- `matches` and m(1,2) m(1,3) m(2,3) m(1,4) .. m(4,5)
unfoldable pub matches_row : List ℕ → List ℕ
matches_row m = matches_word ++ words m ++ line_feed

-- the text of step j, whose figures are v
unfoldable pub view_text : ℕ → View → List ℕ
view_text j v = step_head j v ++ joined 5 (schedule_row v) ++ matches_row v.matches

-- `excess pricing P1 .. P5 operating O1 .. O5 actual A`
unfoldable pub excess_row : Excess → List ℕ
excess_row x = excess_pricing_word ++ words x.pricing ++ operating_word ++ words x.operating ++ actual_word ++ words (x.actual ∷ []) ++ line_feed
