-- Document 02, F-1, on days: the answer and the text, of K10's day and of one that is refused. The shares are worked out from the totals in the day's
-- report. Two further days are in the lemmas that have all else of them (HandDays, Later), because there their refusals are computed already.
use Rattle.std.specs.Prelude.{ℕ, ◌≡◌, refl, List, [], ◌∷◌, map, true, replicate, set}
use Prim.Native.String.{String}
use Rattle.rules.specs.Uplift.{uplift_answer}
use Rattle.rules.specs.Book.{bits64}
use Rattle.rules.specs.Report.{uplift_report}
use Rattle.rules.proofs.Worked.Cases.{Case, every, lines_of}
use Rattle.rules.proofs.Worked.Opened.{opened}
use Rattle.rules.proofs.Worked.Figures.{k10_day, figures}

-- the answer for the day d, its number and its shares, and the text
abbrev pub answered : List ℕ → ℕ → List ℕ → Case
answered d n e = record { found = (uplift_answer d).number ∷ map bits64 (uplift_answer d).shares; expected = n ∷ e }

abbrev pub uplift_printed : List ℕ → String → Case
uplift_printed d e = record { found = uplift_report d; expected = lines_of (e ∷ []) }

-- K10's day with an APC above the limit, which no price reads since all marks are 0: refused with 4
abbrev refused_day : List ℕ
refused_day = set k10_day 59 255

abbrev uplift_cases : List Case
uplift_cases =
    answered refused_day 4 (replicate 5 0)
    ∷ uplift_printed refused_day "refused 4"
    -- K10: t = 0 20000000 0 -10000000 0, a = 0 10000000 0 0 0
    ∷ answered k10_day 0 (0 ∷ 10000000 ∷ 0 ∷ 0 ∷ 0 ∷ [])
    ∷ uplift_printed k10_day "uplift 0 10000000 0 0 0"
    ∷ []

-- it names K1 to K10's lemma, so that where that is refused this is not computed
pub uplift_days : every uplift_cases ≡ true
unfolding opened
uplift_days = let k = figures in refl
