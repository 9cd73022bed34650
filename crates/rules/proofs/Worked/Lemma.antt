-- The worked days and the refusals: one lemma, computed on the definitions, and what it gives for each day. What costs least is first: a wrong
-- definition is refused at the first case that it changes.
use Rattle.std.specs.Prelude.{◌≡◌, refl, List, [], ◌∷◌, ◌++◌, true, replicate}
use Rattle.rules.specs.Refusals.{day_fault}
use Rattle.rules.specs.Book.{book_after}
use Rattle.rules.specs.Report.{report_text}
use Rattle.rules.proofs.Worked.Cases.{Case, every}
use Rattle.rules.proofs.Worked.Opened.{opened}
use Rattle.rules.proofs.Worked.Laws.{all, every_both, part_holds, case_holds, number_holds}
use Rattle.rules.proofs.Worked.HandDays.{ad_hoc_refused}
use Rattle.rules.proofs.Worked.ByHand.{hand_cases, by_hand}
use Rattle.rules.proofs.Worked.Base1.{base1_day, base1_book, base1_text, base1_cases_on, base1_cases, base1_opened}
use Rattle.rules.proofs.Worked.Base2.{base2_day, base2_book, base2_text, base2_cases_on, base2_cases, base2_opened}
use Rattle.rules.proofs.Worked.Base3.{base3_day, base3_book, base3_text, base3_cases_on, base3_cases, base3_opened}
use Rattle.rules.proofs.Worked.Refused.{refused_cases, limit_cases, refused_opened}

abbrev day_parts : List (List Case)
day_parts = refused_cases ∷ base2_cases ∷ base3_cases ∷ base1_cases ∷ limit_cases ∷ []

abbrev parts : List (List Case)
parts = hand_cases ∷ day_parts

-- it names the lemma of F-5's refusals, which names that of the days by hand and so K1 to K10's: where those are refused this is not computed
days_worked : every (all day_parts) ≡ true
unfolding opened base1_opened base2_opened base3_opened refused_opened
days_worked = let k = ad_hoc_refused in refl

-- with the figures by hand, which are computed before K1 to K10
pub worked : every (all parts) ≡ true
worked = every_both hand_cases (all day_parts) by_hand days_worked

-- every case of each part: with `case_holds` the equation of any of them
pub refused : every refused_cases ≡ true
refused = part_holds parts worked 1

pub base_2 : every base2_cases ≡ true
base_2 = part_holds parts worked 2

pub base_3 : every base3_cases ≡ true
base_3 = part_holds parts worked 3

pub base_1 : every base1_cases ≡ true
base_1 = part_holds parts worked 4

pub at_limits : every limit_cases ≡ true
at_limits = part_holds parts worked 5

-- each day is accepted, its book is the third implementation's with a lent byte beyond unchanged, and so is its report
pub base_1_accepted : day_fault base1_day ≡ 0
unfolding base1_cases_on base1_cases
base_1_accepted = number_holds (day_fault base1_day) 0 (case_holds base1_cases base_1 0)

pub base_1_book : book_after base1_day (replicate 321 170) ≡ base1_book ++ (170 ∷ [])
unfolding base1_cases_on base1_cases
base_1_book = case_holds base1_cases base_1 1

pub base_1_report : report_text base1_day ≡ base1_text
unfolding base1_cases_on base1_cases
base_1_report = case_holds base1_cases base_1 2

pub base_2_accepted : day_fault base2_day ≡ 0
unfolding base2_cases_on base2_cases
base_2_accepted = number_holds (day_fault base2_day) 0 (case_holds base2_cases base_2 0)

pub base_2_book : book_after base2_day (replicate 209 170) ≡ base2_book ++ (170 ∷ [])
unfolding base2_cases_on base2_cases
base_2_book = case_holds base2_cases base_2 1

pub base_2_report : report_text base2_day ≡ base2_text
unfolding base2_cases_on base2_cases
base_2_report = case_holds base2_cases base_2 2

pub base_3_accepted : day_fault base3_day ≡ 0
unfolding base3_cases_on base3_cases
base_3_accepted = number_holds (day_fault base3_day) 0 (case_holds base3_cases base_3 0)

pub base_3_book : book_after base3_day (replicate 265 170) ≡ base3_book ++ (170 ∷ [])
unfolding base3_cases_on base3_cases
base_3_book = case_holds base3_cases base_3 1

pub base_3_report : report_text base3_day ≡ base3_text
unfolding base3_cases_on base3_cases
base_3_report = case_holds base3_cases base_3 2
