-- The days that docs/RULES.md works out by hand for document 02's requests: one lemma, computed on the definitions, and after it the refusals of
-- F-5. They come before the days of the third implementation, so that a wrong definition that they refuse does not wait for those.
use Rattle.std.specs.Prelude.{◌≡◌, refl, List, [], ◌∷◌, ◌++◌, true, replicate}
use Rattle.rules.specs.Refusals.{day_fault}
use Rattle.rules.specs.Book.{book_after}
use Rattle.rules.specs.Report.{report_text}
use Rattle.rules.proofs.Worked.Cases.{Case, every}
use Rattle.rules.proofs.Worked.Opened.{opened}
use Rattle.rules.proofs.Worked.Laws.{all, part_holds, case_holds, number_holds}
use Rattle.rules.proofs.Worked.UpliftDays.{answered, uplift_days}
use Rattle.rules.proofs.Worked.Reschedule.{reschedule_day, reschedule_book, reschedule_text, reschedule_cases_on, reschedule_cases, reschedule_opened}
use Rattle.rules.proofs.Worked.Pulled0.{pulled0_day, pulled0_book, pulled0_text, pulled0_cases_on, pulled0_cases, pulled0_opened}
use Rattle.rules.proofs.Worked.AdHoc0.{ad_hoc0_day, ad_hoc0_book, ad_hoc0_text, ad_hoc0_cases_on, ad_hoc0_cases, ad_hoc0_opened}
use Rattle.rules.proofs.Worked.AdHocRefused.{ad_hoc_refused_cases, ad_hoc_refused_opened}
use Rattle.rules.proofs.Worked.Excess0.{excess0_day, excess0_book, excess0_text, excess0_cases_on, excess0_cases, excess0_opened}
use Rattle.rules.proofs.Worked.OpenRises.{open_rises_day, open_rises_book, open_rises_text, open_rises_cases_on, open_rises_cases, open_rises_opened}

-- F-1: t = 200000000 1570000000 40000000 -450000000 -300000000, a = 200000000 860000000 0 0 0: of 1,810,000,000 the first group keeps 1,060,000,000;
-- 117127071 + 149/181, 919447513 + 147/181 and 23425414 + 66/181 leave two units
abbrev ad_hoc0_uplift : List Case
ad_hoc0_uplift = answered ad_hoc0_day 0 (117127072 ∷ 919447514 ∷ 23425414 ∷ 0 ∷ 0 ∷ []) ∷ []

abbrev hand_parts : List (List Case)
hand_parts = ad_hoc0_cases ∷ excess0_cases ∷ reschedule_cases ∷ pulled0_cases ∷ ad_hoc0_uplift ∷ open_rises_cases ∷ []

-- it names the lemma of F-1's days, which names K1 to K10's: where those are refused this is not computed
pub hand_days : every (all hand_parts) ≡ true
unfolding opened ad_hoc0_opened excess0_opened reschedule_opened pulled0_opened open_rises_opened
hand_days = let k = uplift_days in refl

-- F-5's refusals; it names the days by hand, so that where those are refused this is not computed
pub ad_hoc_refused : every ad_hoc_refused_cases ≡ true
unfolding opened ad_hoc_refused_opened
ad_hoc_refused = let k = hand_days in refl

-- every case of each day: with `case_holds` the equation of any of them
pub ad_hoc_0 : every ad_hoc0_cases ≡ true
ad_hoc_0 = part_holds hand_parts hand_days 0

pub excess_0 : every excess0_cases ≡ true
excess_0 = part_holds hand_parts hand_days 1

pub reschedule : every reschedule_cases ≡ true
reschedule = part_holds hand_parts hand_days 2

pub pulled_0 : every pulled0_cases ≡ true
pulled_0 = part_holds hand_parts hand_days 3

pub ad_hoc_0_uplift : every ad_hoc0_uplift ≡ true
ad_hoc_0_uplift = part_holds hand_parts hand_days 4

pub open_rises_lem : every open_rises_cases ≡ true
open_rises_lem = part_holds hand_parts hand_days 5

-- F-5: the day is accepted, its book with a lent byte beyond unchanged, and its report
pub ad_hoc_0_accepted : day_fault ad_hoc0_day ≡ 0
unfolding ad_hoc0_cases_on ad_hoc0_cases
ad_hoc_0_accepted = number_holds (day_fault ad_hoc0_day) 0 (case_holds ad_hoc0_cases ad_hoc_0 0)

pub ad_hoc_0_book : book_after ad_hoc0_day (replicate 209 170) ≡ ad_hoc0_book ++ (170 ∷ [])
unfolding ad_hoc0_cases_on ad_hoc0_cases
ad_hoc_0_book = case_holds ad_hoc0_cases ad_hoc_0 1

pub ad_hoc_0_report : report_text ad_hoc0_day ≡ ad_hoc0_text
unfolding ad_hoc0_cases_on ad_hoc0_cases
ad_hoc_0_report = case_holds ad_hoc0_cases ad_hoc_0 2

-- F-2
pub excess_0_accepted : day_fault excess0_day ≡ 0
unfolding excess0_cases_on excess0_cases
excess_0_accepted = number_holds (day_fault excess0_day) 0 (case_holds excess0_cases excess_0 0)

pub excess_0_book : book_after excess0_day (replicate 265 170) ≡ excess0_book ++ (170 ∷ [])
unfolding excess0_cases_on excess0_cases
excess_0_book = case_holds excess0_cases excess_0 1

pub excess_0_report : report_text excess0_day ≡ excess0_text
unfolding excess0_cases_on excess0_cases
excess_0_report = case_holds excess0_cases excess_0 2

-- F-7
pub reschedule_accepted : day_fault reschedule_day ≡ 0
unfolding reschedule_cases_on reschedule_cases
reschedule_accepted = number_holds (day_fault reschedule_day) 0 (case_holds reschedule_cases reschedule 0)

pub reschedule_book_lem : book_after reschedule_day (replicate 321 170) ≡ reschedule_book ++ (170 ∷ [])
unfolding reschedule_cases_on reschedule_cases
reschedule_book_lem = case_holds reschedule_cases reschedule 1

pub reschedule_report : report_text reschedule_day ≡ reschedule_text
unfolding reschedule_cases_on reschedule_cases
reschedule_report = case_holds reschedule_cases reschedule 2

-- F-6
pub pulled_0_accepted : day_fault pulled0_day ≡ 0
unfolding pulled0_cases_on pulled0_cases
pulled_0_accepted = number_holds (day_fault pulled0_day) 0 (case_holds pulled0_cases pulled_0 0)

pub pulled_0_book : book_after pulled0_day (replicate 265 170) ≡ pulled0_book ++ (170 ∷ [])
unfolding pulled0_cases_on pulled0_cases
pulled_0_book = case_holds pulled0_cases pulled_0 1

pub pulled_0_report : report_text pulled0_day ≡ pulled0_text
unfolding pulled0_cases_on pulled0_cases
pulled_0_report = case_holds pulled0_cases pulled_0 2

-- F-14
pub open_rises_accepted : day_fault open_rises_day ≡ 0
unfolding open_rises_cases_on open_rises_cases
open_rises_accepted = number_holds (day_fault open_rises_day) 0 (case_holds open_rises_cases open_rises_lem 0)

pub open_rises_book_lem : book_after open_rises_day (replicate 265 170) ≡ open_rises_book ++ (170 ∷ [])
unfolding open_rises_cases_on open_rises_cases
open_rises_book_lem = case_holds open_rises_cases open_rises_lem 1

pub open_rises_report : report_text open_rises_day ≡ open_rises_text
unfolding open_rises_cases_on open_rises_cases
open_rises_report = case_holds open_rises_cases open_rises_lem 2
