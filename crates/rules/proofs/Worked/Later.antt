-- The worked days of document 02's requests by the third implementation, and the requests' refusals: for each request one lemma or two, computed
-- on the definitions, and what they give for each day.
use Rattle.std.specs.Prelude.{◌≡◌, refl, List, [], ◌∷◌, true}
use Rattle.rules.proofs.Worked.Cases.{Case, every, neg}
use Rattle.rules.proofs.Worked.Opened.{opened}
use Rattle.rules.proofs.Worked.Laws.{all, part_holds}
use Rattle.rules.proofs.Worked.UpliftDays.{answered, uplift_printed}
use Rattle.rules.proofs.Worked.Lemma.{worked}
use Rattle.rules.proofs.Worked.Refused.{accreditation_cases, pulled_cases, excess_cases, refused_opened}
use Rattle.rules.proofs.Worked.Accredited1.{accredited1_cases, accredited1_opened}
use Rattle.rules.proofs.Worked.Accredited2.{accredited2_cases, accredited2_opened}
use Rattle.rules.proofs.Worked.Accredited3.{accredited3_cases, accredited3_opened}
use Rattle.rules.proofs.Worked.Pulled1.{pulled1_cases, pulled1_opened}
use Rattle.rules.proofs.Worked.Pulled2.{pulled2_cases, pulled2_opened}
use Rattle.rules.proofs.Worked.Pulled3.{pulled3_cases, pulled3_opened}
use Rattle.rules.proofs.Worked.Excess1.{excess1_cases, excess1_opened}
use Rattle.rules.proofs.Worked.Excess2.{excess2_cases, excess2_opened}
use Rattle.rules.proofs.Worked.Excess3.{excess3_cases, excess3_opened}
use Rattle.rules.proofs.Worked.AdHoc1.{ad_hoc1_cases, ad_hoc1_opened}
use Rattle.rules.proofs.Worked.AdHoc2.{ad_hoc2_day, ad_hoc2_cases, ad_hoc2_opened}
use Rattle.rules.proofs.Worked.AdHoc3.{ad_hoc3_cases, ad_hoc3_opened}

-- F-7, accreditation within the day
abbrev accredited_parts : List (List Case)
accredited_parts = accreditation_cases ∷ accredited2_cases ∷ accredited1_cases ∷ accredited3_cases ∷ []

-- it names document 01's days, so that where those are refused this is not computed
pub accredited_days : every (all accredited_parts) ≡ true
unfolding opened refused_opened accredited1_opened accredited2_opened accredited3_opened
accredited_days = let k = worked in refl

-- every case of each part: with `case_holds` the equation of any of them
pub accreditation_refused : every accreditation_cases ≡ true
accreditation_refused = part_holds accredited_parts accredited_days 0

pub accredited_2 : every accredited2_cases ≡ true
accredited_2 = part_holds accredited_parts accredited_days 1

pub accredited_1 : every accredited1_cases ≡ true
accredited_1 = part_holds accredited_parts accredited_days 2

pub accredited_3 : every accredited3_cases ≡ true
accredited_3 = part_holds accredited_parts accredited_days 3

-- F-6, bids pulled in a reschedule
abbrev pulled_parts : List (List Case)
pulled_parts = pulled_cases ∷ pulled1_cases ∷ pulled2_cases ∷ pulled3_cases ∷ []

pub pulled_days : every (all pulled_parts) ≡ true
unfolding opened refused_opened pulled1_opened pulled2_opened pulled3_opened
pulled_days = let k = accredited_days in refl

pub pulled_refused : every pulled_cases ≡ true
pulled_refused = part_holds pulled_parts pulled_days 0

pub pulled_1 : every pulled1_cases ≡ true
pulled_1 = part_holds pulled_parts pulled_days 1

pub pulled_2 : every pulled2_cases ≡ true
pulled_2 = part_holds pulled_parts pulled_days 2

pub pulled_3 : every pulled3_cases ≡ true
pulled_3 = part_holds pulled_parts pulled_days 3

-- F-2, schedules slightly over the bid: the refusals by themselves, then the days
pub excess_refused : every excess_cases ≡ true
unfolding opened refused_opened
excess_refused = let k = pulled_days in refl

abbrev excess_parts : List (List Case)
excess_parts = excess1_cases ∷ excess2_cases ∷ excess3_cases ∷ []

pub excess_days : every (all excess_parts) ≡ true
unfolding opened excess1_opened excess2_opened excess3_opened
excess_days = let k = excess_refused in refl

pub excess_1 : every excess1_cases ≡ true
excess_1 = part_holds excess_parts excess_days 0

pub excess_2 : every excess2_cases ≡ true
excess_2 = part_holds excess_parts excess_days 1

pub excess_3 : every excess3_cases ≡ true
excess_3 = part_holds excess_parts excess_days 2

-- F-1, of ad hoc 2: t = 20 -8 -16 6 -10, a = 0 0 -4 0 -4; -8 x 4/24 and -16 x 4/24 give -1 -2 and a unit
abbrev ad_hoc2_uplift : List Case
ad_hoc2_uplift = answered ad_hoc2_day 0 (0 ∷ neg 2 ∷ neg 2 ∷ 0 ∷ neg 4 ∷ []) ∷ uplift_printed ad_hoc2_day "uplift 0 -2 -2 0 -4" ∷ []

-- F-5, ad hoc schedules; its refusals are in HandDays
abbrev ad_hoc_parts : List (List Case)
ad_hoc_parts = ad_hoc1_cases ∷ ad_hoc2_cases ∷ ad_hoc3_cases ∷ ad_hoc2_uplift ∷ []

pub ad_hoc_days : every (all ad_hoc_parts) ≡ true
unfolding opened ad_hoc1_opened ad_hoc2_opened ad_hoc3_opened
ad_hoc_days = let k = excess_days in refl

pub ad_hoc_1 : every ad_hoc1_cases ≡ true
ad_hoc_1 = part_holds ad_hoc_parts ad_hoc_days 0

pub ad_hoc_2 : every ad_hoc2_cases ≡ true
ad_hoc_2 = part_holds ad_hoc_parts ad_hoc_days 1

pub ad_hoc_3 : every ad_hoc3_cases ≡ true
ad_hoc_3 = part_holds ad_hoc_parts ad_hoc_days 2

pub ad_hoc_2_uplift : every ad_hoc2_uplift ≡ true
ad_hoc_2_uplift = part_holds ad_hoc_parts ad_hoc_days 3
