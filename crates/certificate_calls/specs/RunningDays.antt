-- Document 02, F-14: the clauses on the running sum, computed on steps of accepted days (crates/rules/proofs/Worked), and five wrong clauses, each
-- false on the day with open rises.
use Rattle.std.specs.Prelude.{ℕ, suc, ◌+◌, ◌*◌, ◌-◌, ◌<◌, ◌≡◌, refl, List, [], ◌∷◌, ◌++◌, Bool, true, false, length, take, drop, replicate, pos}
use Rattle.std.proofs.Common.{arith, sym, ◌∙◌}
use Rattle.std.proofs.lemmas.Bool.{false≢true}
use Rattle.std.specs.Int.Signed.{lt_z, le_z}
use Rattle.rules.specs.Fold.{sum_to, eqb_z, five}
use Rattle.rules.specs.Layout.{line_count, line_at}
use Rattle.rules.specs.Steps.{step_count}
use Rattle.rules.specs.Matching.{rise, fall}
use Rattle.rules.specs.Payments.{bit}
use Rattle.rules.specs.Book.{bits64}
use Rattle.rules.specs.Viewing.{view_of, view_answer}
use Rattle.rules.specs.declared.View.{View}
use Rattle.rules.specs.Refusals.{day_fault}
use Rattle.rules.proofs.Worked.Cases.{Case, every, bytes_of, bid, neg, number}
use Rattle.rules.proofs.Worked.Laws.{all}
use Rattle.rules.proofs.Worked.Opened.{opened}
use Rattle.rules.proofs.Worked.Figures.{k10_day}
use Rattle.rules.proofs.Worked.Base1.{base1_words, base1_day}
use Rattle.rules.proofs.Worked.Base2.{base2_words, base2_day}
use Rattle.rules.proofs.Worked.Pulled0.{pulled0_words, pulled0_day}
use Rattle.rules.proofs.Worked.Excess0.{excess0_words, excess0_day}
use Rattle.rules.proofs.Worked.Reschedule.{reschedule_words, reschedule_day}
use Rattle.rules.proofs.Worked.AdHoc0.{ad_hoc0_words, ad_hoc0_day}
use Rattle.rules.proofs.Worked.OpenRises.{open_rises_words, open_rises_day}
use Rattle.rules.proofs.Worked.HandDays.{open_rises_accepted}
use Rattle.certificate.specs.Certificate.{match_in, paid_up_to, rate_in, running_sum, open_in, open_at_rates, fell_at_zero, taken_at_zero}
use Rattle.certificate.specs.Answers.{view_whole}

-- step j of line k of the day d, after each schedule: whether it was paid in all schedules so far, the running sum, the open rises at their
-- rates, whether a fall came at a rate of 0, and what such falls took. All these days are accepted, so `view_of` is the view's answer (`view_whole`)
abbrev running_of : List ℕ → ℕ → ℕ → List ℕ → List ℕ → List ℕ → List ℕ → List ℕ → Case
running_of d k j paid sums opens fell taken =
    record {
      found =
          five (λ s. bit (paid_up_to d k (view_of d k j) (suc s))) ++ five (λ s. bits64 (running_sum (view_of d k j) s))
          ++ five (open_at_rates d k (view_of d k j)) ++ five (λ s. bit (fell_at_zero d k (view_of d k j) s))
          ++ five (taken_at_zero d k (view_of d k j));
      expected = paid ++ sums ++ opens ++ fell ++ taken;
    }

abbrev zeros : List ℕ
zeros = replicate 5 0

abbrev ones : List ℕ
ones = replicate 5 1

-- a step paid in all five schedules with no fall at a rate of 0: the running sum is the open rises
abbrev exact_of : List ℕ → ℕ → ℕ → List ℕ → Case
exact_of d k j sums = running_of d k j ones sums sums zeros zeros

-- the day d with the words v from its word i on
abbrev with_words : List ℕ → ℕ → List ℕ → List ℕ
with_words d i v = take (4 * i) d ++ bytes_of v ++ drop (4 * i + 4 * length v) d

-- K10's day accredited in schedules 1 to 4 (32 + 15), where it has its rise and its fall; and with a smaller bid in schedule 4, up to 1000 at
-- 45000, which has no price for the second step: the fall there takes half of a rise
abbrev part_day : List ℕ
part_day = with_words k10_day 19 (47 ∷ [])

abbrev smaller_day : List ℕ
smaller_day = with_words k10_day 90 (bid (1000 ∷ []) (45000 ∷ []))

-- Worked by hand: K10's day, and with these words in it, with which it is accepted too
abbrev k10_cases : List Case
k10_cases =
    exact_of k10_day 0 1 (0 ∷ 20000000 ∷ 20000000 ∷ 10000000 ∷ 10000000 ∷ [])
    ∷ number (day_fault part_day) 0
    ∷ running_of part_day 0 1 (1 ∷ 1 ∷ 1 ∷ 1 ∷ 0 ∷ []) (0 ∷ 20000000 ∷ 20000000 ∷ 10000000 ∷ 10000000 ∷ [])
    (0 ∷ 20000000 ∷ 20000000 ∷ 10000000 ∷ 10000000 ∷ []) zeros zeros
    ∷ number (day_fault smaller_day) 0
    ∷ exact_of smaller_day 0 1 (0 ∷ 20000000 ∷ 20000000 ∷ 10000000 ∷ 10000000 ∷ [])
    ∷ []

-- The day with open rises (docs/RULES.md): lines 0 and 1, an injection and a withdrawal, have pulled bids, falls that take from several rises and
-- of some a part, and a fall at a rate of 0; line 0 is accredited by the full set and has an excess; line 2 is paid in its fall alone
abbrev open_rises_sums : List Case
open_rises_sums =
    running_of open_rises_day 0 0 ones (360000000 ∷ 1080000000 ∷ 240000000 ∷ 240000000 ∷ 380000000 ∷ [])
    (360000000 ∷ 1080000000 ∷ 240000000 ∷ 90000000 ∷ 230000000 ∷ []) (0 ∷ 0 ∷ 0 ∷ 1 ∷ 1 ∷ []) (0 ∷ 0 ∷ 0 ∷ 150000000 ∷ 150000000 ∷ [])
    ∷ running_of open_rises_day 1 0 ones (50000000 ∷ 110000000 ∷ 470000000 ∷ 70000000 ∷ 70000000 ∷ [])
    (50000000 ∷ 110000000 ∷ 470000000 ∷ 70000000 ∷ 10000000 ∷ []) (0 ∷ 0 ∷ 0 ∷ 0 ∷ 1 ∷ []) (0 ∷ 0 ∷ 0 ∷ 0 ∷ 60000000 ∷ [])
    ∷ running_of open_rises_day 2 0 zeros (0 ∷ neg 120000000 ∷ neg 120000000 ∷ neg 120000000 ∷ neg 120000000 ∷ [])
    (200000000 ∷ 80000000 ∷ 80000000 ∷ 80000000 ∷ 80000000 ∷ []) zeros zeros
    ∷ []

-- The other days by hand: pulled bids, on both sides; lines with an excess, on both sides; a line accredited all day and two that are so for a
-- part of it; ad hoc rows, with a fall that takes from two rises
abbrev hand_sums : List Case
hand_sums =
    exact_of pulled0_day 0 1 (300000000 ∷ 1100000000 ∷ 150000000 ∷ 350000000 ∷ 0 ∷ [])
    ∷ exact_of pulled0_day 2 1 (0 ∷ 1200000000 ∷ 1200000000 ∷ 300000000 ∷ 300000000 ∷ [])
    ∷ exact_of excess0_day 0 1 (0 ∷ 1200000000 ∷ 0 ∷ 750000000 ∷ 1200000000 ∷ [])
    ∷ exact_of excess0_day 2 1 (0 ∷ 600000000 ∷ 600000000 ∷ 600000000 ∷ 0 ∷ [])
    ∷ exact_of reschedule_day 1 0 (300000000 ∷ 300000000 ∷ 1050000000 ∷ 1050000000 ∷ 1050000000 ∷ [])
    ∷ running_of reschedule_day 0 0 zeros (0 ∷ 0 ∷ neg 600000000 ∷ neg 100000000 ∷ neg 100000000 ∷ [])
    (900000000 ∷ 900000000 ∷ 300000000 ∷ 800000000 ∷ 800000000 ∷ []) zeros zeros
    ∷ running_of reschedule_day 3 0 zeros (0 ∷ neg 2000000000 ∷ neg 2000000000 ∷ neg 2000000000 ∷ neg 2000000000 ∷ [])
    (2000000000 ∷ 0 ∷ 0 ∷ 0 ∷ 0 ∷ []) zeros zeros
    ∷ exact_of ad_hoc0_day 1 0 (200000000 ∷ 600000000 ∷ 940000000 ∷ 700000000 ∷ 400000000 ∷ [])
    ∷ []

-- Two steps of the third implementation's days, added up from its figures: a smaller bid has no price for the first in schedules 1 to 4; the
-- second is hedged
abbrev base_sums : List Case
base_sums =
    exact_of base1_day 3 3 (5 ∷ 5 ∷ 0 ∷ 0 ∷ 0 ∷ [])
    ∷ running_of base2_day 0 1 zeros zeros (5 ∷ 0 ∷ 3 ∷ 3 ∷ 0 ∷ []) (0 ∷ 0 ∷ 0 ∷ 0 ∷ 1 ∷ []) (0 ∷ 0 ∷ 0 ∷ 0 ∷ 3 ∷ [])
    ∷ []

-- the definitions of the clauses and the days, opened
unfoldable pub running_opened : ℕ
unfolding opened match_in paid_up_to rate_in running_sum open_in open_at_rates fell_at_zero taken_at_zero pulled0_words pulled0_day excess0_words excess0_day
    reschedule_words reschedule_day ad_hoc0_words ad_hoc0_day open_rises_words open_rises_day base1_words base1_day base2_words base2_day
running_opened = 0

pub running_cases : every (all (k10_cases ∷ open_rises_sums ∷ hand_sums ∷ base_sums ∷ [])) ≡ true
unfolding running_opened
running_cases = refl

-- A clause on every step and schedule of the day with open rises, of the view's answers: a premise and a conclusion, each a test
abbrev Holds : (premise conclusion : ℕ → View → ℕ → Bool) → Type 0
Holds p c =
    (k j s : ℕ) → k < line_count open_rises_day → j < step_count (line_at open_rises_day k) → s < 5
    → p k (view_answer open_rises_day k j) s ≡ true → c k (view_answer open_rises_day k j) s ≡ true

lines_there : (k : ℕ) → k < 3 → k < line_count open_rises_day
unfolding running_opened
lines_there k l = let e : line_count open_rises_day ≡ 3 = refl in omega arith

-- it is false where the step of line k, which has one alone, meets the premise after s and not the conclusion: the day is accepted
refuted : (p c : ℕ → View → ℕ → Bool) (k s : ℕ) → k < 3 → s < 5 → step_count (line_at open_rises_day k) ≡ 1
    → p k (view_of open_rises_day k 0) s ≡ true → c k (view_of open_rises_day k 0) s ≡ false → Holds p c → ⊥
refuted p c k s l i one e f holds =
    let there = lines_there k l in
    let w = view_whole open_rises_day open_rises_accepted k 0 there (omega arith) in
    false≢true (sym f ∙ rw w at (holds k 0 s there (omega arith) i (rw w e)))

-- "paid in all five schedules"
abbrev paid_all : ℕ → View → ℕ → Bool
paid_all k v s = paid_up_to open_rises_day k v 5

-- the running sum "is at least", "is exactly" and is above the open rises `o`
abbrev least : (ℕ → View → ℕ → ℕ) → ℕ → View → ℕ → Bool
least o k v s = le_z (pos (o k v s)) (running_sum v s)

abbrev exact : (ℕ → View → ℕ → ℕ) → ℕ → View → ℕ → Bool
exact o k v s = eqb_z (running_sum v s) (pos (o k v s))

abbrev above : (ℕ → View → ℕ → ℕ) → ℕ → View → ℕ → Bool
above o k v s = lt_z (pos (o k v s)) (running_sum v s)

-- the open rises: as the clauses have them; all at the rate of the schedule just made; and where falls take the oldest rise first, so that of
-- the rise of r all falls so far were taken, less all rises before it
abbrev opens : ℕ → View → ℕ → ℕ
opens k v s = open_at_rates open_rises_day k v s

abbrev at_fall : ℕ → View → ℕ → ℕ
at_fall k v s = sum_to (suc s) (λ r. open_in v s r * rate_in open_rises_day k v s)

abbrev oldest_first : ℕ → View → ℕ → ℕ
oldest_first k v s =
    let u = rise v.constrained in
    sum_to (suc s) (λ r. (u r - (sum_to (suc s) (fall v.constrained) - sum_to r u)) * rate_in open_rises_day k v r)

-- Without "paid in all five schedules": line 2 is accredited in its fall alone, and after it the sum is below the open rises
pub paid_needed : Holds (λ k v s. true) (least opens) → ⊥
unfolding running_opened
paid_needed = refuted (λ k v s. true) (least opens) 2 1 (omega arith) (omega arith) refl refl refl

-- "exactly" without "where no fall so far came at a rate of 0": line 0 after schedule 4
pub rates_needed : Holds paid_all (exact opens) → ⊥
unfolding running_opened
rates_needed = refuted paid_all (exact opens) 0 3 (omega arith) (omega arith) refl refl refl

-- above for "at least": line 0 after schedule 1
pub not_above : Holds paid_all (above opens) → ⊥
unfolding running_opened
not_above = refuted paid_all (above opens) 0 0 (omega arith) (omega arith) refl refl refl

-- the rate of the schedule just made, as of a fall, for that of the rise: line 1 after its fall in schedule 4
pub not_at_fall : Holds paid_all (least at_fall) → ⊥
unfolding running_opened
not_at_fall = refuted paid_all (least at_fall) 1 3 (omega arith) (omega arith) refl refl refl

-- the oldest rise first: line 0 after its fall in schedule 3
pub not_oldest_first : Holds paid_all (least oldest_first) → ⊥
unfolding running_opened
not_oldest_first = refuted paid_all (least oldest_first) 0 2 (omega arith) (omega arith) refl refl refl
