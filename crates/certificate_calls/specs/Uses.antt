-- The certificate applied: to K10's day and to worked days, which are accepted, and to a law on the cutter that a buyer would ask for.
use Rattle.std.specs.Prelude.{ℕ, ◌≤◌, ◌<◌, ◌≡◌, refl, List, length}
use Rattle.std.proofs.Common.{◌∙◌, ap}
use Rattle.rules.specs.Fold.{sum_to}
use Rattle.rules.specs.Layout.{line_count, line_at}
use Rattle.rules.specs.Steps.{greatest_break}
use Rattle.rules.specs.Refusals.{day_fault}
use Rattle.rules.specs.Cutting.{cut_answer}
use Rattle.rules.specs.Viewing.{view_answer}
use Rattle.rules.specs.declared.View.{View}
use Rattle.rules.specs.declared.Cut.{Cut}
use Rattle.rules.specs.Uplift.{uplift_answer}
use Rattle.rules.specs.Book.{book_after}
use Rattle.rules.proofs.Worked.Opened.{opened}
use Rattle.rules.proofs.Worked.Figures.{k10_day}
use Rattle.rules.proofs.Worked.Base2.{base2_words, base2_day}
use Rattle.rules.proofs.Worked.Reschedule.{reschedule_words, reschedule_day}
use Rattle.rules.proofs.Worked.Lemma.{base_2_accepted}
use Rattle.rules.proofs.Worked.Pulled0.{pulled0_words, pulled0_day}
use Rattle.rules.proofs.Worked.Excess0.{excess0_words, excess0_day}
use Rattle.rules.proofs.Worked.AdHoc0.{ad_hoc0_words, ad_hoc0_day}
use Rattle.rules.proofs.Worked.OpenRises.{open_rises_words, open_rises_day}
use Rattle.rules.proofs.Worked.HandDays.{reschedule_accepted, pulled_0_accepted, excess_0_accepted, ad_hoc_0_accepted, open_rises_accepted}
use Rattle.laws.specs.Folds.{sum_same}
use Rattle.cutter.specs.Certificate.{width_at}
use Rattle.certificate.specs.Certificate.{Certified}
use Rattle.certificate.proofs.Certified.{certified}
use Rattle.certificate.specs.Uplift.{CertifiedUplift}
use Rattle.certificate.proofs.Uplift.{uplift_certified}

-- K10's day has none of settling's faults, by computation
pub k10_accepted : day_fault k10_day ≡ 0
unfolding opened
k10_accepted = refl

-- and so it is certified, with its book in any lent one of at least 152 bytes
pub k10_certified : (b : List ℕ) → 152 ≤ length b → Certified k10_day (book_after k10_day b) (view_answer k10_day) (λ k. cut_answer (line_at k10_day k))
k10_certified b l =
    certified k10_day b (book_after k10_day b) (view_answer k10_day) (λ k. cut_answer (line_at k10_day k)) k10_accepted l refl
    (λ k j. refl) (λ k. refl)

-- So is a worked day with both sides, clawback on, marks that lower prices and a hedge, whose figures are in rules (`base_2`)
pub base_2_certified : (b : List ℕ) → 208 ≤ length b → Certified base2_day (book_after base2_day b) (view_answer base2_day) (λ k. cut_answer (line_at base2_day k))
unfolding base2_words base2_day
base_2_certified b l =
    certified base2_day b (book_after base2_day b) (view_answer base2_day) (λ k. cut_answer (line_at base2_day k)) base_2_accepted l refl
    (λ k j. refl) (λ k. refl)

-- And so is one with points that are accredited for a part of the day (document 02, F-7; `reschedule` in rules)
pub reschedule_certified : (b : List ℕ) → 320 ≤ length b → Certified reschedule_day (book_after reschedule_day b) (view_answer reschedule_day) (λ k. cut_answer (line_at reschedule_day k))
unfolding reschedule_words reschedule_day
reschedule_certified b l =
    certified reschedule_day b (book_after reschedule_day b) (view_answer reschedule_day) (λ k. cut_answer (line_at reschedule_day k))
    reschedule_accepted l refl (λ k j. refl) (λ k. refl)

-- and one with bids that are pulled in a reschedule, on both sides (document 02, F-6; `pulled_0` in rules)
pub pulled_certified : (b : List ℕ) → 264 ≤ length b → Certified pulled0_day (book_after pulled0_day b) (view_answer pulled0_day) (λ k. cut_answer (line_at pulled0_day k))
unfolding pulled0_words pulled0_day
pulled_certified b l =
    certified pulled0_day b (book_after pulled0_day b) (view_answer pulled0_day) (λ k. cut_answer (line_at pulled0_day k))
    pulled_0_accepted l refl (λ k j. refl) (λ k. refl)

-- and one with totals and an effective actual slightly over the bid (document 02, F-2; `excess_0` in rules)
pub excess_certified : (b : List ℕ) → 264 ≤ length b → Certified excess0_day (book_after excess0_day b) (view_answer excess0_day) (λ k. cut_answer (line_at excess0_day k))
unfolding excess0_words excess0_day
excess_certified b l =
    certified excess0_day b (book_after excess0_day b) (view_answer excess0_day) (λ k. cut_answer (line_at excess0_day k))
    excess_0_accepted l refl (λ k j. refl) (λ k. refl)

-- and one with ad hoc records, on both sides (document 02, F-5; `ad_hoc_0` in rules)
pub ad_hoc_certified : (b : List ℕ) → 208 ≤ length b → Certified ad_hoc0_day (book_after ad_hoc0_day b) (view_answer ad_hoc0_day) (λ k. cut_answer (line_at ad_hoc0_day k))
unfolding ad_hoc0_words ad_hoc0_day
ad_hoc_certified b l =
    certified ad_hoc0_day b (book_after ad_hoc0_day b) (view_answer ad_hoc0_day) (λ k. cut_answer (line_at ad_hoc0_day k))
    ad_hoc_0_accepted l refl (λ k j. refl) (λ k. refl)

-- the laws of its shares, with the totals and payments of its book (document 02, F-1)
pub ad_hoc_uplift : (b : List ℕ) → 208 ≤ length b → CertifiedUplift (book_after ad_hoc0_day b) (uplift_answer ad_hoc0_day).shares
unfolding ad_hoc0_words ad_hoc0_day
ad_hoc_uplift b l = uplift_certified ad_hoc0_day b (book_after ad_hoc0_day b) (uplift_answer ad_hoc0_day) ad_hoc_0_accepted l refl refl

-- the cutter refuses its line 0, whose own rows of schedules 2 and 5 are not in force
pub ad_hoc_line_refused : (cut_answer (line_at ad_hoc0_day 0)).number ≡ 12
unfolding opened ad_hoc0_words ad_hoc0_day
ad_hoc_line_refused = refl

-- A day with open rises, on both sides, and falls at a rate of 0 is certified too (document 02, F-14; `open_rises_lem` in rules)
pub open_rises_certified : (b : List ℕ) → 264 ≤ length b → Certified open_rises_day (book_after open_rises_day b) (view_answer open_rises_day) (λ k. cut_answer (line_at open_rises_day k))
unfolding open_rises_words open_rises_day
open_rises_certified b l =
    certified open_rises_day b (book_after open_rises_day b) (view_answer open_rises_day) (λ k. cut_answer (line_at open_rises_day k))
    open_rises_accepted l refl (λ k j. refl) (λ k. refl)

-- the cutter alone covers a line that it accepts: its own widths add up to the greatest break
pub cutter_covers : (d book : List ℕ) (view : ℕ → ℕ → View) (cut : ℕ → Cut) → Certified d book view cut → (k : ℕ) → k < line_count d → (cut k).number ≡ 0 → sum_to (cut k).count (width_at (cut k)) ≡ greatest_break (line_at d k)
cutter_covers d book view cut c k l n =
    sum_same (cut k).count (width_at (cut k)) (λ j. (view k j).width) (λ j g. c.same_width k j l n g)
    ∙ ap (λ (m : ℕ). sum_to m (λ j. (view k j).width)) (c.same_count k l n)
    ∙ c.views.widths k l
