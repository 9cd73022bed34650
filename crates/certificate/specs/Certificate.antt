-- THE CERTIFICATE: demand 3 on one accepted day (document 01, "Matching", "Totals and book"), one field for each clause.
-- It is stated of answers: `book` is the lent book as settling leaves it, `view k j` the step view's answer for step j of line k, `cut k`
-- the cutter's for the bytes of line k. Two clauses compare them with the definitions on a day whose quantities are within M (Within.antt); the
-- three on the running sum read the day's market prices, the line's side and where the step is paid.
-- Lines, steps and schedules are counted from 0.
-- The cutter reads a line's own operating rows. Where an ad hoc record replaces one, it may refuse with 12 a line that settling accepts, and
-- its clauses are of the lines that it accepts (document 02, F-5).
use Rattle.std.specs.Prelude.{ℕ, zero, suc, ◌+◌, ◌*◌, ◌-◌, ◌≤◌, ◌<◌, ◌≡◌, List, Bool, true, false, cond, ◌&&◌, get_or, eqb, ltb, ℤ, pos}
use Rattle.std.specs.Int.Signed.{lt_z, le_z}
use Rattle.rules.specs.Fold.{sum_to, sum_z, some_to, all_to, five, at, at_z}
use Rattle.rules.specs.Layout.{excess_most, word, line_count, market_price, line_at, side, operating_table}
use Rattle.rules.specs.Steps.{greatest_break, paid}
use Rattle.rules.specs.Quantities.{pricing_total, table_total, table_actual}
use Rattle.rules.specs.InForce.{operating_total, effective_actual}
use Rattle.rules.specs.Matching.{rise, fall}
use Rattle.rules.specs.Payments.{beyond_by, step_final}
use Rattle.rules.specs.Days.{step_of}
use Rattle.rules.specs.Totals.{line_payment}
use Rattle.rules.specs.Viewing.{figures_of}
use Rattle.rules.specs.declared.View.{View}
use Rattle.rules.specs.declared.Cut.{Cut}
use Rattle.cutter.specs.Certificate.{end_at, width_at}
use Rattle.book_layout.specs.Reading.{signed_at}
use Rattle.book_layout.specs.Framing.{adjusted_at, payment_at, book_count}
use Rattle.certificate.specs.Within.{within_bid, day_within, without_excess}

-- m(r, s) "as the step view answers" it, among its ten matches: those of s follow those of the schedules before it
abbrev pub matches_before : ℕ → ℕ
matches_before zero = 0
matches_before (suc s) = matches_before s + s

-- 0 where r isn't before s
unfoldable pub match_in : View → ℕ → ℕ → ℕ
match_in v s r = cond (ltb r s) (get_or v.matches (matches_before s + r) 0) 0

-- the matches made in schedule s, and those with the rise of r in all five schedules
unfoldable pub matches_made : View → ℕ → ℕ
matches_made v s = sum_to s (match_in v s)

unfoldable pub matches_with : View → ℕ → ℕ
matches_with v r = sum_to 5 (λ s. match_in v s r)

-- Document 02, F-14, of a step of line k of the day d, whose view is v. Whether it is paid in the first n schedules: "paid in all five
-- schedules" where n is 5
unfoldable pub paid_up_to : List ℕ → ℕ → View → ℕ → Bool
paid_up_to d k v n = all_to n (paid (line_at d k) v.end)

-- "the rate" R(s): the view's price, which is the capped one, beyond the day's market price
unfoldable pub rate_in : List ℕ → ℕ → View → ℕ → ℕ
rate_in d k v s = beyond_by (side (line_at d k)) (at v.price s) (market_price d s)

-- "after each schedule, the running sum of modified payments"
unfoldable pub running_sum : View → ℕ → ℤ
running_sum v s = sum_z (suc s) (at_z v.modified)

-- what is open after s of the rise of r: U(r) less m(r, q) for each q up to s, which are no more than it (clause `rises`)
unfoldable pub open_in : View → ℕ → ℕ → ℕ
open_in v s r = rise v.constrained r - sum_to (suc s) (λ q. match_in v q r)

-- "the open rises, each at the rate of the schedule where it rose"
unfoldable pub open_at_rates : List ℕ → ℕ → View → ℕ → ℕ
open_at_rates d k v s = sum_to (suc s) (λ r. open_in v s r * rate_in d k v r)

-- whether a fall so far "came at a rate of 0": D(q) above 0, R(q) = 0
unfoldable pub fell_at_zero : List ℕ → ℕ → View → ℕ → Bool
fell_at_zero d k v s = some_to (suc s) (λ q. ltb 0 (fall v.constrained q) && eqb (rate_in d k v q) 0)

-- what such falls took of earlier rises, each at the rate of the schedule where it rose
unfoldable pub taken_at_zero : List ℕ → ℕ → View → ℕ → ℕ
taken_at_zero d k v s = sum_to (suc s) (λ q. cond (eqb (rate_in d k v q) 0) (sum_to q (λ r. match_in v q r * rate_in d k v r)) 0)

-- the book's adjusted total of s, and its five payments of line k
unfoldable pub adjusted_in : List ℕ → ℕ → ℤ
adjusted_in book s = signed_at book (adjusted_at s)

unfoldable pub payments_in : List ℕ → ℕ → ℤ
payments_in book k = sum_z 5 (λ s. signed_at book (payment_at k s))

-- the clauses on view and book, with `steps k` steps in line k, its operating totals and its effective actual
pub record CertifiedSteps (steps : ℕ → ℕ) (operating : ℕ → ℕ → ℕ) (actual : ℕ → ℕ) (d book : List ℕ) (view : ℕ → ℕ → View) : Type 0 where
  -- the view takes each of these steps, and no further one (17)
  pub view_taken : (k j : ℕ) → k < line_count d → j < steps k → (view k j).number ≡ 0
  pub view_ended : (k j : ℕ) → k < line_count d → steps k ≤ j → (view k j).number ≡ 17
  -- on each line the view's widths add up to the greatest break
  pub widths : (k : ℕ) → k < line_count d → sum_to (steps k) (λ j. (view k j).width) ≡ greatest_break (line_at d k)
  -- "steps plus excess" (document 02, F-2): in each schedule the steps' pricing and operating quantities and the excess, which each step's view
  -- shows, add up to the line's totals; and the steps' parts of the effective actual, with its excess, add up to it
  pub pricing_sum : (k i s : ℕ) → k < line_count d → i < steps k → s < 5 → sum_to (steps k) (λ j. at (view k j).pricing s) + at (view k i).excess.pricing s ≡ pricing_total (line_at d k) s
  pub operating_sum : (k i s : ℕ) → k < line_count d → i < steps k → s < 5 → sum_to (steps k) (λ j. at (view k j).operating s) + at (view k i).excess.operating s ≡ operating k s
  pub actual_sum : (k i : ℕ) → k < line_count d → i < steps k → sum_to (steps k) (λ j. (view k j).actual) + (view k i).excess.actual ≡ actual k
  -- an excess is at most 1,000 MJ, and the effective actual's at most that of operating in schedule 5
  pub pricing_excess : (k i s : ℕ) → k < line_count d → i < steps k → s < 5 → at (view k i).excess.pricing s ≤ excess_most
  pub operating_excess : (k i s : ℕ) → k < line_count d → i < steps k → s < 5 → at (view k i).excess.operating s ≤ excess_most
  pub actual_excess : (k i : ℕ) → k < line_count d → i < steps k → (view k i).excess.actual ≤ at (view k i).excess.operating 4
  -- "never constrained on and never paid": every other figure of the view, C among them, and each payment in the book is that of min(Q, M)
  -- for each of the line's eleven quantities Q
  pub figures_within : (k j : ℕ) → k < line_count d → j < steps k → without_excess (view k j) ≡ figures_of (within_bid (step_of d k j)) (five (λ s. step_final (day_within d) s k j))
  pub payments_within : (k s : ℕ) → k < line_count d → s < 5 → signed_at book (payment_at k s) ≡ line_payment (day_within d) s k
  -- and in each schedule the steps' C add up to at most the operating total less its excess
  pub constrained_sum : (k i s : ℕ) → k < line_count d → i < steps k → s < 5 → sum_to (steps k) (λ j. at (view k j).constrained s) + at (view k i).excess.operating s ≤ operating k s
  -- AGINO is at most O, and MSIQ at most E
  pub agino_most : (k j s : ℕ) → k < line_count d → j < steps k → s < 5 → at (view k j).agino s ≤ at (view k j).operating s
  pub msiq_most : (k j s : ℕ) → k < line_count d → j < steps k → s < 5 → at (view k j).msiq s ≤ at (view k j).pricing s
  -- "for every s, the sum of m(r, s) over all r below s is D(s)"
  pub falls : (k j s : ℕ) → k < line_count d → j < steps k → s < 5 → matches_made (view k j) s ≡ fall (view k j).constrained s
  -- "for every r, the sum of m(r, s) over all s above r is at most U(r)"
  pub rises : (k j r : ℕ) → k < line_count d → j < steps k → r < 5 → matches_with (view k j) r ≤ rise (view k j).constrained r
  -- "for every s, the sum of U(1) to U(s), less all matches made in schedules up to s, is C(s)", said as a sum
  pub balance : (k j s : ℕ) → k < line_count d → j < steps k → s < 5 → sum_to (suc s) (rise (view k j).constrained) ≡ at (view k j).constrained s + sum_to (suc s) (matches_made (view k j))
  -- document 02, F-14, on a step paid in all five schedules: "after each schedule, the running sum of modified payments is at least the open
  -- rises, each at the rate of the schedule where it rose"
  pub running_least : (k j s : ℕ) → k < line_count d → j < steps k → s < 5 → paid_up_to d k (view k j) 5 ≡ true → le_z (pos (open_at_rates d k (view k j) s)) (running_sum (view k j) s) ≡ true
  -- "It is exactly that where no fall so far came at a rate of 0"
  pub running_exact : (k j s : ℕ) → k < line_count d → j < steps k → s < 5 → paid_up_to d k (view k j) 5 ≡ true → fell_at_zero d k (view k j) s ≡ false → running_sum (view k j) s ≡ pos (open_at_rates d k (view k j) s)
  -- the exact difference, from which both follow, on a step paid in the schedules so far: what falls at a rate of 0 took
  pub running_difference : (k j s : ℕ) → k < line_count d → j < steps k → s < 5 → paid_up_to d k (view k j) (suc s) ≡ true → running_sum (view k j) s ≡ pos (open_at_rates d k (view k j) s + taken_at_zero d k (view k j) s)
  -- "All payments in the book are the five of each of its n lines": the five adjusted totals add up to them
  pub lines : word book 0 ≡ line_count d
  pub adjusted_sum : sum_z 5 (adjusted_in book) ≡ sum_z (word book 0) (payments_in book)
  -- and no negative adjusted total stands after a positive one
  pub adjusted_order : (r s : ℕ) → r < s → s < 5 → lt_z (pos 0) (adjusted_in book r) ≡ true → lt_z (adjusted_in book s) (pos 0) ≡ false

-- the whole statement: of each line as many steps as the book counts, and its rows in force
pub record Certified (d book : List ℕ) (view : ℕ → ℕ → View) (cut : ℕ → Cut) : Type 0 where
  pub views : CertifiedSteps (book_count book) (operating_total d) (effective_actual d) d book view
  -- the cutter refuses a line with 12 alone; of one that it accepts it counts the same steps
  pub cut_twelve : (k : ℕ) → k < line_count d → ((cut k).number ≡ 0 → ⊥) → (cut k).number ≡ 12
  pub same_count : (k : ℕ) → k < line_count d → (cut k).number ≡ 0 → (cut k).count ≡ book_count book k
  -- "The cutter's upper ends are the view's", and its widths too
  pub same_end : (k j : ℕ) → k < line_count d → (cut k).number ≡ 0 → j < (cut k).count → end_at (cut k) j ≡ (view k j).end
  pub same_width : (k j : ℕ) → k < line_count d → (cut k).number ≡ 0 → j < (cut k).count → width_at (cut k) j ≡ (view k j).width

-- the statement as it was before ad hoc records: as many steps as the cutter counts, which refuses no line, and the line's own rows
pub record CertifiedOwn (d book : List ℕ) (view : ℕ → ℕ → View) (cut : ℕ → Cut) : Type 0 where
  pub views : CertifiedSteps (λ k. (cut k).count) (λ k. table_total (operating_table (line_at d k))) (λ k. table_actual (operating_table (line_at d k)) (line_at d k)) d book view
  pub cut_taken : (k : ℕ) → k < line_count d → (cut k).number ≡ 0
  pub same_end : (k j : ℕ) → k < line_count d → j < (cut k).count → end_at (cut k) j ≡ (view k j).end
  pub same_width : (k j : ℕ) → k < line_count d → j < (cut k).count → width_at (cut k) j ≡ (view k j).width
