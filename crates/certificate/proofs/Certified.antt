-- The certificate's proof: each clause from the law of its definition.
use Prim.Native.Nat.{ℕ, suc, ◌+◌, ◌≤◌, ◌<◌}
use Rattle.std.proofs.Common.{arith, sym, ◌∙◌}
use Rattle.std.specs.Prelude.{◌≡◌, refl, List, ◌++◌, true, false, length, drop, pos}
use Rattle.std.proofs.Math.Path.{ap}
use Rattle.std.specs.Int.Signed.{lt_z, le_z}
use Rattle.rules.specs.Fold.{sum_to, sum_z, five, at}
use Rattle.rules.specs.Layout.{excess_most, word, record_count, line_count, line_at, operating_table}
use Rattle.rules.specs.Steps.{greatest_break, step_count}
use Rattle.rules.specs.Quantities.{untaken, pricing_total, table_total, table_actual}
use Rattle.rules.specs.InForce.{table_in_force, operating_total, effective_actual}
use Rattle.rules.specs.Matching.{rise, fall, matched}
use Rattle.rules.specs.Payments.{operating_on, pricing_on, agino_on, msiq_on, on_step, step_final, Day}
use Rattle.rules.specs.Days.{step_of, settled_day}
use Rattle.rules.specs.Refusals.{day_fault, book_length}
use Rattle.rules.specs.Cutting.{cut_of, cut_answer}
use Rattle.rules.specs.Viewing.{figures_of, view_of, view_answer}
use Rattle.rules.specs.Totals.{line_payment, totals, adjusted_total}
use Rattle.rules.specs.Book.{book_of, book_after}
use Rattle.rules.specs.declared.View.{View}
use Rattle.rules.specs.declared.Cut.{Cut}
use Rattle.laws.specs.Accepted.{accepted_day, accepted_line_at, accepted_line_with}
use Rattle.laws.specs.InForce.{own_table}
use Rattle.laws.specs.Folds.{sum_same, at_five}
use Rattle.laws.specs.Ints.{lt_z_yes, le_lt_z}
use Rattle.day_totals.specs.Sizes.{mag_size, adjusted_size}
use Rattle.book_layout.specs.Reading.{signed_at}
use Rattle.book_layout.specs.Framing.{payment_at, book_count, book_words, book_count_lem, book_adjusted_lem, book_payment_lem, after_settling}
use Rattle.certificate.specs.Certificate.{CertifiedSteps, Certified, CertifiedOwn, match_in, matches_made, matches_with, paid_up_to, running_sum, open_at_rates, fell_at_zero, taken_at_zero, adjusted_in, payments_in}
use Rattle.step_quantities.specs.Bounds.{agino_on_most, msiq_on_most}
use Rattle.step_quantities.specs.Adding.{RisingEnds, step_pricing, step_operating, step_actual, step_constrained, excess_pricing, excess_operating, excess_actual, pricing_adds_up, operating_adds_up, actual_adds_up, constrained_adds_up}
use Rattle.step_matching.specs.Balance.{matched_with, matches_in, falls_matched, rises_bound, rises_balance}
use Rattle.cutter.specs.Certificate.{end_at, width_at, fault_none, answer_whole}
use Rattle.step_inputs.specs.Ends.{width, line_ends, widths_sum}
use Rattle.step_inputs.specs.Steps.{actual_most}
use Rattle.step_inputs.specs.Paid.{DaySized, payment_size, day_bounded, settled_sized}
use Rattle.day_totals.specs.Sums.{sum_z_same}
use Rattle.day_totals.specs.Money.{line_payments, adjusted_payments, adjusted_order}
use Rattle.certificate.specs.Within.{within_bid, day_within, without_excess}
use Rattle.certificate.proofs.Excess.{view_within, payment_within}
use Rattle.certificate.specs.Refused.{refused_with_twelve, own_taken}
use Rattle.certificate.specs.Answers.{view_whole, view_past, settle_taken, end_at_lem, width_at_lem, match_is}
use Rattle.certificate.specs.Running.{paid_part}
use Rattle.certificate.proofs.Running.{view_difference, view_least, view_exact}

module _ (d : List ℕ) (h : day_fault d ≡ 0) where
  -- gas and matches, of views that are the whole ones, with the steps, the operating totals and the effective actual of each line
  module _ (view : ℕ → ℕ → View) (views : (k j : ℕ) → k < line_count d → j < step_count (line_at d k) → view k j ≡ view_of d k j) (steps : ℕ → ℕ) (count_is : (k : ℕ) → k < line_count d → steps k ≡ step_count (line_at d k)) (operating : ℕ → ℕ → ℕ) (total_is : (k : ℕ) → operating k ≡ operating_total d k) (actual : ℕ → ℕ) (actual_is : (k : ℕ) → actual k ≡ effective_actual d k) where
    -- the view of a step of the line
    view_is : (k j : ℕ) → k < line_count d → j < steps k → view k j ≡ view_of d k j
    view_is k j l g = views k j l (rw (count_is k l) at g)

    view_number : (k j : ℕ) → k < line_count d → j < steps k → (view k j).number ≡ 0
    unfolding view_of
    view_number k j l g = ap (λ (v : View). v.number) (view_is k j l g)

    -- a figure of each step, added up over the line
    steps_sum : (k : ℕ) → k < line_count d → (f : View → ℕ) (g : ℕ → ℕ) → ((j : ℕ) → f (view_of d k j) ≡ g j) → sum_to (steps k) (λ j. f (view k j)) ≡ sum_to (step_count (line_at d k)) g
    steps_sum k l f g e =
        rw (count_is k l)
        (sum_same (step_count (line_at d k)) (λ j. f (view k j)) g (λ j i. ap f (views k j l i) ∙ e j))

    widths : (k : ℕ) → k < line_count d → sum_to (steps k) (λ j. (view k j).width) ≡ greatest_break (line_at d k)
    unfolding view_of step_of
    widths k l =
        let a = accepted_line_at d (accepted_day d h) k l in
        steps_sum k l (λ v. v.width) (width (line_at d k)) (λ j. refl) ∙ widths_sum (line_at d k) a

    -- the ends of line k
    ends_at : (k : ℕ) → k < line_count d → RisingEnds (line_at d k)
    ends_at k l = line_ends (line_at d k) (accepted_line_at d (accepted_day d h) k l)

    -- the excess that the view of any step shows is the line's
    shown_pricing : (k i s : ℕ) → k < line_count d → i < steps k → s < 5 → at (view k i).excess.pricing s ≡ untaken (pricing_total (line_at d k) s) (greatest_break (line_at d k))
    unfolding view_of
    shown_pricing k i s l g b = rw (view_is k i l g) (excess_pricing d k (ends_at k l) i s b)

    shown_operating : (k i s : ℕ) → k < line_count d → i < steps k → s < 5 → at (view k i).excess.operating s ≡ untaken (operating k s) (greatest_break (line_at d k))
    unfolding view_of
    shown_operating k i s l g b = rw (view_is k i l g, total_is k) (excess_operating d k (ends_at k l) i s b)

    shown_actual : (k i : ℕ) → k < line_count d → i < steps k → (view k i).excess.actual ≡ untaken (actual k) (greatest_break (line_at d k))
    unfolding view_of
    shown_actual k i l g = rw (view_is k i l g, actual_is k) (excess_actual d k (ends_at k l) i)

    pricing_sum : (k i s : ℕ) → k < line_count d → i < steps k → s < 5 → sum_to (steps k) (λ j. at (view k j).pricing s) + at (view k i).excess.pricing s ≡ pricing_total (line_at d k) s
    unfolding view_of step_pricing
    pricing_sum k i s l g b =
        let e = steps_sum k l (λ v. at v.pricing s) (step_pricing d k s) (λ j. at_five (pricing_on (step_of d k j)) 0 s b) in
        rw (shown_pricing k i s l g b, e) (pricing_adds_up d k (ends_at k l) s b)

    operating_sum : (k i s : ℕ) → k < line_count d → i < steps k → s < 5 → sum_to (steps k) (λ j. at (view k j).operating s) + at (view k i).excess.operating s ≡ operating k s
    unfolding view_of step_operating
    operating_sum k i s l g b =
        let e = steps_sum k l (λ v. at v.operating s) (step_operating d k s) (λ j. at_five (operating_on (step_of d k j)) 0 s b) in
        rw (shown_operating k i s l g b, e, total_is k) (operating_adds_up d k (ends_at k l) s b)

    actual_sum : (k i : ℕ) → k < line_count d → i < steps k → sum_to (steps k) (λ j. (view k j).actual) + (view k i).excess.actual ≡ actual k
    unfolding view_of step_actual
    actual_sum k i l g =
        let e = steps_sum k l (λ v. v.actual) (step_actual d k) (λ j. refl) in
        rw (shown_actual k i l g, e, actual_is k) (actual_adds_up d k (ends_at k l))

    pricing_excess : (k i s : ℕ) → k < line_count d → i < steps k → s < 5 → at (view k i).excess.pricing s ≤ excess_most
    unfolding untaken
    pricing_excess k i s l g b =
        let a = accepted_line_at d (accepted_day d h) k l in
        omega (arith, shown_pricing k i s l g b, a.pricing_most s b)

    operating_excess : (k i s : ℕ) → k < line_count d → i < steps k → s < 5 → at (view k i).excess.operating s ≤ excess_most
    unfolding untaken
    operating_excess k i s l g b =
        let a = accepted_line_with d (accepted_day d h) k l in
        let e : operating k s ≡ operating_total d k s = ap (λ (f : ℕ → ℕ). f s) (total_is k) in
        omega (arith, shown_operating k i s l g b, a.operating_most s b)

    actual_excess : (k i : ℕ) → k < line_count d → i < steps k → (view k i).excess.actual ≤ at (view k i).excess.operating 4
    unfolding untaken
    actual_excess k i l g =
        let e : operating k 4 ≡ operating_total d k 4 = ap (λ (f : ℕ → ℕ). f 4) (total_is k) in
        omega (arith, shown_actual k i l g, actual_is k, shown_operating k i 4 l g (omega arith), actual_most (table_in_force d k) (line_at d k))

    constrained_sum : (k i s : ℕ) → k < line_count d → i < steps k → s < 5 → sum_to (steps k) (λ j. at (view k j).constrained s) + at (view k i).excess.operating s ≤ operating k s
    unfolding view_of step_constrained
    constrained_sum k i s l g b =
        let e = steps_sum k l (λ v. at v.constrained s) (step_constrained d k s) (λ j. refl) in
        rw (shown_operating k i s l g b, e, total_is k) (constrained_adds_up d k (ends_at k l) s b)

    figures_within : (k j : ℕ) → k < line_count d → j < steps k → without_excess (view k j) ≡ figures_of (within_bid (step_of d k j)) (five (λ s. step_final (day_within d) s k j))
    figures_within k j l g = ap without_excess (view_is k j l g) ∙ view_within d (accepted_day d h) k j l (rw (count_is k l) at g)

    agino_most : (k j s : ℕ) → k < line_count d → j < steps k → s < 5 → at (view k j).agino s ≤ at (view k j).operating s
    unfolding view_of
    agino_most k j s l g i =
        let x = step_of d k j in
        rw (view_is k j l g, at_five (agino_on x) 0 s i, at_five (operating_on x) 0 s i) (agino_on_most x s i)

    msiq_most : (k j s : ℕ) → k < line_count d → j < steps k → s < 5 → at (view k j).msiq s ≤ at (view k j).pricing s
    unfolding view_of
    msiq_most k j s l g i =
        let x = step_of d k j in
        rw (view_is k j l g, at_five (msiq_on x) 0 s i, at_five (pricing_on x) 0 s i) (msiq_on_most x s i)

    -- m and C of a step of the view are the definitions'
    made_is : (k j s : ℕ) → s < 5 → matches_made (view_of d k j) s ≡ sum_to s (matched (on_step (step_of d k j)) s)
    unfolding matches_made
    made_is k j s l =
        sum_same s (match_in (view_of d k j) s) (matched (on_step (step_of d k j)) s) (λ r g. match_is d k j s r l)

    falls : (k j s : ℕ) → k < line_count d → j < steps k → s < 5 → matches_made (view k j) s ≡ fall (view k j).constrained s
    unfolding view_of
    falls k j s l g i = rw (view_is k j l g) (made_is k j s i ∙ falls_matched (on_step (step_of d k j)) s)

    rises : (k j r : ℕ) → k < line_count d → j < steps k → r < 5 → matches_with (view k j) r ≤ rise (view k j).constrained r
    unfolding view_of matches_with matched_with
    rises k j r l g i =
        let c = on_step (step_of d k j) in
        let e = sum_same 5 (λ s. match_in (view_of d k j) s r) (λ s. matched c s r) (λ s n. match_is d k j s r n) in
        rw (view_is k j l g, e) (rises_bound c 5 r)

    balance : (k j s : ℕ) → k < line_count d → j < steps k → s < 5 → sum_to (suc s) (rise (view k j).constrained) ≡ at (view k j).constrained s + sum_to (suc s) (matches_made (view k j))
    unfolding view_of matches_in
    balance k j s l g i =
        let c = on_step (step_of d k j) in
        let e = sum_same (suc s) (matches_made (view_of d k j)) (λ n. sum_to n (matched c n)) (λ n m. made_is k j n (omega arith)) in
        rw (view_is k j l g, e) (rises_balance c s)

    -- document 02, F-14: paid in all five schedules, so in those up to s
    paid_so_far : (k j s : ℕ) → k < line_count d → j < steps k → s < 5 → paid_up_to d k (view k j) 5 ≡ true → paid_up_to d k (view_of d k j) (suc s) ≡ true
    paid_so_far k j s l g i p = paid_part d k (view_of d k j) 5 (suc s) (omega arith) (rw (view_is k j l g) at p)

    running_least : (k j s : ℕ) → k < line_count d → j < steps k → s < 5 → paid_up_to d k (view k j) 5 ≡ true → le_z (pos (open_at_rates d k (view k j) s)) (running_sum (view k j) s) ≡ true
    running_least k j s l g i p = rw (view_is k j l g) (view_least d k j s i (paid_so_far k j s l g i p))

    running_exact : (k j s : ℕ) → k < line_count d → j < steps k → s < 5 → paid_up_to d k (view k j) 5 ≡ true → fell_at_zero d k (view k j) s ≡ false → running_sum (view k j) s ≡ pos (open_at_rates d k (view k j) s)
    running_exact k j s l g i p z =
        rw (view_is k j l g) (view_exact d k j s i (paid_so_far k j s l g i p) (rw (view_is k j l g) at z))

    running_difference : (k j s : ℕ) → k < line_count d → j < steps k → s < 5 → paid_up_to d k (view k j) (suc s) ≡ true → running_sum (view k j) s ≡ pos (open_at_rates d k (view k j) s + taken_at_zero d k (view k j) s)
    running_difference k j s l g i p = rw (view_is k j l g) (view_difference d k j s i (rw (view_is k j l g) at p))

-- money, read back out of the book of a day within the limits, with other bytes behind it
module _ (y : Day) (z : DaySized y) (rest : List ℕ) where
  abbrev book : List ℕ
  book = book_of y ++ rest

  pub adjusted_is : (s : ℕ) → s < 5 → adjusted_in book s ≡ adjusted_total y s
  unfolding adjusted_in adjusted_total
  adjusted_is s l =
      let m = adjusted_size (totals y) (day_bounded y z) s l in
      book_adjusted_lem y rest s l (mag_size (adjusted_total y s) (omega arith))

  payment_is : (k s : ℕ) → k < y.lines → s < 5 → signed_at book (payment_at k s) ≡ line_payment y s k
  payment_is k s l g = book_payment_lem y rest k s l g (mag_size (line_payment y s k) (omega (arith, payment_size y z k l s g)))

  payments_is : (k : ℕ) → k < y.lines → payments_in book k ≡ line_payments y k
  unfolding payments_in line_payments
  payments_is k l =
      sum_z_same 5 (λ s. signed_at book (payment_at k s)) (λ s. line_payment y s k)
      (λ s g. payment_is k s l g)

  counted_is : (k : ℕ) → k < y.lines → book_count book k ≡ y.count k
  counted_is k l = let c = z.counts k l in book_count_lem y rest k l (omega arith)

  lines_is : word book 0 ≡ y.lines
  lines_is = (book_words y rest).word0 (omega (arith, z.lines))

  -- all payments in the book are those of the day's lines
  pub payments_sum : sum_z y.lines (line_payments y) ≡ sum_z (word book 0) (payments_in book)
  payments_sum = rw lines_is (sym (sum_z_same y.lines (payments_in book) (line_payments y) payments_is))

  sum_is : sum_z 5 (adjusted_in book) ≡ sum_z (word book 0) (payments_in book)
  sum_is = sum_z_same 5 (adjusted_in book) (adjusted_total y) adjusted_is ∙ adjusted_payments y ∙ payments_sum

  order_is : (r s : ℕ) → r < s → s < 5 → lt_z (pos 0) (adjusted_in book r) ≡ true → lt_z (adjusted_in book s) (pos 0) ≡ false
  order_is r s l g e =
      let p = lt_z_yes (pos 0) (adjusted_total y r) (rw (adjusted_is r (omega arith)) at e) in
      let m = adjusted_order y r s l g (omega arith) in
      rw (adjusted_is s g) (le_lt_z (adjusted_total y s) (pos 0) (omega arith))

-- the clauses on view and book, of answers that meet the contracts of settling and the step view
module _ (d b : List ℕ) (view : ℕ → ℕ → View) (h : day_fault d ≡ 0) (viewed : (k j : ℕ) → view k j ≡ view_answer d k j) where
  abbrev rest : List ℕ
  rest = drop (book_length (line_count d)) b

  views_whole : (k j : ℕ) → k < line_count d → j < step_count (line_at d k) → view k j ≡ view_of d k j
  views_whole k j g i = viewed k j ∙ view_whole d h k j g i

  counts : (k : ℕ) → k < line_count d → book_count (book_of (settled_day d) ++ rest) k ≡ step_count (line_at d k)
  counts k g = counted_is (settled_day d) (settled_sized d (accepted_day d h)) rest k g

  steps_certified : (steps : ℕ → ℕ) → ((k : ℕ) → k < line_count d → steps k ≡ step_count (line_at d k))
      → (operating : ℕ → ℕ → ℕ) → ((k : ℕ) → operating k ≡ operating_total d k) → (actual : ℕ → ℕ) → ((k : ℕ) → actual k ≡ effective_actual d k)
      → CertifiedSteps steps operating actual d (book_of (settled_day d) ++ rest) view
  steps_certified n ns o os a acs =
      let y = settled_day d in
      let z = settled_sized d (accepted_day d h) in
      let vs = views_whole in
      record {
        view_taken = view_number d h view vs n ns o os a acs;
        view_ended = λ k j g i. ap (λ (v : View). v.number) (viewed k j) ∙ view_past d h k j g (rw (ns k g) at i);
        widths = widths d h view vs n ns o os a acs;
        pricing_sum = pricing_sum d h view vs n ns o os a acs;
        operating_sum = operating_sum d h view vs n ns o os a acs;
        actual_sum = actual_sum d h view vs n ns o os a acs;
        pricing_excess = pricing_excess d h view vs n ns o os a acs;
        operating_excess = operating_excess d h view vs n ns o os a acs;
        actual_excess = actual_excess d h view vs n ns o os a acs;
        figures_within = figures_within d h view vs n ns o os a acs;
        payments_within = λ k s g i. payment_is y z rest k s g i ∙ sym (payment_within d (accepted_day d h) k s g);
        constrained_sum = constrained_sum d h view vs n ns o os a acs;
        agino_most = agino_most d h view vs n ns o os a acs;
        msiq_most = msiq_most d h view vs n ns o os a acs;
        falls = falls d h view vs n ns o os a acs;
        rises = rises d h view vs n ns o os a acs;
        balance = balance d h view vs n ns o os a acs;
        running_least = running_least d h view vs n ns o os a acs;
        running_exact = running_exact d h view vs n ns o os a acs;
        running_difference = running_difference d h view vs n ns o os a acs;
        lines = lines_is y z rest;
        adjusted_sum = sum_is y z rest;
        adjusted_order = order_is y z rest;
      }

  -- and the cutter's, of a line that it accepts
  module _ (k : ℕ) (l : k < line_count d) (c : Cut) (cutted : c ≡ cut_answer (line_at d k)) (n : c.number ≡ 0) where
    cut_is : c ≡ cut_of (line_at d k)
    cut_is = cutted ∙ answer_whole (line_at d k) (fault_none (line_at d k) (sym (ap (λ (x : Cut). x.number) cutted) ∙ n))

    cut_count : c.count ≡ step_count (line_at d k)
    unfolding cut_of
    cut_count = ap (λ (x : Cut). x.count) cut_is

    cut_end : (j : ℕ) → j < c.count → end_at c j ≡ (view k j).end
    unfolding view_of step_of
    cut_end j g = rw (views_whole k j l (rw cut_count at g), cut_is) (end_at_lem (line_at d k) j)

    cut_width : (j : ℕ) → j < c.count → width_at c j ≡ (view k j).width
    unfolding view_of step_of
    cut_width j g = rw (views_whole k j l (rw cut_count at g), cut_is) (width_at_lem (line_at d k) j)

-- as many steps as the book counts
pub book_counts : (d b : List ℕ) → day_fault d ≡ 0 → book_length (line_count d) ≤ length b → (k : ℕ) → k < line_count d → book_count (book_after d b) k ≡ step_count (line_at d k)
book_counts d b h l k g =
    rw (after_settling d b (settle_taken d h b l))
    (counted_is (settled_day d) (settled_sized d (accepted_day d h)) (drop (book_length (line_count d)) b) k g)

-- THE CERTIFICATE, of answers that meet the contracts of settling, the step view and the cutter
pub certified : (d b book : List ℕ) (view : ℕ → ℕ → View) (cut : ℕ → Cut) → day_fault d ≡ 0
    → book_length (line_count d) ≤ length b → book ≡ book_after d b → ((k j : ℕ) → view k j ≡ view_answer d k j)
    → ((k : ℕ) → cut k ≡ cut_answer (line_at d k)) → Certified d book view cut
certified d b book view cut h l settled viewed cutted =
    rw (settled ∙ after_settling d b (settle_taken d h b l))
    (record {
      views = steps_certified d b view h viewed _ (counts d b view h viewed) (operating_total d) (λ k. refl) (effective_actual d) (λ k. refl);
      cut_twelve =
          λ k g n. ap (λ (x : Cut). x.number) (cutted k)
          ∙ refused_with_twelve d h k g (λ z. n (ap (λ (x : Cut). x.number) (cutted k) ∙ z));
      same_count = λ k g n. cut_count d b view h viewed k g (cut k) (cutted k) n ∙ sym (counts d b view h viewed k g);
      same_end = λ k j g n. cut_end d b view h viewed k g (cut k) (cutted k) n j;
      same_width = λ k j g n. cut_width d b view h viewed k g (cut k) (cutted k) n j;
    })

-- of a file without records, as all of the old layout are, it is the statement of before
pub certified_own : (d b book : List ℕ) (view : ℕ → ℕ → View) (cut : ℕ → Cut) → day_fault d ≡ 0
    → book_length (line_count d) ≤ length b → book ≡ book_after d b → ((k j : ℕ) → view k j ≡ view_answer d k j)
    → ((k : ℕ) → cut k ≡ cut_answer (line_at d k)) → record_count d ≡ 0 → CertifiedOwn d book view cut
certified_own d b book view cut h l settled viewed cutted none =
    let taken : (k : ℕ) → k < line_count d → (cut k).number ≡ 0 = λ k g. ap (λ (x : Cut). x.number) (cutted k) ∙ own_taken d h k g none in
    let own : (k : ℕ) → operating_table (line_at d k) ≡ table_in_force d k = λ k. sym (own_table d k none) in
    rw (settled ∙ after_settling d b (settle_taken d h b l))
    (record {
      views =
          steps_certified d b view h viewed (λ k. (cut k).count)
          (λ k g. cut_count d b view h viewed k g (cut k) (cutted k) (taken k g))
          (λ k. table_total (operating_table (line_at d k))) (λ k. ap table_total (own k))
          (λ k. table_actual (operating_table (line_at d k)) (line_at d k))
          (λ k. ap (λ (t : List (List ℕ)). table_actual t (line_at d k)) (own k));
      cut_taken = taken;
      same_end = λ k j g i. cut_end d b view h viewed k g (cut k) (cutted k) (taken k g) j i;
      same_width = λ k j g i. cut_width d b view h viewed k g (cut k) (cutted k) (taken k g) j i;
    })
