-- The laws of each schedule's uplift (`CertifiedUplift`), of an accepted day.
use Rattle.std.specs.Prelude.{ℕ, ◌≤◌, ◌<◌, ◌^◌, ◌≡◌, List, ◌++◌, cond, length, drop, ℤ, pos}
use Rattle.std.proofs.Common.{arith, ◌∙◌}
use Rattle.std.proofs.Math.Path.{sym}
use Rattle.rules.specs.Fold.{sum_z, five, at_z}
use Rattle.rules.specs.Layout.{line_count}
use Rattle.rules.specs.Refusals.{day_fault, book_length}
use Rattle.rules.specs.Payments.{Day}
use Rattle.rules.specs.Totals.{total, totals, adjusted, adjusted_total}
use Rattle.rules.specs.Days.{settled_day}
use Rattle.rules.specs.Uplift.{same_group, group_total, group_adjusted, uplift, uplift_answer}
use Rattle.rules.specs.Book.{book_of, book_after}
use Rattle.rules.specs.declared.Uplift.{Uplift}
use Rattle.laws.specs.Accepted.{accepted_day}
use Rattle.laws.specs.Folds.{at_five}
use Rattle.numbers.specs.Fives.{five_same}
use Rattle.day_totals.specs.Sizes.{size, total_most, mag_size}
use Rattle.day_totals.specs.Sums.{sum_z_same}
use Rattle.step_inputs.specs.Paid.{DaySized, day_bounded, settled_sized}
use Rattle.book_layout.specs.Framing.{book_total, book_total_lem, after_settling}
use Rattle.uplift_laws.proofs.Days.{uplift_fair, uplift_payments}
use Rattle.certificate.specs.Certificate.{adjusted_in}
use Rattle.certificate.specs.Answers.{settle_taken}
use Rattle.certificate.proofs.Certified.{adjusted_is, payments_sum}
use Rattle.certificate.specs.Uplift.{totals_in, group_in, CertifiedUplift}

small : {n : ℕ} → n ≤ total_most → n < 2 ^ 63
small h = omega arith

-- the book of the day y, with any bytes after it
module _ (y : Day) (z : DaySized y) (rest : List ℕ) where
  abbrev book_is : List ℕ
  book_is = book_of y ++ rest

  total_is : (s : ℕ) → s < 5 → book_total book_is s ≡ total y s
  unfolding totals
  total_is s l =
      let m = (day_bounded y z).most s l in
      let b : size (total y s) < 2 ^ 63 = rw (at_five (total y) (pos 0) s l) at (small m) in
      book_total_lem y rest s l (mag_size (total y s) b)

  total_at_lem : (s : ℕ) → s < 5 → at_z (totals y) s ≡ total y s
  unfolding totals
  total_at_lem s l = at_five (total y) (pos 0) s l

  totals_are : totals_in book_is ≡ totals y
  unfolding totals
  totals_are = five_same (book_total book_is) (total y) total_is

  -- a sum over a group by the book's totals is one by the day's
  group_is : (s : ℕ) (f g : ℕ → ℤ) → ((q : ℕ) → q < 5 → f q ≡ g q) → group_in book_is s f ≡ sum_z 5 (λ q. cond (same_group (totals y) s q) (g q) (pos 0))
  group_is s f g h =
      rw totals_are
      (sum_z_same 5 (λ q. cond (same_group (totals y) s q) (f q) (pos 0)) (λ q. cond (same_group (totals y) s q) (g q) (pos 0)) (λ q l. let e = h q l in rw e))

  module _ (x : List ℤ) (e : x ≡ five (uplift y)) where
    share_is : (s : ℕ) → s < 5 → at_z x s ≡ uplift y s
    share_is s l = rw e (at_five (uplift y) (pos 0) s l)

    total_group : (s : ℕ) → group_in book_is s (book_total book_is) ≡ group_total (totals y) s
    unfolding group_total
    total_group s = group_is s (book_total book_is) (at_z (totals y)) (λ q l. total_is q l ∙ sym (total_at_lem q l))

    adjusted_group : (s : ℕ) → group_in book_is s (adjusted_in book_is) ≡ group_adjusted (totals y) s
    unfolding group_adjusted adjusted_total
    adjusted_group s = group_is s (adjusted_in book_is) (adjusted (totals y)) (adjusted_is y z rest)

    book_uplift : CertifiedUplift book_is x
    book_uplift =
        let f = uplift_fair y in
        record {
          close =
              λ s l n.
              rw (share_is s l, total_group s, adjusted_group s, total_is s l, ← total_at_lem s l)
              (f.close s l (λ g. n (total_is s l ∙ sym (total_at_lem s l) ∙ g)));
          group = λ s l. group_is s (at_z x) (uplift y) share_is ∙ f.group s l ∙ sym (adjusted_group s);
          none = λ s l g. share_is s l ∙ f.none s l (total_at_lem s l ∙ sym (total_is s l) ∙ g);
          payments = sum_z_same 5 (at_z x) (uplift y) share_is ∙ uplift_payments y ∙ payments_sum y z rest;
          most = λ s l. rw (share_is s l, total_is s l, ← total_at_lem s l) (f.most s l);
          sign_above = λ s l g. rw (share_is s l) ((f.sign s l).0 (rw (total_is s l, ← total_at_lem s l) at g));
          sign_below = λ s l g. rw (share_is s l) ((f.sign s l).1 (rw (total_is s l, ← total_at_lem s l) at g));
        }

-- of answers that meet the contracts of settling and uplift
pub uplift_certified : (d b book : List ℕ) (r : Uplift) → day_fault d ≡ 0 → book_length (line_count d) ≤ length b → book ≡ book_after d b → r ≡ uplift_answer d → CertifiedUplift book r.shares
unfolding uplift_answer
uplift_certified d b book r h l settled answered =
    let e : r.shares ≡ five (uplift (settled_day d)) = rw (answered, h) in
    rw (settled ∙ after_settling d b (settle_taken d h b l))
    (book_uplift (settled_day d) (settled_sized d (accepted_day d h)) (drop (book_length (line_count d)) b) r.shares e)
