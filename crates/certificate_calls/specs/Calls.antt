-- The certificate of what the entry points answer: from the number 0 of settling, or of the view, alone.
use Rattle.std.specs.Prelude.{ℕ, zero, suc, ◌≤◌, ◌<◌, ◌≡◌, refl, List, cond, length, replicate, eqb, ltb, leb}
use Rattle.std.proofs.Common.{arith, ◌∙◌, ltb-false, leb-false}
use Rattle.std.proofs.Math.Path.{sym, ap}
use Rattle.std.proofs.Math.ListN.{get_or}
use Rattle.std.proofs.lemmas.List.{length-replicate}
use Rattle.std.proofs.Math.Dec.{eqb-suc-zero}
use Rattle.std.proofs.lemmas.Bool.{lt-leb}
use Rattle.rules.specs.Fold.{refuse, ◌or_else◌}
use Rattle.rules.specs.Layout.{line_count, line_at}
use Rattle.rules.specs.Steps.{step_count}
use Rattle.rules.specs.Refusals.{header_fault, day_fault, settle_fault, view_fault, book_length, line_part_fault, line_part}
use Rattle.rules.specs.Cutting.{cut_answer}
use Rattle.rules.specs.Viewing.{view_of, view_refused, view_answer}
use Rattle.rules.specs.Book.{book_after}
use Rattle.rules.specs.Uplift.{uplift_answer}
use Rattle.rules.specs.declared.Uplift.{Uplift}
use Rattle.rules.specs.declared.View.{View}
use Rattle.rules.specs.declared.Cut.{Cut}
use Rattle.laws.specs.Folds.{or_else_both, refuse_zero, refuse_false}
use Rattle.laws.specs.Accepted.{accepted_day, accepted_line_at}
use Rattle.cutter.specs.Ends.{count_most}
use Rattle.cutter.specs.Certificate.{end_at}
use Rattle.certificate.specs.Certificate.{Certified}
use Rattle.book_layout.specs.Framing.{book_count}
use Rattle.certificate.proofs.Certified.{certified, book_counts}
use Rattle.certificate.specs.Uplift.{CertifiedUplift}
use Rattle.certificate.proofs.Uplift.{uplift_certified}

-- the cutter's answer for the bytes of line k
unfoldable pub line_cut : List ℕ → ℕ → Cut
line_cut d k = cut_answer (line_at d k)

-- demand 3 on the day d, with `book` as settling leaves it and the answers that the contracts of view and cut fix
abbrev pub CertifiedDay : List ℕ → List ℕ → Type 0
CertifiedDay d book = Certified d book (view_answer d) (line_cut d)

-- settling answered 0: the day is accepted, and the lent book is long enough
pub record Settled (d b : List ℕ) : Type 0 where
  pub accepted : day_fault d ≡ 0
  pub long : book_length (line_count d) ≤ length b

pub settled : (d b : List ℕ) → settle_fault d (length b) ≡ 0 → Settled d b
unfolding settle_fault
settled d b z =
    let both = or_else_both (day_fault d) (refuse 15 (ltb (length b) (book_length (line_count d)))) z in
    record {
      accepted = both.left;
      long = ltb-false (length b) (book_length (line_count d)) (refuse_zero 14 (ltb (length b) (book_length (line_count d))) both.right);
    }

pub settled_certified : (d b c : List ℕ) (r : ℕ) → r ≡ settle_fault d (length b) → c ≡ book_after d b → r ≡ 0 → CertifiedDay d c
unfolding line_cut
settled_certified d b c r re ce z =
    let s = settled d b (sym re ∙ z) in
    certified d b c (view_answer d) (λ k. cut_answer (line_at d k)) s.accepted s.long ce (λ k j. refl) (λ k. refl)

-- and with the answer of the uplift call
pub settled_uplift : (d b c : List ℕ) (r : Uplift) → r ≡ uplift_answer d → c ≡ book_after d b → settle_fault d (length b) ≡ 0 → CertifiedUplift c r.shares
settled_uplift d b c r re ce z =
    let s = settled d b z in
    uplift_certified d b c r s.accepted s.long ce re

-- the view answered 0: the day is accepted, the line and the step are there
number_by : (d : List ℕ) (k j m : ℕ) → (cond (eqb m 0) (view_of d k j) (view_refused m)).number ≡ 0 → m ≡ 0
unfolding view_refused
number_by d k j zero e = refl
number_by d k j (suc m) e = absurd (omega (arith, rw (eqb-suc-zero m) at e))

pub record Viewed (d : List ℕ) (k j : ℕ) : Type 0 where
  pub accepted : day_fault d ≡ 0
  pub line : k < line_count d
  pub step : j < step_count (line_at d k)

pub viewed : (d : List ℕ) (k j : ℕ) (v : View) → v ≡ view_answer d k j → v.number ≡ 0 → Viewed d k j
unfolding view_answer view_fault
viewed d k j v e z =
    let none : view_fault d k j ≡ 0 = number_by d k j (view_fault d k j) (sym (ap (λ (u : View). u.number) e) ∙ z) in
    let both = or_else_both (day_fault d) _ none in
    let rest = or_else_both (refuse 16 (leb (line_count d) k)) (refuse 17 (leb (step_count (line_at d k)) j)) both.right in
    record {
      accepted = both.left;
      line = leb-false (line_count d) k (refuse_zero 15 _ rest.left);
      step = leb-false (step_count (line_at d k)) j (refuse_zero 16 _ rest.right);
    }

-- any book that is long enough will do
abbrev pub some_book : List ℕ → List ℕ
some_book d = book_after d (replicate (book_length (line_count d)) 0)

room : (d : List ℕ) → book_length (line_count d) ≤ length {A = ℕ} (replicate (book_length (line_count d)) 0)
room d = omega (arith, length-replicate {A = ℕ} (book_length (line_count d)) 0)

pub day_certified : (d : List ℕ) → day_fault d ≡ 0 → CertifiedDay d (some_book d)
unfolding line_cut
day_certified d h =
    certified d (replicate (book_length (line_count d)) 0) (some_book d) (view_answer d) (λ i. cut_answer (line_at d i)) h (room d) refl
    (λ i m. refl) (λ i. refl)

-- the book counts the line's steps
pub counts_there : (d : List ℕ) → day_fault d ≡ 0 → (k : ℕ) → k < line_count d → book_count (some_book d) k ≡ step_count (line_at d k)
counts_there d h k l = book_counts d (replicate (book_length (line_count d)) 0) h (room d) k l

pub count_there : (d : List ℕ) (k j : ℕ) → Viewed d k j → j < book_count (some_book d) k
count_there d k j t = omega (arith, counts_there d t.accepted k t.line, t.step)

-- the part that is lent is the line
pub part_there : (d : List ℕ) (k : ℕ) → day_fault d ≡ 0 → k < line_count d → line_part d k ≡ line_at d k
unfolding line_part line_part_fault day_fault ◌or_else◌
part_there d k h l =
    let header : header_fault d ≡ 0 = (or_else_both (header_fault d) _ h).left in
    rw (header, lt-leb (line_count d) k l, refuse_false 16)

module _ (d : List ℕ) (k j : ℕ) (v : View) (p : List ℕ) (c : Cut) (ve : v ≡ view_answer d k j) (z : v.number ≡ 0) (pe : p ≡ line_part d k) (ce : c ≡ cut_answer p) where
  pub there : Viewed d k j
  there = viewed d k j v ve z

  pub own : c ≡ line_cut d k
  unfolding line_cut
  own = ce ∙ ap cut_answer (pe ∙ part_there d k there.accepted there.line)

  pub step_few : j < 56
  step_few = omega (arith, there.step, count_most (line_at d k) (accepted_line_at d (accepted_day d there.accepted) k there.line))

  -- the cutter accepts the line, or refuses it with 12
  pub refused_twelve : (c.number ≡ 0 → ⊥) → c.number ≡ 12
  refused_twelve n =
      let e : c.number ≡ (line_cut d k).number = ap (λ (x : Cut). x.number) own in
      e ∙ (day_certified d there.accepted).cut_twelve k there.line (λ g. n (e ∙ g))

  pub same_end : c.number ≡ 0 → get_or c.ends j 0 ≡ v.end
  unfolding end_at
  same_end n =
      let taken : (line_cut d k).number ≡ 0 = sym (ap (λ (x : Cut). x.number) own) ∙ n in
      let count = (day_certified d there.accepted).same_count k there.line taken in
      ap (λ (x : Cut). get_or x.ends j 0) own
      ∙ (day_certified d there.accepted).same_end k j there.line taken (omega (arith, count, count_there d k j there))
      ∙ sym (ap (λ (u : View). u.end) ve)
