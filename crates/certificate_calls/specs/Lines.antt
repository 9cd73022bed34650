-- What the steps of one line add up to with its excess, by the clauses `widths`, `pricing_sum`, `operating_sum` and `actual_sum` of the
-- certificate: M, the line's totals and its effective actual.
use Rattle.std.specs.Prelude.{ℕ, zero, suc, ◌+◌, ◌^◌, ◌≤◌, ◌<◌, ◌≡◌, refl, List, Bool, true, false, cond, replicate, eqb, leb}
use native.Mathlib.Omega.{arith}
use Rattle.std.proofs.Math.Decide.{dec_lt}
use Rattle.std.proofs.Common.{sym, ◌∙◌, ap, subst, eq-eqb, ne_eqb, leb-false}
use Rattle.std.proofs.Math.Dec.{eqb-suc-zero}
use Rattle.std.proofs.lemmas.Bool.{lt-leb}
use Rattle.rules.specs.Fold.{refuse, ◌or_else◌, sum_to, five, at}
use Rattle.rules.specs.Layout.{line_count, line_at}
use Rattle.rules.specs.Steps.{greatest_break, step_count}
use Rattle.rules.specs.Quantities.{pricing_total}
use Rattle.rules.specs.InForce.{table_in_force, operating_total, effective_actual}
use Rattle.rules.specs.Refusals.{day_fault, view_fault, line_part}
use Rattle.rules.specs.Payments.{excess_of, no_excess}
use Rattle.rules.specs.Cutting.{cut_of}
use Rattle.rules.specs.Viewing.{view_of, view_refused, view_answer}
use Rattle.rules.specs.declared.View.{View}
use Rattle.rules.specs.declared.Excess.{Excess}
use Rattle.rules.specs.declared.Cut.{Cut}
use Rattle.laws.specs.Accepted.{AcceptedLine, accepted_day, accepted_line_at, accepted_line_with}
use Rattle.laws.specs.Folds.{sum_suc, sum_more, at_five}
use Rattle.numbers.specs.Fives.{five_same}
use Rattle.cutter.specs.Ends.{count_some, most_limit}
use Rattle.step_inputs.specs.Steps.{actual_most}
use Rattle.certificate_calls.specs.declared.line_sums.LineSums.{LineSums}
use Rattle.certificate.specs.Certificate.{CertifiedSteps}
use Rattle.certificate.specs.Refused.{line_length}
use Rattle.book_layout.specs.Framing.{book_count}
use Rattle.cutter_cursors.specs.Sweep.{Line}
use Rattle.certificate_calls.specs.Calls.{some_book, day_certified, counts_there, count_there, viewed, part_there}

-- settling's faults of the file, then 16
unfoldable pub sums_fault : List ℕ → ℕ → ℕ
sums_fault d k = day_fault d or_else refuse 16 (leb (line_count d) k)

-- of line k: the widths add up to M, in each schedule the pricing and the operating quantities to its totals, and the effective actual
unfoldable pub sums_of : List ℕ → ℕ → LineSums
sums_of d k =
    record {
      number = 0;
      width = greatest_break (line_at d k);
      actual = effective_actual d k;
      pricing = five (pricing_total (line_at d k));
      operating = five (operating_total d k);
    }

unfoldable pub sums_refused : ℕ → LineSums
sums_refused n = record { number = n; width = 0; actual = 0; pricing = replicate 5 0; operating = replicate 5 0 }

unfoldable pub line_sums : List ℕ → ℕ → LineSums
line_sums d k = cond (eqb (sums_fault d k) 0) (sums_of d k) (sums_refused (sums_fault d k))

-- two rows added
abbrev pub added_in : List ℕ → List ℕ → ℕ → ℕ
added_in a b s = at a s + at b s

-- before any step: an excess, and that of the view's figures v
abbrev sums_over : Excess → LineSums
sums_over x = record { number = 0; width = 0; actual = x.actual; pricing = x.pricing; operating = x.operating }

unfoldable pub sums_excess : View → LineSums
sums_excess v = sums_over v.excess

-- an excess place by place
abbrev rows_of : Excess → Excess
rows_of x = record { operating = five (at x.operating); pricing = five (at x.pricing); actual = x.actual }

-- sums with one more step, which has the view's figures v
unfoldable pub sums_with : LineSums → View → LineSums
sums_with a v =
    record {
      number = a.number;
      width = a.width + v.width;
      actual = a.actual + v.actual;
      pricing = five (added_in a.pricing v.pricing);
      operating = five (added_in a.operating v.operating);
    }

pub record Addable (a : LineSums) (v : View) : Type 0 where
  pub width : a.width + v.width < 2 ^ 32
  pub actual : a.actual + v.actual < 2 ^ 32
  pub pricing : (s : ℕ) → s < 5 → added_in a.pricing v.pricing s < 2 ^ 32
  pub operating : (s : ℕ) → s < 5 → added_in a.operating v.operating s < 2 ^ 32

-- a figure of line k over its first n steps, as the view answers it
unfoldable pub figure_to : List ℕ → ℕ → ℕ → (View → ℕ) → ℕ
figure_to d k n f = sum_to n (λ j. f (view_answer d k j))

-- with an excess, which the view of its first step shows
unfoldable pub excess_to : List ℕ → ℕ → ℕ → (View → ℕ) → (View → ℕ) → ℕ
excess_to d k n f x = x (view_answer d k 0) + figure_to d k n f

-- the sums over the first n steps of line k
unfoldable pub sums_to : List ℕ → ℕ → ℕ → LineSums
sums_to d k n =
    record {
      number = 0;
      width = figure_to d k n (λ v. v.width);
      actual = excess_to d k n (λ v. v.actual) (λ v. v.excess.actual);
      pricing = five (λ s. excess_to d k n (λ v. at v.pricing s) (λ v. at v.excess.pricing s));
      operating = five (λ s. excess_to d k n (λ v. at v.operating s) (λ v. at v.excess.operating s));
    }

figure_none : (d : List ℕ) (k : ℕ) (f : View → ℕ) → figure_to d k 0 f ≡ 0
unfolding figure_to sum_to
figure_none d k f = refl

excess_none : (d : List ℕ) (k : ℕ) (f x : View → ℕ) → excess_to d k 0 f x ≡ x (view_answer d k 0)
unfolding excess_to
excess_none d k f x = omega (arith, figure_none d k f)

figure_more : (d : List ℕ) (k n : ℕ) (f : View → ℕ) → figure_to d k (n + 1) f ≡ figure_to d k n f + f (view_answer d k n)
unfolding figure_to
figure_more d k n f = sum_more n (λ j. f (view_answer d k j))

excess_more : (d : List ℕ) (k n : ℕ) (f x : View → ℕ) → excess_to d k (n + 1) f x ≡ excess_to d k n f x + f (view_answer d k n)
unfolding excess_to
excess_more d k n f x = omega (arith, figure_more d k n f)

-- a line of an accepted day, and how many steps it has
pub record LineCounted (d : List ℕ) (k n : ℕ) : Type 0 where
  pub accepted : day_fault d ≡ 0
  pub line : k < line_count d
  pub count : n ≡ step_count (line_at d k)

-- the sums below a step's count are those of fewer steps
sum_part : (n m : ℕ) (f : ℕ → ℕ) → m ≤ n → sum_to m f ≤ sum_to n f
sum_part zero m f h = let e : m ≡ 0 = omega arith in rw e (omega arith)
sum_part (suc n) m f h =
    elim (dec_lt m (suc n)) [
      | yes l ↦ rw (sum_suc n f) (omega (arith, sum_part n m f (omega arith)))
      | no g ↦ let e : m ≡ suc n = omega arith in rw e (omega arith)
    ]

module _ (d : List ℕ) (k n : ℕ) (c : LineCounted d k n) where
  cert : CertifiedSteps (book_count (some_book d)) (operating_total d) (effective_actual d) d (some_book d) (view_answer d)
  cert = (day_certified d c.accepted).views

  line : AcceptedLine (line_at d k)
  line = accepted_line_at d (accepted_day d c.accepted) k c.line

  -- the book counts these steps, the first among them
  steps : n ≡ book_count (some_book d) k
  steps = c.count ∙ sym (counts_there d c.accepted k c.line)

  first_there : 0 < book_count (some_book d) k
  first_there =
      count_there d k 0 (record { accepted = c.accepted; line = c.line; step = count_some (line_at d k) line })

  -- by the certificate's clauses `widths`, `pricing_sum`, `operating_sum` and `actual_sum`
  pub widths : figure_to d k n (λ v. v.width) ≡ greatest_break (line_at d k)
  unfolding figure_to
  widths = rw steps (cert.widths k c.line)

  pub pricing_sum : (s : ℕ) → s < 5 → excess_to d k n (λ v. at v.pricing s) (λ v. at v.excess.pricing s) ≡ pricing_total (line_at d k) s
  unfolding excess_to figure_to
  pricing_sum s h = rw steps (omega (arith, cert.pricing_sum k 0 s c.line first_there h))

  pub operating_sum : (s : ℕ) → s < 5 → excess_to d k n (λ v. at v.operating s) (λ v. at v.excess.operating s) ≡ operating_total d k s
  unfolding excess_to figure_to
  operating_sum s h = rw steps (omega (arith, cert.operating_sum k 0 s c.line first_there h))

  pub actual_sum : excess_to d k n (λ v. v.actual) (λ v. v.excess.actual) ≡ effective_actual d k
  unfolding excess_to figure_to
  actual_sum = rw steps (omega (arith, cert.actual_sum k 0 c.line first_there))

  -- no sum of fewer steps passes a word
  figure_fits : (f : View → ℕ) (j : ℕ) → j < n → figure_to d k j f + f (view_answer d k j) ≤ figure_to d k n f
  unfolding figure_to
  figure_fits f j h = omega (arith, sum_part n (suc j) (λ i. f (view_answer d k i)) (omega arith), sum_suc j (λ i. f (view_answer d k i)))

  excess_fits : (f x : View → ℕ) (j : ℕ) → j < n → excess_to d k j f x + f (view_answer d k j) ≤ excess_to d k n f x
  unfolding excess_to
  excess_fits f x j h = omega (arith, figure_fits f j h)

  pub addable : (j : ℕ) (a : LineSums) (v : View) → j < n → a ≡ sums_to d k j → v ≡ view_answer d k j → Addable a v
  unfolding sums_to
  addable j a v h ae ve =
      let m = most_limit (line_at d k) line in
      let rows = accepted_line_with d (accepted_day d c.accepted) k c.line in
      let last = rows.operating_most 4 (omega arith) in
      rw (ae, ve)
      (record {
        width = omega (arith, figure_fits (λ u. u.width) j h, widths);
        actual = omega (arith, excess_fits (λ u. u.actual) (λ u. u.excess.actual) j h, actual_sum, actual_most (table_in_force d k) (line_at d k));
        pricing =
            λ s g. rw (at_five (λ r. excess_to d k j (λ u. at u.pricing r) (λ u. at u.excess.pricing r)) 0 s g)
            (omega (arith, excess_fits (λ u. at u.pricing s) (λ u. at u.excess.pricing s) j h, pricing_sum s g, line.pricing_most s g));
        operating =
            λ s g. rw (at_five (λ r. excess_to d k j (λ u. at u.operating r) (λ u. at u.excess.operating r)) 0 s g)
            (omega (arith, excess_fits (λ u. at u.operating s) (λ u. at u.excess.operating s) j h, operating_sum s g, rows.operating_most s g));
      })

  pub sums_all : (j : ℕ) (a : LineSums) → j ≤ n → n ≤ j → a ≡ sums_to d k j → a ≡ sums_of d k
  unfolding sums_to sums_of
  sums_all j a h g ae =
      let e : j ≡ n = omega arith in
      let p = five_same (λ s. excess_to d k n (λ v. at v.pricing s) (λ v. at v.excess.pricing s)) (pricing_total (line_at d k)) pricing_sum in
      let o = five_same (λ s. excess_to d k n (λ v. at v.operating s) (λ v. at v.excess.operating s)) (operating_total d k) operating_sum in
      ae ∙ rw (e, widths, actual_sum, p, o)

-- the excess of any answer of the view has rows of five
rows_by : (d : List ℕ) (k j n : ℕ) (t : Bool) → (cond t (view_of d k j) (view_refused n)).excess ≡ rows_of (cond t (view_of d k j) (view_refused n)).excess
unfolding view_of view_refused excess_of no_excess
rows_by d k j n true = refl
rows_by d k j n false = refl

rows_whole : (d : List ℕ) (k j : ℕ) → (view_answer d k j).excess ≡ rows_of (view_answer d k j).excess
unfolding view_answer
rows_whole d k j = rows_by d k j (view_fault d k j) (eqb (view_fault d k j) 0)

-- none, and one more
sums_first : (d : List ℕ) (k : ℕ) → sums_over (rows_of (view_answer d k 0).excess) ≡ sums_to d k 0
unfolding sums_to
sums_first d k = simp (figure_none, excess_none)

pub sums_none : (d : List ℕ) (k : ℕ) (a : LineSums) (v : View) → v ≡ view_answer d k 0 → a ≡ sums_excess v → a ≡ sums_to d k 0
unfolding sums_excess
sums_none d k a v e h = h ∙ ap sums_over (ap (λ (u : View). u.excess) e ∙ rows_whole d k 0) ∙ sums_first d k

pub sums_more : (d : List ℕ) (k j : ℕ) (a b : LineSums) (v : View) → a ≡ sums_to d k j → v ≡ view_answer d k j → b ≡ sums_with a v → b ≡ sums_to d k (j + 1)
unfolding sums_to sums_with
sums_more d k j a b v ae ve be = be ∙ simp (ae, ve, figure_more, excess_more)

-- the number of any answer of the view
answer_by : (d : List ℕ) (k j m : ℕ) → (cond (eqb m 0) (view_of d k j) (view_refused m)).number ≡ m
unfolding view_of view_refused
answer_by d k j zero = refl
answer_by d k j (suc m) = rw (eqb-suc-zero m)

answer_number : (d : List ℕ) (k j : ℕ) → (view_answer d k j).number ≡ view_fault d k j
unfolding view_answer
answer_number d k j = answer_by d k j (view_fault d k j)

fault_by : (d : List ℕ) (k x : ℕ) → day_fault d ≡ x → (t : Bool) → leb (line_count d) k ≡ t
    → x or_else refuse 16 t or_else refuse 17 (leb (step_count (line_at d k)) 0) ≡ x or_else refuse 16 t
unfolding refuse ◌or_else◌
fault_by d k (suc x) e t g = refl
fault_by d k zero e true g = refl
fault_by d k zero e false g =
    let l : k < line_count d = leb-false (line_count d) k g in
    let a : AcceptedLine (line_at d k) = accepted_line_at d (accepted_day d e) k l in
    rw (lt-leb (step_count (line_at d k)) 0 (count_some (line_at d k) a))

first_fault : (d : List ℕ) (k : ℕ) → view_fault d k 0 ≡ sums_fault d k
unfolding view_fault sums_fault
first_fault d k = fault_by d k (day_fault d) refl (leb (line_count d) k) refl

-- the view's number for a line's first step: an accepted line has one, so 17 is not met
pub first_number : (d : List ℕ) (k : ℕ) (v : View) → v ≡ view_answer d k 0 → v.number ≡ sums_fault d k
first_number d k v e = ap (λ (u : View). u.number) e ∙ answer_number d k 0 ∙ first_fault d k

-- the view took the line's first step, and the part that is lent was cut
pub part_line : (d : List ℕ) (k : ℕ) (v : View) (p : List ℕ) → v ≡ view_answer d k 0 → v.number ≡ 0 → p ≡ line_part d k → Line p
part_line d k v p ve z pe =
    let t = viewed d k 0 v ve z in
    let a = accepted_day d t.accepted in
    subst Line (sym (pe ∙ part_there d k t.accepted t.line))
    (record { long = line_length d a k t.line; accepted = accepted_line_at d a k t.line })

pub counted : (d : List ℕ) (k : ℕ) (v : View) (p : List ℕ) (c : Cut) → v ≡ view_answer d k 0 → v.number ≡ 0 → p ≡ line_part d k → c ≡ cut_of p → LineCounted d k c.count
unfolding cut_of
counted d k v p c ve z pe ce =
    let t = viewed d k 0 v ve z in
    record {
      accepted = t.accepted;
      line = t.line;
      count = ap (λ (x : Cut). x.count) ce ∙ ap step_count (pe ∙ part_there d k t.accepted t.line);
    }

-- the entry's two answers
pub sums_refused_lem : (d : List ℕ) (k n : ℕ) (r : LineSums) → n ≡ sums_fault d k → (n ≡ 0 → ⊥) → r ≡ sums_refused n → r ≡ line_sums d k
unfolding line_sums
sums_refused_lem d k n r e z h = h ∙ rw (e, ne_eqb (sums_fault d k) 0 (λ g. z (e ∙ g)))

pub sums_taken : (d : List ℕ) (k n : ℕ) (r : LineSums) → n ≡ sums_fault d k → n ≡ 0 → r ≡ sums_of d k → r ≡ line_sums d k
unfolding line_sums
sums_taken d k n r e z h = h ∙ rw (eq-eqb (sums_fault d k) 0 (sym e ∙ z))
