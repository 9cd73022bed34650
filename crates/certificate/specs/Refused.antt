-- What the cutter answers for a line of an accepted day: it reads the line's own operating rows, so it may refuse the line, with 12 alone;
-- in a file without records it refuses none (document 02, F-5).
use Rattle.std.specs.Prelude.{ℕ, zero, suc, ◌+◌, ◌≤◌, ◌<◌, ◌≡◌, refl, List, Bool, true, false, cond, length, eqb}
use Rattle.std.proofs.Common.{arith, ◌∙◌, length-take, length-drop, le-ltb}
use Rattle.std.proofs.Math.Dec.{eqb-suc-zero}
use Rattle.rules.specs.Fold.{refuse, ◌or_else◌, first}
use Rattle.rules.specs.Layout.{excess_most, line_count, line_at, operating_table, records_at, record_count, record_line}
use Rattle.rules.specs.Steps.{greatest_break}
use Rattle.rules.specs.Quantities.{pricing_total, table_total}
use Rattle.rules.specs.InForce.{table_in_force}
use Rattle.rules.specs.Refusals.{total_fault, line_fault_with, line_fault, day_fault, cut_fault}
use Rattle.rules.specs.Cutting.{cut_of, cut_refused, cut_answer}
use Rattle.laws.specs.Accepted.{AcceptedDay, accepted_day, accepted_line_at, accepted_line_with}
use Rattle.laws.specs.Folds.{refuse_false, or_else_zero, or_else_both, or_else_none}
use Rattle.laws.specs.InForce.{own_table, unnamed_table}

-- a line of an accepted day has its 660 bytes
pub line_length : (d : List ℕ) → AcceptedDay d → (k : ℕ) → k < line_count d → length (line_at d k) ≡ 660
line_length d a k l =
    let e = a.header.length_is in
    simp (length-take, length-drop) (omega arith)

-- of the operating and pricing totals there is no other refusal than 12
pub record Twelve (x : ℕ) : Type 0 where
  pub twelve : (x ≡ 0 → ⊥) → x ≡ 12

refused_twelve : (t : Bool) → Twelve (refuse 12 t)
unfolding refuse
refused_twelve true = record { twelve = λ h. refl }
refused_twelve false = record { twelve = λ h. absurd (h refl) }

either_twelve : (x y : ℕ) → Twelve x → Twelve y → Twelve (x or_else y)
unfolding ◌or_else◌
either_twelve zero y p q = q
either_twelve (suc x) y p q = p

total_twelve : (t : List (List ℕ)) (w : List ℕ) (s : ℕ) → Twelve (total_fault t w s)
unfolding total_fault
total_twelve t w s = either_twelve _ _ (refused_twelve _) (refused_twelve _)

totals_twelve : (t : List (List ℕ)) (w : List ℕ) (n : ℕ) → Twelve (first (total_fault t w) n)
unfolding first
totals_twelve t w zero = record { twelve = λ h. absurd (h refl) }
totals_twelve t w (suc n) = either_twelve (first (total_fault t w) n) (total_fault t w n) (totals_twelve t w n) (total_twelve t w n)

-- totals within the limit have none
over : (t : List (List ℕ)) (w : List ℕ) (s : ℕ) → pricing_total w s ≤ greatest_break w + excess_most → table_total t s ≤ greatest_break w + excess_most → total_fault t w s ≡ 0
unfolding total_fault
over t w s p o = rw (le-ltb _ _ p, le-ltb _ _ o, refuse_false 12) (or_else_zero 0)

none_over : (t : List (List ℕ)) (w : List ℕ) → ((s : ℕ) → s < 5 → pricing_total w s ≤ greatest_break w + excess_most)
    → ((s : ℕ) → s < 5 → table_total t s ≤ greatest_break w + excess_most) → (n : ℕ) → n ≤ 5 → first (total_fault t w) n ≡ 0
unfolding first
none_over t w p o zero h = refl
none_over t w p o (suc n) h = or_else_none (none_over t w p o n (omega arith)) (over t w n (p n (omega arith)) (o n (omega arith)))

-- a line that is accepted with one table is refused by the totals of another alone
or_none : (x : ℕ) → x or_else 0 ≡ x
unfolding ◌or_else◌
or_none zero = refl
or_none (suc x) = refl

by_totals : (t u : List (List ℕ)) (w : List ℕ) → line_fault_with t w ≡ 0 → line_fault_with u w ≡ first (total_fault u w) 5
unfolding line_fault_with
by_totals t u w e =
    let b1 = or_else_both _ _ e in
    let b2 = or_else_both _ _ b1.right in
    let b3 = or_else_both _ _ b2.right in
    let b4 = or_else_both _ _ b3.right in
    let b5 = or_else_both _ _ b4.right in
    rw (b1.left, b2.left, b3.left, b4.left, b5.right) (simp (or_else_zero, or_none))

-- the number of any answer of the cutter
number_by : (w : List ℕ) (n : ℕ) → (cond (eqb n 0) (cut_of w) (cut_refused n)).number ≡ n
unfolding cut_of cut_refused
number_by w zero = refl
number_by w (suc n) = rw (eqb-suc-zero n)

number_is : (w : List ℕ) → (cut_answer w).number ≡ cut_fault w
unfolding cut_answer
number_is w = number_by w (cut_fault w)

module _ (d : List ℕ) (h : day_fault d ≡ 0) (k : ℕ) (l : k < line_count d) where
  fault_is : cut_fault (line_at d k) ≡ first (total_fault (operating_table (line_at d k)) (line_at d k)) 5
  unfolding cut_fault line_fault
  fault_is =
      let a = accepted_day d h in
      rw (line_length d a k l, refuse_false 18, or_else_zero) (by_totals _ (operating_table (line_at d k)) (line_at d k) (a.line_fault_lem k l))

  pub refused_with_twelve : ((cut_answer (line_at d k)).number ≡ 0 → ⊥) → (cut_answer (line_at d k)).number ≡ 12
  refused_with_twelve n =
      number_is (line_at d k) ∙ fault_is ∙ (totals_twelve _ _ 5).twelve (λ z. n (number_is (line_at d k) ∙ fault_is ∙ z))

  -- where each of its own operating totals is within the limit, it is accepted
  pub within_taken : ((s : ℕ) → s < 5 → table_total (operating_table (line_at d k)) s ≤ greatest_break (line_at d k) + excess_most) → (cut_answer (line_at d k)).number ≡ 0
  within_taken o =
      let a = accepted_line_at d (accepted_day d h) k l in
      number_is (line_at d k) ∙ fault_is ∙ none_over (operating_table (line_at d k)) (line_at d k) a.pricing_most o 5 (omega arith)

  -- and so where its own rows are those in force: where no record is for it, and in a file without records
  rows_taken : table_in_force d k ≡ operating_table (line_at d k) → (cut_answer (line_at d k)).number ≡ 0
  rows_taken e = within_taken (λ s i. rw (← e) ((accepted_line_with d (accepted_day d h) k l).operating_most s i))

  pub unnamed_taken : ((i : ℕ) → i < record_count d → record_line d (records_at d) i ≡ k → ⊥) → (cut_answer (line_at d k)).number ≡ 0
  unnamed_taken u = rows_taken (unnamed_table d k u)

  pub own_taken : record_count d ≡ 0 → (cut_answer (line_at d k)).number ≡ 0
  own_taken n = rows_taken (own_table d k n)
