-- The header's refusal and the line part's, from what the code has read.
use Prim.Native.Nat.{ℕ, zero, suc, ◌+◌, ◌-◌, ◌≤◌, ◌<◌}
use native.Mathlib.Omega.{arith}
use mathlib.Core.Path.{◌≡◌, refl, sym, ◌∙◌, ap}
use mathlib.Core.List.{List, []}
use mathlib.Core.Bool.{Bool, true, false, not, cond}
use lib.ListN.{length, take, drop}
use lib.Dec.{eqb, ltb, leb}
use borrow.Author.Tests.{lt-ltb, le-ltb, le-leb, lt-leb, eq-eqb, ne_eqb}
use Rattle.std.proofs.lemmas.Bool.Decides.{nat_tests}
use Rattle.rules.specs.Fold.{refuse, ◌or_else◌}
use Rattle.rules.specs.Layout.{line_count, market_offset, lines_offset, length_word, market_at, lines_at, line_place, record_count, file_length, line_at}
use Rattle.rules.specs.Refusals.{header_fault_of, header_fault, line_part_fault, line_part}
use Rattle.laws.specs.Folds.{not_eq, not_ne, stops, passes, ends_at, none_at, part_stops, part_passes}
use Rattle.laws.specs.Accepted.{AcceptedHeader, accepted_header}
use Rattle.refusals.specs.Laws.{refused, is_refused}
use Rattle.layout.proofs.header.Lent.{lent_line, line_length}
use Rattle.day_header.specs.Records.{misplaced}

-- a chain of refusals as one test after another
pub refuse_or : (n : ℕ) (t : Bool) (b : ℕ) → refuse n t or_else b ≡ cond t (n or_else b) b
unfolding refuse ◌or_else◌
refuse_or n true b = refl
refuse_or n false b = refl

pub refuse_is : (n : ℕ) (t : Bool) → refuse n t ≡ cond t n 0
unfolding refuse
refuse_is n true = refl
refuse_is n false = refl

pub or_else_is : (a b : ℕ) → a or_else b ≡ cond (eqb a 0) b a
unfolding ◌or_else◌
or_else_is zero b = refl
or_else_is (suc a) b = grind (arith, nat_tests)

pub header_tests : (d : List ℕ) (len : ℕ) → header_fault_of d len ≡
    cond (ltb len 64) 1
    (cond (eqb (line_count d) 0) 2
    (cond (ltb 64 (line_count d)) 2
    (cond (not (eqb (market_offset d) (market_at d))) 3
    (cond (not (eqb (lines_offset d) (lines_at d))) 3
    (cond (misplaced d) 3
    (cond (not (eqb (length_word d) (file_length d))) 3
    (cond (not (eqb len (file_length d))) 3
    (cond (ltb 64 (record_count d)) 19 0))))))))
unfolding header_fault_of misplaced ◌or_else◌
header_tests d len = simp refuse_or (simp refuse_is)

pub part_tests : (d : List ℕ) (k : ℕ) → line_part_fault d k ≡ cond (eqb (header_fault d) 0) (cond (leb (line_count d) k) 16 0) (header_fault d)
unfolding line_part_fault
part_tests d k = or_else_is (header_fault d) _ ∙ ap (λ (x : ℕ). cond (eqb (header_fault d) 0) x (header_fault d)) (refuse_is 16 _)

-- the line part: empty, or as it is lent
pub part_none : (d : List ℕ) (k : ℕ) → (line_part_fault d k ≡ 0 → ⊥) → [] ≡ line_part d k
unfolding line_part
part_none d k h = rw (ne_eqb (line_part_fault d k) 0 h)

pub part_lent : (d : List ℕ) (k p : ℕ) → line_part_fault d k ≡ 0 → p ≡ line_place d k → take (p + 660 - p) (drop p d) ≡ line_part d k
unfolding line_part
part_lent d k p h e = rw (eq-eqb (line_part_fault d k) 0 h) (lent_line d k p e)

-- a line part that is lent lies within the bytes
pub record Within (d : List ℕ) (k : ℕ) : Type 0 where
  pub header_least : 64 ≤ length d
  pub line_most_lem : k < 64
  pub lines_most : lines_at d ≤ 72
  pub length_least : line_place d (k + 1) ≤ length d

part_both : (d : List ℕ) (k : ℕ) → line_part_fault d k ≡ 0 → Rattle.laws.specs.Folds.Both (header_fault d) (refuse 16 (leb (line_count d) k))
unfolding line_part_fault
part_both d k e = Rattle.laws.specs.Folds.or_else_both _ _ e

pub part_within : (d : List ℕ) (k : ℕ) → line_part_fault d k ≡ 0 → Within d k
part_within d k h =
    let b = part_both d k h in
    let a = accepted_header d b.left in
    let l = borrow.Author.Tests.leb-false (line_count d) k (Rattle.laws.specs.Folds.refuse_zero 15 _ b.right) in
    record {
      header_least = omega (arith, a.length_least);
      line_most_lem = omega (arith, a.count_most);
      lines_most = a.lines_most;
      length_least = omega (arith, a.length_is);
    }

pub ruleset part_laws = (part_tests, part_none, part_lent, part_within, accepted_header, is_refused, refused)

-- the same of the number that was read
pub part_bounds : (d : List ℕ) (k x : ℕ) → x ≡ line_part_fault d k → x ≡ 0 → Within d k
part_bounds d k x e h = part_within d k (sym e ∙ h)

pub lent_length : (d v : List ℕ) (k : ℕ) → v ≡ line_at d k → line_place d (k + 1) ≤ length d → length v ≡ 660
lent_length d v k e h = ap length e ∙ line_length d k h
