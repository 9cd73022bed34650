-- Refusals 20 and 21, from what the code has read.
use Prim.Native.Nat.{ℕ}
use mathlib.Core.Path.{◌≡◌, refl}
use mathlib.Core.List.{List}
use mathlib.Core.Bool.{cond}
use lib.Dec.{eqb, leb, ltb}
use Rattle.rules.specs.Fold.{refuse, first, ◌or_else◌}
use Rattle.rules.specs.Layout.{record_line, record_schedule}
use Rattle.rules.specs.Refusals.{record_fault, same_record, twin_fault}
use Rattle.laws.specs.Folds.{first_none, first_more, first_stop}
use Rattle.day_header.proofs.Header.{refuse_or, refuse_is, or_else_is}

-- refusal 20
pub record_tests : (d : List ℕ) (r n i : ℕ) → record_fault d r n i ≡
    cond (leb n (record_line d r i)) 20
    (cond (eqb (record_schedule d r i) 0) 20
    (cond (ltb 5 (record_schedule d r i)) 20 0))
unfolding record_fault ◌or_else◌
record_tests d r n i = simp refuse_or (simp refuse_is)

-- refusal 21 of a pair, and of a record
unfoldable pub pair_fault : List ℕ → ℕ → ℕ → ℕ → ℕ
pair_fault d r i h = refuse 21 (same_record d r h i)

pub pair_is : (d : List ℕ) (r i h : ℕ) → pair_fault d r i h ≡ cond (same_record d r h i) 21 0
unfolding pair_fault
pair_is d r i h = refuse_is 21 _

pub twin_is : (d : List ℕ) (r i : ℕ) → twin_fault d r i ≡ first (pair_fault d r i) i
unfolding twin_fault pair_fault
twin_is d r i = refl

pub ruleset twin_laws = (twin_is, pair_is, first_none, first_more, first_stop)

-- both
pub ruleset part_laws = (or_else_is, first_none, first_more, first_stop)
