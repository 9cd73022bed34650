-- The cutter's answer, refused or whole, from what the code has found.
use Prim.Native.Nat.{ℕ}
use native.Mathlib.Omega.{arith}
use mathlib.Core.Path.{◌≡◌, sym, ◌∙◌, ap}
use mathlib.Core.List.{List}
use lib.ListN.{length}
use borrow.Author.Tests.{eq-eqb, ne_eqb}
use Rattle.std.specs.Array.{IsWholeChunk}
use Rattle.rules.specs.Refusals.{line_fault, cut_fault}
use Rattle.rules.specs.Cutting.{cut_of, cut_refused, cut_answer}
use Rattle.rules.specs.declared.Cut.{Cut}
use Rattle.laws.specs.Folds.{refuse_true, refuse_false, or_else_zero, or_else_stop}
use Rattle.laws.specs.Accepted.{accepted_line}
use Rattle.cutter.specs.Certificate.{answer_whole}
use Rattle.cutter_cursors.specs.Sweep.{Line}

-- the entry's three answers
fault_short : (w : List ℕ) → (length w ≡ 660 → ⊥) → cut_fault w ≡ 18
unfolding cut_fault
fault_short w h = rw (ne_eqb (length w) 660 h, refuse_true 18) (or_else_stop 18 (line_fault w) (omega arith))

pub cut_short : (w : List ℕ) {r : Cut} → (length w ≡ 660 → ⊥) → r ≡ cut_refused 18 → r ≡ cut_answer w
unfolding cut_answer
cut_short w h e =
    rw (fault_short w h) e

pub fault_line : (w : List ℕ) → length w ≡ 660 → cut_fault w ≡ line_fault w
unfolding cut_fault
fault_line w h = rw (eq-eqb (length w) 660 h, refuse_false) (or_else_zero (line_fault w))

-- `l` is the line as an array
pub cut_refused_lem : {w l : List ℕ} {n : ℕ} {r : Cut} → IsWholeChunk w l 660 → n ≡ line_fault l → (n ≡ 0 → ⊥) → r ≡ cut_refused n → r ≡ cut_answer w
unfolding cut_answer
cut_refused_lem {w} {l} {n} h e z p =
    let f : cut_fault w ≡ n = fault_line w h.long ∙ ap line_fault (sym h.same) ∙ sym e in
    rw (f, ne_eqb n 0 z) p

pub cut_line : {w l : List ℕ} → IsWholeChunk w l 660 → 0 ≡ line_fault l → Line l
cut_line {w} {l} h e = record { long = ap length h.same ∙ h.long; accepted = accepted_line l (sym e) }

pub cut_whole : {w l : List ℕ} {r : Cut} → IsWholeChunk w l 660 → 0 ≡ line_fault l → r ≡ cut_of l → r ≡ cut_answer w
cut_whole {w} h e p = p ∙ ap cut_of h.same ∙ sym (answer_whole w (fault_line w h.long ∙ ap line_fault (sym h.same) ∙ sym e))
