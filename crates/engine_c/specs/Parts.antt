-- The part of a day that is line k, by where it begins and how long it is: both 0 where the part is empty.
use Rattle.std.specs.Prelude.{ℕ, ◌≡◌, refl, List, cond, take, drop, eqb}
use Rattle.std.proofs.Common.{sym, ◌∙◌, eq-eqb, ne_eqb}
use Rattle.rules.specs.Layout.{line_bytes, line_place}
use Rattle.rules.specs.Refusals.{line_part_fault, line_part}

unfoldable pub part_at : List ℕ → ℕ → ℕ
part_at d k = cond (eqb (line_part_fault d k) 0) (line_place d k) 0

unfoldable pub part_length : List ℕ → ℕ → ℕ
part_length d k = cond (eqb (line_part_fault d k) 0) line_bytes 0

-- the number, the two places and the bytes, of an empty part and of a line
pub part_none : (d : List ℕ) (k n : ℕ) → n ≡ line_part_fault d k → (n ≡ 0 → ⊥) → (n ≡ line_part_fault d k) × ((0 ≡ part_at d k) × ((0 ≡ part_length d k) × (take 0 (drop 0 d) ≡ line_part d k)))
unfolding part_at part_length line_part
part_none d k n e h = (e, rw (ne_eqb (line_part_fault d k) 0 (λ z. h (e ∙ z))) (refl, (refl, refl)))

pub part_some : (d : List ℕ) (k n p : ℕ) → n ≡ line_part_fault d k → n ≡ 0 → p ≡ line_place d k
    → (0 ≡ line_part_fault d k) × ((p ≡ part_at d k) × ((660 ≡ part_length d k) × (take 660 (drop p d) ≡ line_part d k)))
unfolding part_at part_length line_part
part_some d k n p e z h = rw h (sym z ∙ e, rw (eq-eqb (line_part_fault d k) 0 (sym e ∙ z)) (refl, (refl, refl)))
