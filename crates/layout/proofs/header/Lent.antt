-- Line k of the day: the part of the bytes that the code lends.
use Prim.Native.Nat.{ℕ, ◌+◌, ◌-◌, ◌≤◌}
use native.Mathlib.Omega.{arith}
use mathlib.Core.Path.{◌≡◌, ◌∙◌, ap}
use mathlib.Core.List.{List}
use lib.ListN.{length, take, drop, length-take, length-drop}
use Rattle.rules.specs.Layout.{line_place, line_at}

module _ (d : List ℕ) (k : ℕ) where
  pub lent_line : (p : ℕ) → p ≡ line_place d k → take (p + 660 - p) (drop p d) ≡ line_at d k
  lent_line p e =
      let size : p + 660 - p ≡ 660 = omega arith in
      ap (λ (m : ℕ). take m (drop p d)) size ∙ ap (λ (i : ℕ). take 660 (drop i d)) e

  pub line_length : line_place d (k + 1) ≤ length d → length (line_at d k) ≡ 660
  line_length h = simp (length-take, length-drop) (omega arith)
