-- The 64 parts of a day's text, one after another, are the whole text.
use Rattle.std.specs.Prelude.{ℕ, zero, suc, ◌≤◌, ◌<◌, ◌≡◌}
use native.Mathlib.Omega.{arith}
use Rattle.std.proofs.Math.Decide.{dec_lt}
use Rattle.std.proofs.Common.{◌∙◌}
use Rattle.std.proofs.Math.Path.{ap}
use mathlib.Core.List.{List, [], ◌++◌, append-nil}
use borrow.Author.Tests.{lt-ltb, le-ltb, eq-eqb, ne_eqb}
use Rattle.rules.specs.Fold.{joined}
use Rattle.rules.specs.Layout.{line_count}
use Rattle.rules.specs.Refusals.{day_fault}
use Rattle.rules.specs.Report.{refused_line}
use Rattle.laws.specs.Folds.{joined_none, joined_suc}
use Rattle.laws.specs.Accepted.{accepted_day}
use Rattle.text.specs.Put.{joined_same}
use Rattle.text_steps.specs.Text.{line_steps, steps_text, steps_part}

-- lists of which all from n on are empty
joined_stop : (n m : ℕ) (f : ℕ → List ℕ) → ((k : ℕ) → n ≤ k → f k ≡ []) → n ≤ m → joined m f ≡ joined n f
joined_stop n zero f h l = let e : n ≡ 0 = omega arith in rw e
joined_stop n (suc m) f h l =
    let r = joined_stop n m f h in
    elim (dec_lt m n) [
      | yes q ↦ let e : n ≡ suc m = omega arith in rw e
      | no q ↦
          let g : n ≤ m = omega arith in
          joined_suc m f ∙ ap (λ (t : List ℕ). joined m f ++ t) (h m g) ∙ append-nil (joined m f) ∙ r g
    ]

module _ (d : List ℕ) where
  -- an accepted day has a part for each line
  module _ (e : day_fault d ≡ 0) where
    part_line : (k : ℕ) → k < line_count d → steps_part d k ≡ line_steps d k
    unfolding steps_part
    part_line k l = rw (eq-eqb (day_fault d) 0 e, lt-ltb k (line_count d) l)

    part_past : (k : ℕ) → line_count d ≤ k → steps_part d k ≡ []
    unfolding steps_part
    part_past k l = rw (eq-eqb (day_fault d) 0 e, le-ltb k (line_count d) l)

    parts_accepted : joined 64 (steps_part d) ≡ steps_text d
    unfolding steps_text
    parts_accepted =
        let a = accepted_day d e in
        let few : line_count d ≤ 64 = omega (arith, a.header.count_most) in
        rw (eq-eqb (day_fault d) 0 e)
        (joined_stop (line_count d) 64 (steps_part d) part_past few ∙ joined_same (line_count d) (steps_part d) (line_steps d) part_line)

  -- a refused day has one
  module _ (g : day_fault d ≡ 0 → ⊥) where
    part_after : (k : ℕ) → 1 ≤ k → steps_part d k ≡ []
    unfolding steps_part
    part_after k l = let z : k ≡ 0 → ⊥ = λ e. omega arith in rw (ne_eqb (day_fault d) 0 g, ne_eqb k 0 z)

    part_refusal : steps_part d 0 ≡ refused_line (day_fault d)
    unfolding steps_part
    part_refusal = rw (ne_eqb (day_fault d) 0 g)

    parts_refused : joined 64 (steps_part d) ≡ steps_text d
    unfolding steps_text
    parts_refused =
        rw (ne_eqb (day_fault d) 0 g)
        (joined_stop 1 64 (steps_part d) part_after (omega arith)
        ∙ joined_suc 0 (steps_part d)
        ∙ ap (λ (t : List ℕ). t ++ steps_part d 0) (joined_none (steps_part d))
        ∙ part_refusal)

  -- THE WHOLE TEXT, from the parts
  pub parts_whole : joined 64 (steps_part d) ≡ steps_text d
  parts_whole =
      elim (dec_lt 0 (day_fault d)) [
        | yes l ↦ parts_refused (λ e. omega arith)
        | no l ↦ parts_accepted (omega arith)
      ]
