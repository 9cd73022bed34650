-- The report's lines (`rules`, Report) over plain values.
use Rattle.std.specs.Prelude.{ℕ, ◌≡◌, refl, List, ◌++◌, ℤ}
use Rattle.std.proofs.Common.{◌∙◌, ap, append_assoc, eq-eqb, ne_eqb}
use Rattle.rules.specs.Fold.{joined, five, at_z}
use Rattle.rules.specs.Payments.{Day}
use Rattle.rules.specs.Totals.{line_payment}
use Rattle.rules.specs.Report.{decimal, day_text, injection_text, withdrawal_text, total_text, adjusted_text, space, line_feed, side_text}
use Rattle.rules.specs.Report.{number_after, five_numbers, line_text}
use Rattle.text.specs.Rows.{numbers, five_is}

-- participant and point; side and steps
unfoldable pub line_ids : ℕ → ℕ → List ℕ
line_ids p q = decimal p ++ space ++ decimal q

unfoldable pub side_steps : ℕ → ℕ → List ℕ
side_steps sd n = space ++ side_text sd ++ space ++ decimal n

-- a line's text without its end, and whole
unfoldable pub line_start : ℕ → ℕ → ℕ → ℕ → (ℕ → ℤ) → List ℕ
line_start p q sd n f = line_ids p q ++ side_steps sd n ++ numbers f

unfoldable pub line_text_of : ℕ → ℕ → ℕ → ℕ → (ℕ → ℤ) → List ℕ
line_text_of p q sd n f = line_ids p q ++ side_steps sd n ++ five_numbers f

-- the first line
unfoldable pub heading : ℕ → List ℕ
heading n = day_text ++ decimal n ++ line_feed

-- the lines of t and of a
unfoldable pub totals_text : (ℕ → ℤ) → (ℕ → ℤ) → List ℕ
totals_text t a = total_text ++ five_numbers t ++ adjusted_text ++ five_numbers a

-- a line's text is that of the line's values
regroup : (x s t u v w : List ℕ) → x ++ s ++ t ++ u ++ v ++ w ≡ x ++ (s ++ t ++ u ++ v) ++ w
regroup x s t u v w = simp append_assoc

pub line_of : (y : Day) (k : ℕ) → line_text y k ≡ line_text_of (y.participant k) (y.point k) (y.side k) (y.count k) (λ s. line_payment y s k)
unfolding line_text line_text_of line_ids side_steps
line_of y k =
    regroup (decimal (y.participant k) ++ space ++ decimal (y.point k)) space (side_text (y.side k)) space (decimal (y.count k))
    (five_numbers (λ s. line_payment y s k))

pub line_is : (p q sd n : ℕ) (f : ℕ → ℤ) → line_start p q sd n f ++ line_feed ≡ line_text_of p q sd n f
unfolding line_start line_text_of
line_is p q sd n f =
    append_assoc (line_ids p q ++ side_steps sd n) (numbers f) line_feed
    ∙ ap (λ (t : List ℕ). line_ids p q ++ side_steps sd n ++ t) (five_is f)

-- five numbers as a list
pub five_of : (f : ℕ → ℤ) → five_numbers (at_z (five f)) ≡ five_numbers f
unfolding five_numbers joined number_after
five_of f = refl

-- a side's text
pub side_withdrawal : (sd : ℕ) → sd ≡ 1 → withdrawal_text ≡ side_text sd
unfolding side_text
side_withdrawal sd e = rw (eq-eqb sd 1 e)

pub side_injection : (sd : ℕ) → (sd ≡ 1 → ⊥) → injection_text ≡ side_text sd
unfolding side_text
side_injection sd h = rw (ne_eqb sd 1 h)
