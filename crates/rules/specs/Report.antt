-- Document 01, "Figures to check against", K10: the settling program's text as bytes, and the uplift program's (document
-- 02, F-1). Every line of them ends with a line feed.
use Rattle.std.specs.Prelude.{ℕ, zero, suc, ◌+◌, ◌/◌, ◌%◌, List, [], ◌∷◌, ◌++◌, cond, eqb, ltb, ℤ, pos, negsuc}
use Rattle.rules.specs.Fold.{joined}
use Rattle.rules.specs.Layout.{withdrawal}
use Rattle.rules.specs.Refusals.{day_fault}
use Rattle.rules.specs.Payments.{Day}
use Rattle.rules.specs.Totals.{line_payment, total, adjusted_total}
use Rattle.rules.specs.Uplift.{uplift}
use Rattle.rules.specs.Days.{settled_day}

-- a number in decimal, of at most so many digits
unfoldable pub digits : ℕ → ℕ → List ℕ
digits zero v = []
digits (suc m) v = cond (ltb v 10) ((48 + v) ∷ []) (digits m (v / 10) ++ ((48 + v % 10) ∷ []))

-- twenty digits hold every 64-bit number
unfoldable pub decimal : ℕ → List ℕ
decimal v = digits 20 v

-- with a minus sign (45) before the size of one below 0
unfoldable pub signed_decimal : ℤ → List ℕ
signed_decimal (pos n) = decimal n
signed_decimal (negsuc n) = 45 ∷ decimal (suc n)

-- "day ", "INJ", "WDR", "total", "adjusted", "refused "
abbrev pub day_text : List ℕ
day_text = 100 ∷ 97 ∷ 121 ∷ 32 ∷ []

abbrev pub injection_text : List ℕ
injection_text = 73 ∷ 78 ∷ 74 ∷ []

abbrev pub withdrawal_text : List ℕ
withdrawal_text = 87 ∷ 68 ∷ 82 ∷ []

abbrev pub total_text : List ℕ
total_text = 116 ∷ 111 ∷ 116 ∷ 97 ∷ 108 ∷ []

abbrev pub adjusted_text : List ℕ
adjusted_text = 97 ∷ 100 ∷ 106 ∷ 117 ∷ 115 ∷ 116 ∷ 101 ∷ 100 ∷ []

abbrev pub refused_text : List ℕ
refused_text = 114 ∷ 101 ∷ 102 ∷ 117 ∷ 115 ∷ 101 ∷ 100 ∷ 32 ∷ []

-- a space, a line feed
abbrev pub space : List ℕ
space = 32 ∷ []

abbrev pub line_feed : List ℕ
line_feed = 10 ∷ []

unfoldable pub side_text : ℕ → List ℕ
side_text sd = cond (withdrawal sd) withdrawal_text injection_text

-- a space and the number that f gives for schedule s
unfoldable pub number_after : (ℕ → ℤ) → ℕ → List ℕ
number_after f s = space ++ signed_decimal (f s)

-- five numbers, each after a space, and the line's end
unfoldable pub five_numbers : (ℕ → ℤ) → List ℕ
five_numbers f = joined 5 (number_after f) ++ line_feed

-- "participant, point, INJ or WDR, steps, five payments": of line k
unfoldable pub line_text : Day → ℕ → List ℕ
line_text y k =
    decimal (y.participant k) ++ space ++ decimal (y.point k) ++ space ++ side_text (y.side k) ++ space ++ decimal (y.count k)
    ++ five_numbers (λ s. line_payment y s k)

-- "line count; participant, point, INJ or WDR, steps, five payments; t; a"
unfoldable pub settled_text : Day → List ℕ
settled_text y =
    day_text ++ decimal y.lines ++ line_feed
    ++ joined y.lines (line_text y)
    ++ total_text ++ five_numbers (total y)
    ++ adjusted_text ++ five_numbers (adjusted_total y)

-- "A refusal prints `refused` and its number"
unfoldable pub refused_line : ℕ → List ℕ
refused_line n = refused_text ++ decimal n ++ line_feed

unfoldable pub report_text : List ℕ → List ℕ
report_text d = cond (eqb (day_fault d) 0) (settled_text (settled_day d)) (refused_line (day_fault d))

-- "uplift"
abbrev pub uplift_text : List ℕ
uplift_text = 117 ∷ 112 ∷ 108 ∷ 105 ∷ 102 ∷ 116 ∷ []

-- the uplift program's line (document 02, F-1): `uplift` and the five shares
unfoldable pub uplift_line : Day → List ℕ
uplift_line y = uplift_text ++ five_numbers (uplift y)

unfoldable pub uplift_report : List ℕ → List ℕ
uplift_report d = cond (eqb (day_fault d) 0) (uplift_line (settled_day d)) (refused_line (day_fault d))
