-- The rows of an answer's text.
use Rattle.std.specs.Prelude.{ℕ, ◌≡◌, refl, List, [], ◌∷◌, ◌++◌, get_or}
use Rattle.rules.specs.Fold.{joined, five, at}
use Rattle.rules.specs.Report.{decimal, space, line_feed}
use Rattle.rules.specs.declared.Cut.{Cut}
use Rattle.cutter.specs.Arrays.{price_in}

-- "cut"
abbrev pub cut_word : List ℕ
cut_word = 99 ∷ 117 ∷ 116 ∷ []

-- a space and the number that f gives for schedule s
unfoldable pub spaced : (ℕ → ℕ) → ℕ → List ℕ
spaced f s = space ++ decimal (f s)

-- five numbers, each after a space, and the line's end
unfoldable pub row_text : (ℕ → ℕ) → List ℕ
row_text f = joined 5 (spaced f) ++ line_feed

-- step k: its end and its five prices
unfoldable pub cut_step_text : Cut → ℕ → List ℕ
cut_step_text r k = decimal (get_or r.ends k 0) ++ row_text (price_in r.prices k)

-- the first line
unfoldable pub count_text : ℕ → List ℕ
count_text n = cut_word ++ space ++ decimal n ++ line_feed

-- how the parts make up the texts
pub row_is : (v : List ℕ) {a b c d e : ℕ} → a ≡ at v 0 → b ≡ at v 1 → c ≡ at v 2 → d ≡ at v 3 → e ≡ at v 4
    → (space ++ decimal a) ++ (space ++ decimal b) ++ (space ++ decimal c) ++ (space ++ decimal d) ++ (space ++ decimal e) ++ line_feed ≡ row_text (at v)
unfolding row_text joined spaced
row_is v ea eb ec ed ee = rw (ea, eb, ec, ed, ee)

pub row_of : (f : ℕ → ℕ) → row_text (at (five f)) ≡ row_text f
unfolding row_text joined spaced
row_of f = refl

pub line_of_step : (r : Cut) (k : ℕ) {e : ℕ} {v : List ℕ} → e ≡ get_or r.ends k 0 → v ≡ five (price_in r.prices k) → decimal e ++ row_text (at v) ≡ cut_step_text r k
unfolding cut_step_text
line_of_step r k e f = rw (e, f, row_of (price_in r.prices k))
