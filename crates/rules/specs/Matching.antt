-- Document 01, "Matching" (FD 8.3), from the constrained on quantities C of one step, a list of five.
use Rattle.std.specs.Prelude.{ℕ, zero, suc, ◌-◌, min, List, [], ◌∷◌, cond, get_or, ltb}
use Rattle.rules.specs.Fold.{at, before}

-- C(s-1), with "C(0) = 0" (document 01, "Quantities")
unfoldable pub earlier : List ℕ → ℕ → ℕ
earlier c s = before (at c) s

-- "Rise U(s) = max(0, C(s) - C(s-1)); fall D(s) = max(0, C(s-1) - C(s))"
unfoldable pub rise : List ℕ → ℕ → ℕ
rise c s = at c s - earlier c s

unfoldable pub fall : List ℕ → ℕ → ℕ
fall c s = earlier c s - at c s

-- what a fall d takes of each open rise, the latest first, and what it leaves of each
unfoldable pub takes : ℕ → List ℕ → List ℕ
takes d [] = []
takes d (u ∷ us) = min d u ∷ takes (d - min d u) us

unfoldable pub leaves : ℕ → List ℕ → List ℕ
leaves d [] = []
leaves d (u ∷ us) = (u - min d u) ∷ leaves (d - min d u) us

-- "each schedule takes the open rises left before it and leaves new ones": those open before s, of s-1 down to the first
unfoldable pub open_rises : List ℕ → ℕ → List ℕ
open_rises c zero = []
open_rises c (suc s) = rise c s ∷ leaves (fall c s) (open_rises c s)

-- "For r = s-1 down to 1, the match m(r, s) is the lesser of D(s) less matches of s already made with later rises,
-- and U(r) less what schedules before s took of it"
unfoldable pub matches_of : List ℕ → ℕ → List ℕ
matches_of c s = takes (fall c s) (open_rises c s)

-- m(r, s); 0 where r isn't before s
unfoldable pub matched : List ℕ → ℕ → ℕ → ℕ
matched c s r = cond (ltb r s) (get_or (matches_of c s) (s - suc r) 0) 0

-- "the ten matches": m(1,2) m(1,3) m(2,3) m(1,4) .. m(4,5)
unfoldable pub ten_matches : List ℕ → List ℕ
ten_matches c =
    matched c 1 0 ∷
    matched c 2 0 ∷ matched c 2 1 ∷
    matched c 3 0 ∷ matched c 3 1 ∷ matched c 3 2 ∷
    matched c 4 0 ∷ matched c 4 1 ∷ matched c 4 2 ∷ matched c 4 3 ∷ []
