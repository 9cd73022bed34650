-- Numbers one after another, each after a space.
use Rattle.std.specs.Prelude.{ℕ, ◌≡◌, refl, List, ◌++◌, length, ℤ}
use Rattle.rules.specs.Fold.{joined, at}
use Rattle.rules.specs.Report.{decimal, signed_decimal, space, line_feed}
use Rattle.rules.specs.Report.{number_after, five_numbers}

-- five numbers, each after a space
unfoldable pub numbers : (ℕ → ℤ) → List ℕ
numbers f = joined 5 (number_after f)

-- the numbers of a list, each after a space
unfoldable pub word_after : List ℕ → ℕ → List ℕ
word_after v i = space ++ decimal (at v i)

unfoldable pub words : List ℕ → List ℕ
words v = joined (length v) (word_after v)

-- how the parts make up the texts
pub number_is : (f : ℕ → ℤ) (s : ℕ) → space ++ signed_decimal (f s) ≡ number_after f s
unfolding number_after
number_is f s = refl

pub word_is : (v : List ℕ) (i : ℕ) → space ++ decimal (at v i) ≡ word_after v i
unfolding word_after
word_is v i = refl

pub five_is : (f : ℕ → ℤ) → numbers f ++ line_feed ≡ five_numbers f
unfolding numbers five_numbers
five_is f = refl
