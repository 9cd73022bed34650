-- Sums, searches and lists over the numbers below a count, which the definitions share.
use Rattle.std.specs.Prelude.{ℕ, zero, suc, ◌+◌, ◌-◌, max, Bool, true, false, ◌&&◌, ◌||◌, List, [], ◌∷◌, ◌++◌, length, get_or, replicate, ℤ, pos, negsuc, ◌+ℤ◌, eqb}

-- the refusal `n` where the test finds its fault, else 0
unfoldable pub refuse : ℕ → Bool → ℕ
refuse n true = n
refuse n false = 0

infixr 20 ◌or_else◌
-- "The number is that of the first fault met": `a` unless that is 0, then `b`
unfoldable pub ◌or_else◌ : ℕ → ℕ → ℕ
zero or_else b = b
suc a or_else b = suc a

-- the first number other than 0 among f 0 .. f (n - 1), else 0
unfoldable pub first : (ℕ → ℕ) → ℕ → ℕ
first f zero = 0
first f (suc n) = first f n or_else f n

-- f 0 + .. + f (n - 1)
unfoldable pub sum_to : ℕ → (ℕ → ℕ) → ℕ
sum_to zero f = 0
sum_to (suc n) f = sum_to n f + f n

-- the same for signed numbers
unfoldable pub sum_z : ℕ → (ℕ → ℤ) → ℤ
sum_z zero f = pos 0
sum_z (suc n) f = sum_z n f +ℤ f n

-- the greatest of f 0 .. f (n - 1), 0 where there is none
unfoldable pub most_to : ℕ → (ℕ → ℕ) → ℕ
most_to zero f = 0
most_to (suc n) f = max (most_to n f) (f n)

-- whether one of p 0 .. p (n - 1) holds
unfoldable pub some_to : ℕ → (ℕ → Bool) → Bool
some_to zero p = false
some_to (suc n) p = some_to n p || p n

-- whether each of them does
unfoldable pub all_to : ℕ → (ℕ → Bool) → Bool
all_to zero p = true
all_to (suc n) p = all_to n p && p n

-- the lists f 0 .. f (n - 1), one after another
unfoldable pub joined : ℕ → (ℕ → List ℕ) → List ℕ
joined zero f = []
joined (suc n) f = joined n f ++ f n

-- f 0 .. f (n - 1)
unfoldable pub list_to : ℕ → (ℕ → ℕ) → List ℕ
list_to zero f = []
list_to (suc n) f = list_to n f ++ (f n ∷ [])

-- the sum of a list
unfoldable pub sum_of : List ℕ → ℕ
sum_of [] = 0
sum_of (x ∷ xs) = x + sum_of xs

-- what stands before place j: 0 before the first
unfoldable pub before : (ℕ → ℕ) → ℕ → ℕ
before f zero = 0
before f (suc j) = f j

-- a list with zeros behind it up to n places
unfoldable pub padded : ℕ → List ℕ → List ℕ
padded n l = l ++ replicate (n - length l) 0

-- the equality test of signed numbers
abbrev pub eqb_z : ℤ → ℤ → Bool
eqb_z (pos a) (pos b) = eqb a b
eqb_z (pos a) (negsuc b) = false
eqb_z (negsuc a) (pos b) = false
eqb_z (negsuc a) (negsuc b) = eqb a b

-- one value for each of the five schedules
abbrev pub five : {A : Type 0} → (ℕ → A) → List A
five f = f 0 ∷ f 1 ∷ f 2 ∷ f 3 ∷ f 4 ∷ []

-- the value of schedule s
abbrev pub at : List ℕ → ℕ → ℕ
at l s = get_or l s 0

-- the same for signed numbers
abbrev pub at_z : List ℤ → ℕ → ℤ
at_z l s = get_or l s (pos 0)
