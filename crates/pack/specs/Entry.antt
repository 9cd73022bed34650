-- An entry of a pack: its length as a little-endian word, then its bytes.
use Rattle.std.specs.Prelude.{ℕ, ◌≤◌, ◌<◌, ◌^◌, ◌≡◌, List, [], ◌∷◌, ◌++◌, length, Option, None, Some, IfSome, Result, Ok, ⊤}
use Rattle.std.specs.Int.{w32, from_le_bytes}

-- xs is a word, then the entry, whose length the word says and which is no longer than `most`, and then ys
abbrev pub IsNext : ℕ → List ℕ → List ℕ → List ℕ → Type 0
IsNext most xs entry ys =
    (word : List ℕ) × (xs ≡ word ++ (entry ++ ys)) × (length word ≡ 4) × (length entry ≡ from_le_bytes w32 word) × (length entry ≤ most)

-- what is answered of xs: the entry that it begins with, and ys is left; or none where it begins with none
abbrev pub Next : ℕ → List ℕ → List ℕ → Option (List ℕ) → Type 0
Next most xs ys (Some entry) = IsNext most xs entry ys
Next most xs ys None = (entry rest : List ℕ) → IsNext most xs entry rest → ⊥

-- the same of an input whose bytes are known
abbrev pub Reads : ℕ → Option (List ℕ) → Option (List ℕ) → Option (List ℕ) → Type 0
Reads most None new r = ⊤
Reads most (Some xs) None r = ⊥
Reads most (Some xs) (Some ys) r = Next most xs ys r

module _ {F E : Type 0} (called : F → List ℕ → Result (Unit {0}) E → F → Type 0) (most : ℕ) where
  -- f was called in turn at each entry that xs begins with, and each call succeeded; what follows begins with none
  abbrev pub Shows : F → List ℕ → List (List ℕ) → Type 0
  Shows f xs [] = Next most xs [] None
  Shows f xs (entry ∷ entries) = (ys : List ℕ) × (g : F) × IsNext most xs entry ys × called f entry (Ok tt) g × Shows g ys entries

  -- the same of an input whose bytes are known, where they are fewer than 2^64
  abbrev pub ShowsEach : F → Option (List ℕ) → Type 0
  ShowsEach f known = IfSome known (λ xs. length xs < 2 ^ 64 → (entries : List (List ℕ)) × Shows f xs entries)
