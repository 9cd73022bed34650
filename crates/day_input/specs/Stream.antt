-- A stream that is read on past a day's first bytes, where its bytes are known, and what is written then.
use Rattle.std.specs.Prelude.{ℕ, ◌≤◌, ◌<◌, ◌≡◌, List, [], ◌++◌, length, Bool, true, false, Option, IfSome}
use Rattle.std.specs.Io.KnownBytes.{Appends, Consumes}
use Rattle.rules.specs.Refusals.{day_fault}
use Rattle.rules.specs.Report.{refused_line}

-- n of the known bytes were read
abbrev pub Passes : Option (List ℕ) → Option (List ℕ) → ℕ → Type 0
Passes old new n = (bs : List ℕ) × (length bs ≡ n) × Consumes old new bs

-- n is how many there were, if fewer than 2^44
abbrev pub Counted : Option (List ℕ) → ℕ → Type 0
Counted known n = IfSome known (λ xs. length xs < 17592186044416 → n ≡ length xs)

-- where more follow, the line of the whole file's refusal is written; else no byte was left
abbrev pub Told : Bool → List ℕ → List ℕ → Option (List ℕ) → Option (List ℕ) → Type 0
Told true head xs old new = Appends old new (refused_line (day_fault (head ++ xs)))
Told false head xs old new = xs ≡ []

-- the same of a head that fills the first bytes
abbrev pub LongTold : Bool → List ℕ → ℕ → Option (List ℕ) → Option (List ℕ) → Option (List ℕ) → Type 0
LongTold more head n known old new =
    65536 ≤ n → length head ≡ 65536 → IfSome known (λ xs. length xs < 17592186044416 → Told more head xs old new)

-- where the bytes of the whole file are known and fewer than 2^44, its text is written
abbrev pub Answered : (List ℕ → List ℕ) → Option (List ℕ) → Option (List ℕ) → Option (List ℕ) → Type 0
Answered text known old new = IfSome known (λ d. length d < 17592186044416 → Appends old new (text d))

-- the text of a file that is longer than any accepted day is the line of its refusal
abbrev pub RefusesLong : (List ℕ → List ℕ) → Type 0
RefusesLong text = (d : List ℕ) → 44360 < length d → refused_line (day_fault d) ≡ text d
