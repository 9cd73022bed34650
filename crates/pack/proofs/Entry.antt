-- An entry that two reads gave: `head` was read for its word, and then `body` for its bytes.
use Rattle.std.proofs.Common.{ℕ, ◌≤◌, ◌≡◌, List, ◌++◌, length, take, Option, None, Some, arith, ap, ap₂, ◌∙◌, take_all}
use Rattle.std.specs.Int.{w32, from_le_bytes}
use Rattle.std.specs.Io.KnownBytes.{Consumes}
use Rattle.pack.specs.Entry.{Reads}

pub found : (known mid left : Option (List ℕ)) (head body : List ℕ) (most m n : ℕ) → length head ≡ 4 → 4 ≤ m → Consumes known mid (take m head)
    → length body ≡ from_le_bytes w32 head → length body ≤ most → length body ≤ n → Consumes mid left (take n body) → Reads most known left (Some body)
found None mid left head body most m n size full first is fits whole second = tt
found (Some xs) None left head body most m n size full first is fits whole second = absurd first
found (Some xs) (Some ys) None head body most m n size full first is fits whole second = absurd second
found (Some xs) (Some ys) (Some zs) head body most m n size full first is fits whole second =
    (head, first ∙ ap₂ (λ a b. a ++ b) (take_all m head (omega arith)) (second ∙ ap (λ l. l ++ zs) (take_all n body whole)), size, is, fits)
