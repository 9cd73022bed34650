-- A number's bytes put, and one amount or pair more of a row.
use Prim.Native.Nat.{ℕ, ◌+◌, ◌*◌, ◌≤◌}
use native.Mathlib.Omega.{arith}
use mathlib.Core.Path.{◌≡◌, ap, ap₂}
use mathlib.Core.List.{List, ◌++◌}
use lib.Seq.{sets}
use lib.IntN.{ℤ}
use mir.Syntax.{w64}
use mir.Val.{SFits, to_z, of_z}
use mir.Facts.{to_z-of_z}
use Rattle.rules.specs.Fold.{joined}
use Rattle.rules.specs.Book.{le, signed_bytes}
use Rattle.book_layout.specs.Reading.{le_length}
use Rattle.text.specs.Put.{Written, written_as, row_more}
use Rattle.book.specs.Entries.{money_bytes, pair_bytes}

-- the k bytes of a number
pub written_le : (k v : ℕ) {l m : List ℕ} (at : ℕ) → m ≡ sets l at (le k v) → Written k l at (le k v) (at + k) m
written_le k v at e =
    let n = le_length k v in
    record { most = omega arith; end = omega arith; bytes = e }

-- one amount more, one pair more
pub money_more : (v : ℕ → ℤ) (s : ℕ) {l m n : List ℕ} {at p q : ℕ} → SFits w64 (v s)
    → Written (8 * s) l at (joined s (money_bytes v)) p m → Written 8 m p (signed_bytes (to_z w64 (of_z w64 (v s)))) q n
    → Written (8 * (s + 1)) l at (joined (s + 1) (money_bytes v)) q n
unfolding money_bytes
money_more v s h w x = row_more (money_bytes v) 8 s w (written_as (ap signed_bytes (to_z-of_z h)) x)

pub pair_more : (t a : ℕ → ℤ) (s : ℕ) {l m n : List ℕ} {at p q : ℕ} → SFits w64 (t s) → SFits w64 (a s)
    → Written (16 * s) l at (joined s (pair_bytes t a)) p m → Written 16 m p (signed_bytes (to_z w64 (of_z w64 (t s))) ++ signed_bytes (to_z w64 (of_z w64 (a s)))) q n
    → Written (16 * (s + 1)) l at (joined (s + 1) (pair_bytes t a)) q n
unfolding pair_bytes
pair_more t a s h g w x = row_more (pair_bytes t a) 16 s w (written_as (ap₂ (λ (y z : ℤ). signed_bytes y ++ signed_bytes z) (to_z-of_z h) (to_z-of_z g)) x)
