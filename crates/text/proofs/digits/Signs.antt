-- Signed numbers as the code has them. A signed local holds the bits of its number, which read back are the number where it fits
-- 64 bits: each parameter does, and so does each element of an array.
use Rattle.std.proofs.Common.{ℕ, zero, suc, arith, ap, List, [], ◌∷◌, ℤ, pos, get_or, SFits, w64, to_z, of_z}
use mir.Val.{Val}
use mir.Facts.{to_z-of_z}
use denote.Shadow.{shadow}
use denote.Laws.{Is}
use denote.Array.{Array, each}
use denote.Signed.{SInt}
use Rattle.text.specs.Put.{Written, written_as}

-- each element of an array fits
each_fits : (xs : List ℤ) (us : List Val) → shadow (each ℤ (SInt w64).own_val xs us) → (i : ℕ) → SFits w64 (get_or xs i (pos 0))
each_fits [] us s i = record { sfits = omega arith }
each_fits (x ∷ xs) [] s i = absurd s
each_fits (x ∷ xs) (u ∷ us) s zero = record { sfits = s.0.1 }
each_fits (x ∷ xs) (u ∷ us) s (suc i) = each_fits xs us s.1 i

pub array_fits : (n : ℕ) (xs : List ℤ) (vs : List Val) → Is (Array (SInt w64) n) xs vs → (i : ℕ) → SFits w64 (get_or xs i (pos 0))
array_fits n xs vs p i = each_fits xs p.0 p.1.1 i

-- the text of a number that was read back
pub own : {l m : List ℕ} {at r i : ℕ} (f : ℤ → List ℕ) (z : ℤ) → SFits w64 z
    → Written i l at (f (to_z w64 (of_z w64 z))) r m → Written i l at (f z) r m
own f z h w = written_as (ap f (to_z-of_z h)) w
