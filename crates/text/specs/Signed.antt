-- A signed number's text by its size, and by its bits.
use Rattle.std.specs.Prelude.{suc, ◌+◌, ◌-◌, ◌^◌, ◌≤◌, ◌<◌, ◌≡◌, refl, ℕ, [], ◌∷◌, ◌++◌, ℤ, pos, negsuc, unsigned_abs, ◌<ℤ◌, ◌≤ℤ◌}
use Rattle.std.proofs.Common.{arith, ap, SFits}
use Rattle.std.proofs.lemmas.Int.{ints}
use Rattle.std.specs.Int.{w64}
use Rattle.rules.specs.Book.{bits64}
use Rattle.rules.specs.Report.{decimal, signed_decimal}

pub signed_up : (z : ℤ) → pos 0 ≤ℤ z → decimal (unsigned_abs z) ≡ signed_decimal z
unfolding signed_decimal
signed_up (pos n) h = refl
signed_up (negsuc n) h = absurd (omega (arith, ints))

pub signed_down : (z : ℤ) → z <ℤ pos 0 → (45 ∷ []) ++ decimal (unsigned_abs z) ≡ signed_decimal z
unfolding signed_decimal
signed_down (pos n) h = absurd (omega (arith, ints))
signed_down (negsuc n) h = refl

pub bits_up : (z : ℤ) → SFits w64 z → bits64 z < 2 ^ 63 → decimal (bits64 z) ≡ signed_decimal z
unfolding signed_decimal
bits_up (pos n) f h = refl
bits_up (negsuc n) f h = absurd (omega (arith, f.sfits))

pub bits_down : (z : ℤ) → SFits w64 z → 2 ^ 63 ≤ bits64 z → (45 ∷ []) ++ decimal (18446744073709551615 - bits64 z + 1) ≡ signed_decimal z
unfolding signed_decimal
bits_down (pos n) f h = absurd (omega (arith, f.sfits))
bits_down (negsuc n) f h =
    let e : 18446744073709551615 - bits64 (negsuc n) + 1 ≡ suc n = omega (arith, f.sfits) in
    ap (λ (m : ℕ). 45 ∷ decimal m) e
