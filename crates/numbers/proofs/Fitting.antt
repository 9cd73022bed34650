-- That products, shares and signed differences fit 64 bits, and that the code's t * d / b is the whole quotient.
use Prim.Native.Nat.{ℕ, zero, suc, ◌+◌, ◌*◌, ◌-◌, ◌/◌, ◌%◌, ◌≤◌, ◌<◌, ◌^◌}
use native.Mathlib.Nat.{add-mul, mul_right_comm, mul-le-mul, mul-le-mul_left, le_trans, div-mul-le_self, div-add-mod', mod-lt, mul-add-div_right}
use native.Mathlib.Omega.{arith}
use mathlib.Core.Path.{◌≡◌, refl, sym, ◌∙◌, ap}
use mathlib.Core.Bool.{Bool, true, false, cond}
use lib.IntN.{pos, negsuc, sub_ℕ, ◌-ℤ◌}
use lib.Signed.{mag}
use lib.Dec.{ltb}
use borrow.Author.Tests.{le-ltb}
use mir.Syntax.{w64}
use mir.Val.{SFits, to_z}
use mir.ValLaws.{to_z_pos}

-- the quotient's whole part
pub whole_most : (t d b : ℕ) → d ≤ b → t / b * d ≤ t
whole_most t d b h = le_trans (mul-le-mul_left (t / b) h) (div-mul-le_self t b)

-- the two parts are the quotient
pub share_is : (t d b : ℕ) → 0 < b → t / b * d + t % b * d / b ≡ t * d / b
share_is t d b h =
    let e : t / b * d * b + t % b * d ≡ t * d =
    ap (λ (n : ℕ). n + t % b * d) (mul_right_comm (t / b) d b) ∙ sym (add-mul (t / b * b) (t % b) d) ∙ ap (λ (n : ℕ). n * d) (div-add-mod' t b) in
    sym (mul-add-div_right h (t / b * d) (t % b * d)) ∙ ap (λ (n : ℕ). n / b) e

-- the remainder's part
pub rest_most : (t d b : ℕ) → 0 < b → b < 2 ^ 34 → d < 2 ^ 28 → t % b * d ≤ 2 ^ 62
rest_most t d b h k l = mul-le-mul {n₁ = t % b} {m₁ = d} {n₂ = 2 ^ 34} {m₂ = 2 ^ 28} (omega (arith, mod-lt t h)) (omega arith)

-- signed differences
minus_is : (p m : ℕ) → pos p -ℤ pos m ≡ sub_ℕ p m
minus_is p zero = rw (le-ltb p 0 (omega arith)) (ap pos (omega arith))
minus_is p (suc m) = refl

pub difference_is : (p m : ℕ) → p < 2 ^ 63 → m < 2 ^ 63 → to_z w64 p -ℤ to_z w64 m ≡ sub_ℕ p m
difference_is p m h k = rw (to_z_pos w64 p h, to_z_pos w64 m k) (minus_is p m)

mag_by : (p m : ℕ) → p < 2 ^ 63 → m < 2 ^ 63 → (t : Bool) → ltb p m ≡ t → mag (cond t (negsuc (m - suc p)) (pos (p - m))) < 2 ^ 63
mag_by p m h k true e = omega arith
mag_by p m h k false e = omega arith

pub difference_fits : (p m : ℕ) → p < 2 ^ 63 → m < 2 ^ 63 → SFits w64 (sub_ℕ p m)
difference_fits p m h k = record { sfits = mag_by p m h k (ltb p m) refl }
