-- A bit of a word by a shift.
use Prim.Native.Nat.{ℕ, zero, suc, ◌/◌, ◌%◌, ◌^◌}
use native.Mathlib.Nat.{div-one, div-div-eq-div-mul, pow-succ'}
use mathlib.Core.Path.{◌≡◌, sym, ◌∙◌, ap}
use Rattle.cutter.specs.Arrays.{bit_at}

pub bit_shift : (x k : ℕ) → x / 2 ^ k % 2 ≡ bit_at x k
unfolding bit_at
bit_shift x zero = ap (λ (y : ℕ). y % 2) (div-one x)
bit_shift x (suc k) = ap (λ (y : ℕ). y % 2) (ap (λ (p : ℕ). x / p) (pow-succ' 2 k) ∙ sym (div-div-eq-div-mul x 2 (2 ^ k))) ∙ bit_shift (x / 2) k
