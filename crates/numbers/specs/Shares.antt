-- A share t * d / b of t.
use Rattle.std.specs.Prelude.{ℕ, ◌*◌, ◌/◌, ◌≤◌}
use Rattle.std.proofs.Common.{mul_comm, mul-le-mul_left, le_trans, le_of_eq}
use Rattle.std.proofs.Math.Nat.{div-le_of_le-mul}

-- at most the whole
pub share_most : (t d b : ℕ) → d ≤ b → t * d / b ≤ t
share_most t d b h = div-le_of_le-mul b (le_trans (mul-le-mul_left t h) (le_of_eq (mul_comm t b)))
