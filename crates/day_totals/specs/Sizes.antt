-- How large totals are, and what is worked out from them on the way to the adjusted totals: all of it fits 64 bits.
use Prim.Native.Nat.{ℕ, zero, suc, ◌+◌, ◌*◌, ◌-◌, ◌^◌, ◌<◌, ◌≤◌}
use native.Mathlib.Omega.{arith}
use Rattle.std.specs.Prelude.{◌≡◌, List, Bool, true, false, ℤ, pos, negsuc, ◌+ℤ◌, ◌-ℤ◌}
use Rattle.std.proofs.Common.{◌∙◌, ap, SFits, to_z, of_z, to_z-of_z}
use Rattle.std.specs.Int.Signed.{mag}
use Rattle.std.specs.Int.{w64}
use Rattle.rules.specs.Fold.{at_z}
use Rattle.rules.specs.Totals.{least_sum, carried, adjusted}
use Rattle.laws.specs.Ints.{pl, mi, apart, add_read, sub_read, pl_add, mi_add}
use Rattle.day_totals.specs.Parts.{least_of, need, least_read, is_kept, Case, case_of, carried_first, carried_step}

-- the size of a number without its sign
abbrev pub size : ℤ → ℕ
size z = pl z + mi z

-- a bound on a total: five times 64 lines' payments at the limits of quantity and price
abbrev pub total_most : ℕ
total_most = 640000000000000000

pub record Bounded (t : List ℤ) : Type 0 where
  pub most : (s : ℕ) → s < 5 → size (at_z t s) ≤ total_most

-- a size below 2^63 fits
pub mag_size : (z : ℤ) → size z < 2 ^ 63 → mag z < 2 ^ 63
mag_size (pos n) h = omega arith
mag_size (negsuc n) h = omega arith

pub size_fits : (z : ℤ) → size z < 2 ^ 63 → SFits w64 z
size_fits z h = record { sfits = mag_size z h }

-- a signed local holds bits: what is read back from them is the number
pub read_back : {x y : ℤ} → x ≡ y → SFits w64 y → to_z w64 (of_z w64 x) ≡ y
read_back e f = ap (λ z. to_z w64 (of_z w64 z)) e ∙ to_z-of_z f

pub size_add : (x y : ℤ) → size (x +ℤ y) ≤ size x + size y
size_add x y = omega (arith, pl_add x y, mi_add x y)

pub size_sub : (x y : ℤ) → size (x -ℤ y) ≤ size x + size y
size_sub x y = omega (arith, sub_read x y, apart (x -ℤ y))

module _ (t : List ℤ) (h : Bounded t) where
  need_most : (s m : ℕ) → s + m ≤ 5 → need t s m ≤ m * total_most
  unfolding need
  need_most s zero l = omega arith
  need_most s (suc m) l =
      let r = need_most (suc s) m (omega arith) in
      let b = h.most s (omega arith) in
      omega arith

  -- the least of the sums of m + 1 schedules
  pub least_size : (s m : ℕ) → s + m < 5 → size (least_sum t s m) ≤ suc m * total_most
  least_size s m l =
      let r = least_read t s m in
      let n = need_most s (suc m) (omega arith) in
      let b = h.most s (omega arith) in
      let a = apart (least_sum t s m) in
      let u = r.above in
      let v = r.below in
      omega arith

  carried_by : (e a : ℤ) (s : ℕ) (b : Bool) → s < 5 → Case b t e s a → size (e +ℤ (at_z t s -ℤ a)) ≤ size e + total_most
  carried_by e a s true l c =
      let x = at_z t s in
      let y = x -ℤ a in
      let own : size y ≤ size x = omega (arith, c.above, c.below, sub_read x a, apart x, apart y) in
      omega (arith, size_add e y, h.most s l, own)
  carried_by e a s false l c =
      let x = at_z t s in
      let y = x -ℤ a in
      let z = e +ℤ y in
      omega (arith, c.above, c.below, c.negative, sub_read x a, add_read e y, apart x, apart z, h.most s l)

  -- what is left after s schedules
  pub carried_size : (s : ℕ) → s ≤ 5 → size (carried t s) ≤ s * total_most
  carried_size zero l = rw (carried_first t) (omega arith)
  carried_size (suc s) l =
      let r = carried_size s (omega arith) in
      let c = carried_by (carried t s) (adjusted t s) s (is_kept t s) (omega arith) (case_of t s) in
      rw (carried_step t s) (omega arith)

  adjusted_by : (e a : ℤ) (s : ℕ) (b : Bool) → s < 5 → Case b t e s a → size a ≤ size e + total_most
  adjusted_by e a s true l c = omega (arith, c.above, c.below, h.most s l)
  adjusted_by e a s false l c = omega (arith, c.above, c.below, h.most s l)

  pub adjusted_size : (s : ℕ) → s < 5 → size (adjusted t s) ≤ 5 * total_most
  adjusted_size s l =
      let r = carried_size s (omega arith) in
      let c = adjusted_by (carried t s) (adjusted t s) s (is_kept t s) l (case_of t s) in
      omega arith

  -- each of them, and each sum on the way, fits
  pub total_fits : (s : ℕ) → s < 5 → SFits w64 (at_z t s)
  total_fits s l = size_fits (at_z t s) (omega (arith, h.most s l))

  pub least_fits : (s : ℕ) → s < 5 → SFits w64 (least_of t s)
  least_fits s l = size_fits (least_of t s) (omega (arith, least_size s (4 - s) (omega arith)))

  pub least_sum_fits : (s : ℕ) → s < 4 → SFits w64 (at_z t s +ℤ least_of t (s + 1))
  least_sum_fits s l =
      size_fits (at_z t s +ℤ least_of t (s + 1))
      (omega (arith, size_add (at_z t s) (least_of t (s + 1)), h.most s (omega arith), least_size (s + 1) (4 - (s + 1)) (omega arith)))

  pub carried_fits : (s : ℕ) → s ≤ 5 → SFits w64 (carried t s)
  carried_fits s l = size_fits (carried t s) (omega (arith, carried_size s l))

  pub owed_sum_fits : (s : ℕ) → s < 5 → SFits w64 (at_z t s +ℤ carried t s)
  owed_sum_fits s l =
      size_fits (at_z t s +ℤ carried t s)
      (omega (arith, size_add (at_z t s) (carried t s), h.most s l, carried_size s (omega arith)))

  pub adjusted_fits : (s : ℕ) → s < 5 → SFits w64 (adjusted t s)
  adjusted_fits s l = size_fits (adjusted t s) (omega (arith, adjusted_size s l))

  pub rest_fits : (s : ℕ) → s < 5 → SFits w64 (at_z t s -ℤ adjusted t s)
  rest_fits s l =
      size_fits (at_z t s -ℤ adjusted t s)
      (omega (arith, size_sub (at_z t s) (adjusted t s), h.most s l, adjusted_size s l))
