-- Laws that let `omega` read ℤ: a signed number is what it has above 0 (`pl`) and below 0 (`mi`), of which one is 0.
-- A goal in ℤ is proved by `eq_z`, `le_read` or the like, with the reads of its parts in `omega`'s list.
use Rattle.std.specs.Prelude.{ℕ, zero, suc, ◌+◌, ◌*◌, ◌-◌, ◌≤◌, ◌<◌, min, max, ◌≡◌, refl, ℤ, pos, negsuc, neg_ℤ, ◌+ℤ◌, ◌-ℤ◌, ◌*ℤ◌, ltb}
use Rattle.std.proofs.Common.{zero-mul, arith, sym, ◌∙◌, ap, ltb-true, ltb-false, leb-true, leb-false, le-ltb, le-leb}
use mathlib.Core.Bool.{Bool, true, false, cond}
use Rattle.std.proofs.Math.IntN.{sub_ℕ}
use Rattle.std.specs.Int.Signed.{lt_z, le_z, non_neg}
use Rattle.rules.specs.Payments.{max_z}
use Rattle.rules.specs.Totals.{min_z}

abbrev pub pl : ℤ → ℕ
pl (pos n) = n
pl (negsuc n) = 0

abbrev pub mi : ℤ → ℕ
mi (pos n) = 0
mi (negsuc n) = suc n

pub apart : (z : ℤ) → min (pl z) (mi z) ≡ 0
apart (pos n) = omega arith
apart (negsuc n) = omega arith

pub eq_z : (x y : ℤ) → pl x + mi y ≡ pl y + mi x → x ≡ y
eq_z (pos a) (pos b) e = ap pos (omega arith)
eq_z (pos a) (negsuc b) e = absurd (omega arith)
eq_z (negsuc a) (pos b) e = absurd (omega arith)
eq_z (negsuc a) (negsuc b) e = ap negsuc (omega arith)

-- the difference of two naturals
pl_subℕ_by : (a b : ℕ) (t : Bool) → ltb a b ≡ t → pl (cond t (negsuc (b - suc a)) (pos (a - b))) ≡ a - b
pl_subℕ_by a b true e = omega (arith, ltb-true a b e)
pl_subℕ_by a b false e = refl

pub pl_subℕ : (a b : ℕ) → pl (sub_ℕ a b) ≡ a - b
pl_subℕ a b = pl_subℕ_by a b (ltb a b) refl

mi_subℕ_by : (a b : ℕ) (t : Bool) → ltb a b ≡ t → mi (cond t (negsuc (b - suc a)) (pos (a - b))) ≡ b - a
mi_subℕ_by a b true e = omega (arith, ltb-true a b e)
mi_subℕ_by a b false e = omega (arith, ltb-false a b e)

pub mi_subℕ : (a b : ℕ) → mi (sub_ℕ a b) ≡ b - a
mi_subℕ a b = mi_subℕ_by a b (ltb a b) refl

-- a number is the difference of its two parts
pub parts : (z : ℤ) → z ≡ sub_ℕ (pl z) (mi z)
parts z = eq_z z (sub_ℕ (pl z) (mi z)) (omega (arith, pl_subℕ (pl z) (mi z), mi_subℕ (pl z) (mi z)))

-- the operators
pub pl_neg : (x : ℤ) → pl (neg_ℤ x) ≡ mi x
pl_neg (pos zero) = refl
pl_neg (pos (suc n)) = refl
pl_neg (negsuc n) = refl

pub mi_neg : (x : ℤ) → mi (neg_ℤ x) ≡ pl x
mi_neg (pos zero) = refl
mi_neg (pos (suc n)) = refl
mi_neg (negsuc n) = refl

pub pl_add : (x y : ℤ) → pl (x +ℤ y) ≡ (pl x + pl y) - (mi x + mi y)
pl_add (pos a) (pos b) = omega arith
pl_add (pos a) (negsuc b) = omega (arith, pl_subℕ a (suc b))
pl_add (negsuc a) (pos b) = omega (arith, pl_subℕ b (suc a))
pl_add (negsuc a) (negsuc b) = omega arith

pub mi_add : (x y : ℤ) → mi (x +ℤ y) ≡ (mi x + mi y) - (pl x + pl y)
mi_add (pos a) (pos b) = omega arith
mi_add (pos a) (negsuc b) = omega (arith, mi_subℕ a (suc b))
mi_add (negsuc a) (pos b) = omega (arith, mi_subℕ b (suc a))
mi_add (negsuc a) (negsuc b) = omega arith

-- the same as one equation without a difference
pub add_read : (x y : ℤ) → pl (x +ℤ y) + (mi x + mi y) ≡ pl x + pl y + mi (x +ℤ y)
add_read x y = omega (arith, pl_add x y, mi_add x y)

pub sub_read : (x y : ℤ) → pl (x -ℤ y) + (mi x + pl y) ≡ pl x + mi y + mi (x -ℤ y)
sub_read x y = omega (arith, add_read x (neg_ℤ y), pl_neg y, mi_neg y)

pub pl_scale : (x : ℤ) (n : ℕ) → pl (x *ℤ pos n) ≡ pl x * n
pl_scale (pos a) n = refl
pl_scale (negsuc a) n = pl_neg (pos (suc a * n)) ∙ sym (zero-mul n)

pub mi_scale : (x : ℤ) (n : ℕ) → mi (x *ℤ pos n) ≡ mi x * n
mi_scale (pos a) n = sym (zero-mul n)
mi_scale (negsuc a) n = mi_neg (pos (suc a * n))

-- orders and their tests
pub le_z_yes : (x y : ℤ) → le_z x y ≡ true → pl x + mi y ≤ pl y + mi x
le_z_yes (pos a) (pos b) e = omega (arith, leb-true a b e)
le_z_yes (pos a) (negsuc b) e = absurd (mathlib.Core.Bool.false≢true e)
le_z_yes (negsuc a) (pos b) e = omega arith
le_z_yes (negsuc a) (negsuc b) e = omega (arith, leb-true b a e)

pub le_z_no : (x y : ℤ) → le_z x y ≡ false → pl y + mi x < pl x + mi y
le_z_no (pos a) (pos b) e = omega (arith, leb-false a b e)
le_z_no (pos a) (negsuc b) e = omega arith
le_z_no (negsuc a) (pos b) e = absurd (mathlib.Core.Bool.true≢false e)
le_z_no (negsuc a) (negsuc b) e = omega (arith, leb-false b a e)

pub lt_z_yes : (x y : ℤ) → lt_z x y ≡ true → pl x + mi y < pl y + mi x
lt_z_yes (pos a) (pos b) e = omega (arith, ltb-true a b e)
lt_z_yes (pos a) (negsuc b) e = absurd (mathlib.Core.Bool.false≢true e)
lt_z_yes (negsuc a) (pos b) e = omega arith
lt_z_yes (negsuc a) (negsuc b) e = omega (arith, ltb-true b a e)

-- the tests from the facts
pub le_le_z : (x y : ℤ) → pl x + mi y ≤ pl y + mi x → le_z x y ≡ true
le_le_z (pos a) (pos b) h = le-leb a b (omega arith)
le_le_z (pos a) (negsuc b) h = absurd (omega arith)
le_le_z (negsuc a) (pos b) h = refl
le_le_z (negsuc a) (negsuc b) h = le-leb b a (omega arith)

pub le_lt_z : (x y : ℤ) → pl y + mi x ≤ pl x + mi y → lt_z x y ≡ false
le_lt_z (pos a) (pos b) h = le-ltb a b (omega arith)
le_lt_z (pos a) (negsuc b) h = refl
le_lt_z (negsuc a) (pos b) h = absurd (omega arith)
le_lt_z (negsuc a) (negsuc b) h = le-ltb b a (omega arith)

-- at least 0
pub non_neg_yes : (x : ℤ) → non_neg x ≡ true → mi x ≡ 0
non_neg_yes (pos a) e = refl
non_neg_yes (negsuc a) e = absurd (mathlib.Core.Bool.false≢true e)

pub non_neg_no : (x : ℤ) → non_neg x ≡ false → 0 < mi x
non_neg_no (pos a) e = absurd (mathlib.Core.Bool.true≢false e)
non_neg_no (negsuc a) e = omega arith

-- the greater and the lesser of two
max_by : (x y : ℤ) (t : Bool) → le_z x y ≡ t → (pl (cond t y x) ≡ max (pl x) (pl y)) × (mi (cond t y x) ≡ min (mi x) (mi y))
max_by x y true e = (omega (arith, le_z_yes x y e, apart x, apart y), omega (arith, le_z_yes x y e, apart x, apart y))
max_by x y false e = (omega (arith, le_z_no x y e, apart x, apart y), omega (arith, le_z_no x y e, apart x, apart y))

pub pl_max : (x y : ℤ) → pl (max_z x y) ≡ max (pl x) (pl y)
pl_max x y = (max_by x y (le_z x y) refl).0

pub mi_max : (x y : ℤ) → mi (max_z x y) ≡ min (mi x) (mi y)
mi_max x y = (max_by x y (le_z x y) refl).1

min_by : (x y : ℤ) (t : Bool) → le_z x y ≡ t → (pl (cond t x y) ≡ min (pl x) (pl y)) × (mi (cond t x y) ≡ max (mi x) (mi y))
min_by x y true e = (omega (arith, le_z_yes x y e, apart x, apart y), omega (arith, le_z_yes x y e, apart x, apart y))
min_by x y false e = (omega (arith, le_z_no x y e, apart x, apart y), omega (arith, le_z_no x y e, apart x, apart y))

pub pl_min : (x y : ℤ) → pl (min_z x y) ≡ min (pl x) (pl y)
pl_min x y = (min_by x y (le_z x y) refl).0

pub mi_min : (x y : ℤ) → mi (min_z x y) ≡ max (mi x) (mi y)
mi_min x y = (min_by x y (le_z x y) refl).1

-- what a signed sum's parts come to, from what is paid and what is taken back
pub record Split (z : ℤ) (p m : ℕ) : Type 0 where
  pub read : pl z + m ≡ p + mi z

pub split_none : Split (pos 0) 0 0
split_none = record { read = omega arith }

pub split_add : {x y : ℤ} {p q m n : ℕ} → Split x p m → Split y q n → Split (x +ℤ y) (p + q) (m + n)
split_add {x} {y} a b = record { read = omega (arith, add_read x y, a.read, b.read) }

pub split_own : (z : ℤ) → Split z (pl z) (mi z)
split_own z = record { read = refl }

-- a split gives the number
pub split_is : {z : ℤ} {p m : ℕ} → Split z p m → z ≡ sub_ℕ p m
split_is {z} {p} {m} s = eq_z z (sub_ℕ p m) (omega (arith, pl_subℕ p m, mi_subℕ p m, s.read))
