-- Laws of decimal numbers (`rules`, Report): how many digits, and the last one of them.
use Rattle.std.specs.Prelude.{ℕ, zero, suc, ◌+◌, ◌/◌, ◌%◌, ◌^◌, ◌≤◌, ◌<◌, ◌≡◌, List, [], ◌∷◌, ◌++◌, length, ℤ, pos, negsuc}
use Rattle.std.proofs.Common.{pow-suc, arith, sym, ◌∙◌, ap, length-append, lt-ltb, le-ltb}
use Rattle.std.proofs.Math.Decide.{dec_lt}
use Rattle.rules.specs.Report.{digits, decimal, signed_decimal}

pub digits_one : (m v : ℕ) → v < 10 → digits (suc m) v ≡ (48 + v) ∷ []
unfolding digits
digits_one m v h = rw (lt-ltb v 10 h)

pub digits_last : (m v : ℕ) → 10 ≤ v → digits (suc m) v ≡ digits m (v / 10) ++ ((48 + v % 10) ∷ [])
unfolding digits
digits_last m v h = rw (le-ltb v 10 h)

digits_most : (m v : ℕ) → length (digits m v) ≤ m
unfolding digits
digits_most zero v = omega arith
digits_most (suc m) v =
    let r = digits_most m (v / 10) in
    elim (dec_lt v 10) [
      | yes l ↦ rw (lt-ltb v 10 l) (omega arith)
      | no g ↦
          let h : 10 ≤ v = omega arith in
          rw (le-ltb v 10 h, length-append) (omega arith)
    ]

-- one place more than a number needs changes nothing
digits_enough : (m v : ℕ) → v < 10 ^ suc m → digits (suc m) v ≡ digits (suc (suc m)) v
digits_enough zero v h = digits_one zero v h ∙ sym (digits_one (suc zero) v h)
digits_enough (suc m) v h =
    let r = digits_enough m (v / 10) in
    elim (dec_lt v 10) [
      | yes l ↦ digits_one (suc m) v l ∙ sym (digits_one (suc (suc m)) v l)
      | no g ↦
          let k : 10 ≤ v = omega arith in
          let b : v / 10 < 10 ^ suc m = omega (arith, pow-suc 10 (suc m)) in
          rw (digits_last (suc m) v k, digits_last (suc (suc m)) v k, r b)
    ]

-- a 64-bit number
pub decimal_one : (v : ℕ) → v < 10 → decimal v ≡ (48 + v) ∷ []
unfolding decimal
decimal_one v h = digits_one 19 v h

pub decimal_last : (v : ℕ) → v < 2 ^ 64 → 10 ≤ v → decimal v ≡ decimal (v / 10) ++ ((48 + v % 10) ∷ [])
unfolding decimal
decimal_last v h k =
    digits_last 19 v k ∙ ap (λ (t : List ℕ). t ++ ((48 + v % 10) ∷ [])) (digits_enough 18 (v / 10) (omega arith))

pub decimal_most : (v : ℕ) → length (decimal v) ≤ 20
unfolding decimal
decimal_most v = digits_most 20 v

pub signed_most : (z : ℤ) → length (signed_decimal z) ≤ 21
unfolding signed_decimal
signed_most (pos n) = omega (arith, decimal_most n)
signed_most (negsuc n) = omega (arith, decimal_most (suc n))

-- all digits but the last
pub decimal_tenth : (v : ℕ) → v < 2 ^ 64 → length (decimal (v / 10)) ≤ 19
unfolding decimal
decimal_tenth v h = rw (← digits_enough 18 (v / 10) (omega arith)) (digits_most 19 (v / 10))
