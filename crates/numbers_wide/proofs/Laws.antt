-- Normalised divisors, one digit of a quotient by estimate and correction, and the product by digits.
use Prim.Native.Nat.{ℕ, zero, suc, ◌+◌, ◌*◌, ◌-◌, ◌/◌, ◌%◌, ◌≤◌, ◌<◌, ◌^◌}
use native.Mathlib.Nat.{mul-le-mul, mul-le-mul_left, mul-le-mul_right, mul-lt-mul_of_pos_right, suc-mul, div-add-mod', mod-lt, div-lt_iff_lt-mul}
use native.Mathlib.Omega.{arith}
use mathlib.Core.Path.{◌≡◌, ◌∙◌, ap}
use lib.Count.{count_leading_zeros, leading_top}
use lib.Pow.{pow-add, pow_pos}
use Rattle.numbers_wide.specs.Quotients.{Quotient, next_digit}

-- b and c shifted by s: c has its highest bit set, b is at most c, and no bit is lost
pub record Normal (b c s : ℕ) : Type 0 where
  pub few : s < 64
  pub high : 2 ^ 63 ≤ c * 2 ^ s
  pub fits : c * 2 ^ s < 2 ^ 64
  pub most : b * 2 ^ s ≤ c * 2 ^ s

pub normal : (b c : ℕ) → 0 < c → c < 2 ^ 64 → b ≤ c → Normal b c (count_leading_zeros 64 c)
normal b c h f l =
    let s = count_leading_zeros 64 c in
    let (j, e, low, high) = leading_top 64 c h f in
    let p : 63 ≡ j + s = omega arith in
    let q : 64 ≡ suc j + s = omega arith in
    let p' : 2 ^ 63 ≡ 2 ^ j * 2 ^ s = ap (λ (n : ℕ). 2 ^ n) p ∙ pow-add 2 j s in
    let q' : 2 ^ 64 ≡ 2 ^ suc j * 2 ^ s = ap (λ (n : ℕ). 2 ^ n) q ∙ pow-add 2 (suc j) s in
    record {
      few = omega arith;
      high = omega (arith, mul-le-mul_right (2 ^ s) low);
      fits = omega (arith, mul-lt-mul_of_pos_right high (pow_pos s));
      most = mul-le-mul_right (2 ^ s) l;
    }

-- An estimate e of n / c: n and t more are e * c and u more
pub record Estimate (n c e t u : ℕ) : Type 0 where
  pub whole : n + t ≡ e * c + u
  pub rest : u < c
  pub taken : t < 2 ^ 64

-- it is the quotient, or 1 or 2 more
pub estimate_is : {n c e t u : ℕ} → Estimate n c e t u → t ≤ u → Quotient n c e (u - t)
estimate_is k h = record { whole = omega (arith, k); below = omega (arith, k) }

pub one_less : {n c e t u : ℕ} → Estimate n c e t u → u < t → t - u ≤ c → (1 ≤ e) × Quotient n c (e - 1) (c - (t - u))
one_less {e = zero} k h l = absurd (omega (arith, k))
one_less {c = c} {e = suc e} k h l =
    let f : suc e - 1 ≡ e = omega arith in
    (omega arith, record { whole = rw f (omega (arith, k, suc-mul e c)); below = omega (arith, k) })

pub two_less : {n c e t u : ℕ} → 2 ^ 63 ≤ c → Estimate n c e t u → c < t - u → (2 ≤ e) × Quotient n c (e - 2) (c - (t - u - c))
two_less {e = zero} b k h = absurd (omega (arith, k))
two_less {e = suc zero} b k h = absurd (omega (arith, k))
two_less {c = c} {e = suc (suc e)} b k h =
    let f : suc (suc e) - 2 ≡ e = omega arith in
    (omega arith, record { whole = rw f (omega (arith, k, suc-mul (suc e) c, suc-mul e c)); below = omega (arith, k) })

-- the estimate by the high digit of c
abbrev pub Estimated : ℕ → ℕ → ℕ → Type 0
Estimated h d c =
    let top = c / 2 ^ 32 in Estimate (h * 2 ^ 32 + d) c (h / top) (h / top * (c % 2 ^ 32)) (h % top * 2 ^ 32 + d)

pub estimate : (h d c : ℕ) → 2 ^ 63 ≤ c → c < 2 ^ 64 → h < c → d < 2 ^ 32 → Estimated h d c
estimate h d c normalised fits below digit =
    let top = c / 2 ^ 32 in
    let some : 0 < top = omega arith in
    let most : h / top < 2 ^ 32 + 2 = (div-lt_iff_lt-mul some).1 (omega arith) in
    record {
      whole = omega (arith, div-add-mod' h top, ap (λ (n : ℕ). h / top * n) (div-add-mod' c (2 ^ 32)));
      rest = omega (arith, mod-lt h some);
      taken = omega (arith, mul-le-mul {n₁ = h / top} {m₁ = c % 2 ^ 32} {n₂ = 2 ^ 32 + 1} {m₂ = 2 ^ 32 - 1} (omega arith) (omega arith));
    }

-- a product of two words fits 128 bits
pub product_fits : (a b : ℕ) → a < 2 ^ 64 → b < 2 ^ 64 → a * b < 2 ^ 128
product_fits a b h l = omega (arith, mul-le-mul {n₁ = a} {m₁ = b} {n₂ = 2 ^ 64 - 1} {m₂ = 2 ^ 64 - 1} (omega arith) (omega arith))

-- the high word of a product by at most c is below c
pub high_below : (a b c : ℕ) → a < 2 ^ 64 → b ≤ c → 0 < c → a * b / 2 ^ 64 < c
high_below a b c f k p =
    (div-lt_iff_lt-mul {k = 2 ^ 64} {x = a * b} {y = c} (omega arith)).1 (omega (arith, mul-le-mul_left a k, mul-lt-mul_of_pos_right f p))

-- a number divided by c, from its high word and its two low digits
pub by_digits : (p c m l : ℕ) {q r q' r' : ℕ} → m ≡ p / 2 ^ 32 % 2 ^ 32 → l ≡ p % 2 ^ 32 → Quotient (p / 2 ^ 64 * 2 ^ 32 + m) c q r
    → Quotient (r * 2 ^ 32 + l) c q' r' → Quotient p c (q * 2 ^ 32 + q') r'
by_digits p c m l e f k n =
    let g : (p / 2 ^ 64 * 2 ^ 32 + m) * 2 ^ 32 + l ≡ p = omega arith in
    rw g at (next_digit (2 ^ 32) l k n)
