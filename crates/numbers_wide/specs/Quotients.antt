-- Quotient and remainder: what they are known by, digit by digit, and of multiples.
use Rattle.std.specs.Prelude.{ℕ, ◌+◌, ◌*◌, ◌/◌, ◌%◌, ◌<◌, ◌≡◌}
use Rattle.std.proofs.Common.{mod-lt, div-add-mod', div-lt_iff_lt-mul, mod-eq_of_lt, mul-div_cancel, mul-lt-mul_of_pos_right, arith, sym, ◌∙◌, ap}
use Rattle.std.proofs.Math.Nat.{mul-add-div_right, mul-add-mod_self_right, div-eq_of_lt}

-- n divided by c is q, and r is left
pub record Quotient (n c q r : ℕ) : Type 0 where
  pub whole : n ≡ q * c + r
  pub below : r < c

-- quotient and remainder of any n, so of any product a * b, by any c above 0
pub of_division : (n c : ℕ) → 0 < c → Quotient n c (n / c) (n % c)
of_division n c h = record { whole = sym (div-add-mod' n c); below = mod-lt n h }

-- there is one quotient and one remainder
pub quotient_is : {n c q r : ℕ} → Quotient n c q r → q ≡ n / c
quotient_is {n} {c} {q} {r} k =
    let h : 0 < c = omega (arith, k.below) in
    let e : (q * c + r) / c ≡ q + r / c = mul-add-div_right h q r in
    omega (arith, e, ap (λ (m : ℕ). m / c) k.whole, div-eq_of_lt k.below)

pub remainder_is : {n c q r : ℕ} → Quotient n c q r → r ≡ n % c
remainder_is {n} {c} {q} {r} k =
    sym (ap (λ (m : ℕ). m % c) k.whole ∙ mul-add-mod_self_right q c r ∙ mod-eq_of_lt k.below)

-- a quotient is below what times c is above n
pub quotient_below : {n c q r : ℕ} (k : ℕ) → Quotient n c q r → n < k * c → q < k
quotient_below {n} {c} k t h = rw (quotient_is t) ((div-lt_iff_lt-mul {k = c} {x = n} {y = k} (omega (arith, t.below))).1 h)

-- one digit l more, in radix w: the remainder so far is taken along
pub next_digit : (w l : ℕ) {h c q r q' r' : ℕ} → Quotient h c q r → Quotient (r * w + l) c q' r' → Quotient (h * w + l) c (q * w + q') r'
next_digit w l k m =
    record { whole = omega (arith, ap (λ (n : ℕ). n * w) k.whole, m.whole); below = m.below }

-- multiples by k of both have the same quotient, and the remainder times k
pub multiples : (n c k : ℕ) → 0 < c → 0 < k → Quotient (n * k) (c * k) (n / c) (n % c * k)
multiples n c k h l =
    record { whole = omega (arith, ap (λ (m : ℕ). m * k) (div-add-mod' n c)); below = mul-lt-mul_of_pos_right (mod-lt n h) l }

-- so b and c can be multiplied by k in a * b / c
module _ {n b' c' q r : ℕ} (a b c k : ℕ) (some : 0 < c) (times : 0 < k) (t : Quotient n c' q r) (product : n ≡ a * b') (b-is : b' ≡ b * k) (c-is : c' ≡ c * k) where
  pub scaled : (q ≡ a * b / c) × (r / k ≡ a * b % c)
  scaled =
      let m : Quotient (a * b * k) (c * k) (a * b / c) (a * b % c * k) =
      record {
        whole = omega (arith, ap (λ (x : ℕ). x * k) (div-add-mod' (a * b) c));
        below = mul-lt-mul_of_pos_right (mod-lt (a * b) some) times;
      }
      in
      let e : n ≡ a * b * k = omega (arith, ap (λ (x : ℕ). a * x) b-is) in
      let u : Quotient (a * b * k) (c * k) q r = rw (← e, ← c-is) t in (
        quotient_is u ∙ sym (quotient_is m),
        ap (λ (x : ℕ). x / k) (remainder_is u ∙ sym (remainder_is m)) ∙ mul-div_cancel (a * b % c) times,
      )
