-- A price turned by the side: a withdrawal's is taken from the greatest word, so that both sides are compared as injections.
use Rattle.std.specs.Prelude.{ℕ, ◌-◌, ◌≤◌, min, max, ◌≡◌, refl, Bool, true, false, cond, ltb, eqb}
use Rattle.std.proofs.Common.{arith, ap, ◌∙◌, ltb-true, ltb-false, lt-ltb, le-ltb}
use Rattle.rules.specs.Quantities.{beyond}
use Rattle.rules.specs.Payments.{beyond_by, milder}
use Rattle.rules.specs.Refusals.{out_of_order}

unfoldable pub turned : ℕ → ℕ → ℕ
turned sd p = cond (eqb sd 1) (4294967295 - p) p

-- compared: beyond the market price, out of order
less_by : (p m : ℕ) → m ≤ 4294967295 → (t : Bool) → ltb p m ≡ t → ltb (4294967295 - m) (4294967295 - p) ≡ t
less_by p m h true e = lt-ltb (4294967295 - m) (4294967295 - p) (omega (arith, ltb-true p m e))
less_by p m h false e = le-ltb (4294967295 - m) (4294967295 - p) (omega (arith, ltb-false p m e))

pub turned_beyond : (sd p m : ℕ) → m ≤ 4294967295 → ltb (turned sd m) (turned sd p) ≡ beyond sd p m
unfolding turned beyond
turned_beyond sd p m h = by (eqb sd 1)
  where
    by : (t : Bool) → ltb (cond t (4294967295 - m) m) (cond t (4294967295 - p) p) ≡ cond t (ltb p m) (ltb m p)
    by true = less_by p m h (ltb p m) refl
    by false = refl

pub turned_order : (sd p q : ℕ) → q ≤ 4294967295 → ltb (turned sd q) (turned sd p) ≡ out_of_order sd p q
unfolding beyond out_of_order
turned_order sd p q h = turned_beyond sd p q h

-- subtracted: how far beyond the market price; the lesser of two
pub turned_apart : (sd p m : ℕ) → m ≤ 4294967295 → turned sd p - turned sd m ≡ beyond_by sd p m
unfolding turned beyond_by
turned_apart sd p m h = by (eqb sd 1)
  where
    by : (t : Bool) → cond t (4294967295 - p) p - cond t (4294967295 - m) m ≡ cond t (m - p) (p - m)
    by true = omega arith
    by false = refl

turned_milder : (sd p q : ℕ) → min (turned sd p) (turned sd q) ≡ turned sd (milder sd p q)
unfolding turned milder
turned_milder sd p q = by (eqb sd 1)
  where
    by : (t : Bool) → min (cond t (4294967295 - p) p) (cond t (4294967295 - q) q) ≡ cond t (4294967295 - cond t (max p q) (min p q)) (cond t (max p q) (min p q))
    by true = omega arith
    by false = refl

pub turned_revised : (sd p q m : ℕ) → m ≤ 4294967295 → min (turned sd p) (turned sd q) - turned sd m ≡ beyond_by sd (milder sd p q) m
turned_revised sd p q m h = ap (λ (n : ℕ). n - turned sd m) (turned_milder sd p q) ∙ turned_apart sd (milder sd p q) m h
