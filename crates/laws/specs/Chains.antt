-- AGINO and MSIQ worked out from the last schedule back, one schedule at a time.
use Rattle.std.specs.Prelude.{ℕ, zero, suc, ◌+◌, ◌-◌, ◌≤◌, ◌<◌, min, List, cond}
use Rattle.std.proofs.Common.{arith}
use mathlib.Core.Path.{◌≡◌, subst}
use Rattle.rules.specs.Fold.{at}
use Rattle.rules.specs.Quantities.{agino, least_from, last_agino, beyond, msiq_from}

-- the least of the operating quantities from s on, from that of the next schedule
pub least_step : (o : List ℕ) (s m : ℕ) {l r : ℕ} → l ≡ least_from o (suc s) m → r ≡ min (at o s) l → r ≡ least_from o s (suc m)
unfolding least_from
least_step o s m p q = rw (q, p)

pub least_last : (o : List ℕ) (s : ℕ) → at o s ≡ least_from o s 0
unfolding least_from
least_last o s = mathlib.Core.Path.refl

-- it is at most each of them
pub least_most : (o : List ℕ) (s m : ℕ) → least_from o s m ≤ at o s
unfolding least_from
least_most o s zero = omega arith
least_most o s (suc m) = omega arith

pub least_later : (o : List ℕ) (i s m : ℕ) → i ≤ m → least_from o s m ≤ at o (i + s)
unfolding least_from
least_later o zero s m h = let e : 0 + s ≡ s = omega arith in rw e (least_most o s m)
least_later o (suc i) s zero h = absurd (omega arith)
least_later o (suc i) s (suc m) h =
    let e : suc i + s ≡ i + suc s = omega arith in
    let r = least_later o i (suc s) m (omega arith) in
    rw e (omega arith)

-- AGINO(s) is the least of the operating quantities from s on, less A: O(5) - A less O(5) - l is l - A
pub agino_at : (o : List ℕ) (a s : ℕ) {l r : ℕ} → s < 5 → l ≡ least_from o s (4 - s) → r ≡ l - a → r ≡ agino o a s
unfolding agino last_agino
agino_at o a s h p q =
    let e : 4 - s + s ≡ 4 = omega arith in
    let m = subst (λ (n : ℕ). least_from o s (4 - s) ≤ at o n) e (least_later o (4 - s) s (4 - s) (omega arith)) in
    omega (arith, m, p, q)

-- MSIQ(s) from that of the next schedule
pub msiq_step : (sd : ℕ) (p mp e : List ℕ) (s m : ℕ) {n r : ℕ} → n ≡ msiq_from sd p mp e (suc s) m → r ≡ cond (beyond sd (at p s) (at mp s)) (at e s) (min (at e s) n) → r ≡ msiq_from sd p mp e s (suc m)
unfolding msiq_from
msiq_step sd p mp e s m h q = rw (q, h)

pub msiq_last : (sd : ℕ) (p mp e : List ℕ) (s : ℕ) → at e s ≡ msiq_from sd p mp e s 0
unfolding msiq_from
msiq_last sd p mp e s = mathlib.Core.Path.refl
