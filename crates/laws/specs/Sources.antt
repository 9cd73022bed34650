-- Laws of "the nearest earlier schedule with a count above 0" (document 02, F-6), on an accepted line.
use Rattle.std.specs.Prelude.{ℕ, zero, suc, ◌-◌, ◌≤◌, ◌<◌, ◌≡◌, refl, List, cond, eqb, ltb}
use Rattle.std.proofs.Common.{arith, eq-eqb, ne_eqb}
use Rattle.std.proofs.Math.Decide.{dec_lt}
use Rattle.rules.specs.Fold.{refuse, ◌or_else◌, first}
use Rattle.rules.specs.Layout.{bid_slots, bid_count, bid_price}
use Rattle.rules.specs.Steps.{bid_step, source, last_price, price}
use Rattle.rules.specs.Refusals.{break_fault, price_fault, unused_fault, bid_fault}
use Rattle.laws.specs.Folds.{and_no}
use Rattle.laws.specs.Accepted.{AcceptedLine}

-- r is the nearest schedule up to s whose bid has steps: s itself unless its bid was pulled
pub record Nearest (w : List ℕ) (s r : ℕ) : Type 0 where
  pub within : r ≤ s
  pub some : 0 < bid_count w r
  pub pulled : (t : ℕ) → r < t → t ≤ s → bid_count w t ≡ 0

-- there is no other
pub nearest_same : {w : List ℕ} {s q r : ℕ} → Nearest w s q → Nearest w s r → q ≡ r
nearest_same {w} {s} {q} {r} a b =
    elim (dec_lt q r) [
      | yes l ↦ let e = a.pulled r l b.within in let n = b.some in absurd (omega arith)
      | no l ↦
          elim (dec_lt r q) [
            | yes m ↦ let e = b.pulled q m a.within in let n = a.some in absurd (omega arith)
            | no m ↦ omega arith
          ]
    ]

-- a bid with steps gives its own last price, a pulled one that of the schedule before
pub source_own : (w : List ℕ) (s : ℕ) → 0 < bid_count w s → source w s ≡ s
unfolding source
source_own w zero h = refl
source_own w (suc s) h = rw (ne_eqb (bid_count w (suc s)) 0 (λ e. omega arith))

pub source_pulled : (w : List ℕ) (s : ℕ) → bid_count w (suc s) ≡ 0 → source w (suc s) ≡ source w s
unfolding source
source_pulled w s h = rw (eq-eqb (bid_count w (suc s)) 0 h)

-- so it is the nearest
pub nearest : (w : List ℕ) → AcceptedLine w → (s : ℕ) → s < 5 → Nearest w s (source w s)
nearest w h zero l =
    let n = (h.bids 0 l).count_first refl in
    rw (source_own w zero n) (record { within = omega arith; some = n; pulled = λ t a b. absurd (omega arith) })
nearest w h (suc s) l =
    elim (dec_lt 0 (bid_count w (suc s))) [
      | yes c ↦
          rw (source_own w (suc s) c) (record { within = omega arith; some = c; pulled = λ t a b. absurd (omega arith) })
      | no c ↦
          let e : bid_count w (suc s) ≡ 0 = omega arith in
          let r = nearest w h s (omega arith) in
          rw (source_pulled w s e)
          (record {
            within = let a = r.within in omega arith;
            some = r.some;
            pulled =
                λ t m k.
                elim (dec_lt t (suc s)) [
                  | yes j ↦ r.pulled t m (omega arith)
                  | no j ↦ let q : t ≡ suc s = omega arith in rw q e
                ];
          })
    ]

own_nearest : (w : List ℕ) (s : ℕ) → 0 < bid_count w s → Nearest w s (source w s)
own_nearest w s h =
    rw (source_own w s h) (record { within = omega arith; some = h; pulled = λ t l m. absurd (omega arith) })

-- where a bid was not pulled, its prices and refusals are those that document 01 alone has: "If there is none, the price is the bid's last
-- price", "7: bid count 0 or above 11"
pub price_own : (w : List ℕ) (s u : ℕ) → 0 < bid_count w s
    → price w s u ≡ cond (ltb (bid_step w s u) (bid_count w s)) (bid_price w s (bid_step w s u)) (bid_price w s (bid_count w s - 1))
unfolding price last_price
price_own w s u h = rw (source_own w s h)

pub fault_own : (w : List ℕ) (s : ℕ) → 0 < bid_count w s
    → bid_fault w s
    ≡ refuse 7 (eqb (bid_count w s) 0)
    or_else refuse 7 (ltb bid_slots (bid_count w s))
    or_else first (break_fault w s) (bid_count w s)
    or_else first (price_fault w s) (bid_count w s)
    or_else first (unused_fault w s) (bid_slots - bid_count w s)
unfolding bid_fault
fault_own w s h = rw (ne_eqb (bid_count w s) 0 (λ e. omega arith), and_no (eqb s 0))
