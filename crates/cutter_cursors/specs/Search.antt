-- Laws of "the first bid step whose break is at least the upper end", over any n breaks `br`, and of a test as a number.
use Rattle.std.specs.Prelude.{◌≡◌, refl, Bool, true, false, ℕ, zero, suc, ◌+◌, ◌<◌, ◌≤◌, List}
use Rattle.std.proofs.Common.{arith, subst, le-leb}
use Rattle.std.proofs.Math.Decide.{dec_lt, dec_le}
use Rattle.std.proofs.lemmas.Bool.{lt-leb}
use mir.Val.{bool_byte}
use Rattle.rules.specs.Payments.{bit}
use Rattle.rules.specs.Layout.{bid_count, bid_break}
use Rattle.rules.specs.Steps.{step_from, bid_step}

-- j is the first of the breaks from i up to i + n that is at least u, or i + n where there is none
pub record FirstFrom (br : ℕ → ℕ) (u i n j : ℕ) : Type 0 where
  pub from : i ≤ j
  pub within : j ≤ i + n
  pub passed : (k : ℕ) → i ≤ k → k < j → br k < u
  pub reached : j < i + n → u ≤ br j

pub step_from_lem : (br : ℕ → ℕ) (u i n : ℕ) → FirstFrom br u i n (step_from br u i n)
unfolding step_from
step_from_lem br u i zero =
    record { from = omega arith; within = omega arith; passed = λ k l m. absurd (omega arith); reached = λ l. absurd (omega arith) }
step_from_lem br u i (suc n) =
    let r = step_from_lem br u (suc i) n in
    elim (dec_le u (br i)) [
      | yes l ↦
          rw (le-leb u (br i) l)
          (record { from = omega arith; within = omega arith; passed = λ k a b. absurd (omega arith); reached = λ m. l })
      | no g ↦
          let h : br i < u = omega arith in
          rw (lt-leb u (br i) h)
          (record {
            from = let a = r.from in omega arith;
            within = let a = r.within in omega arith;
            passed =
                λ k a b.
                elim (dec_lt i k) [
                  | yes m ↦ r.passed k m b
                  | no m ↦ let e : i ≡ k = omega arith in subst (λ (x : ℕ). br x < u) e h
                ];
            reached = λ m. r.reached (omega arith);
          })
    ]

-- the same from the first break
pub record First (br : ℕ → ℕ) (u n j : ℕ) : Type 0 where
  pub within : j ≤ n
  pub passed : (k : ℕ) → k < j → br k < u
  pub reached : j < n → u ≤ br j

pub step_first : (br : ℕ → ℕ) (u n : ℕ) → First br u n (step_from br u 0 n)
step_first br u n =
    let r = step_from_lem br u 0 n in
    record {
      within = let a = r.within in omega arith;
      passed = λ k l. r.passed k (omega arith) l;
      reached = λ l. r.reached (omega arith);
    }

-- a greater end has no earlier step
pub first_mono : {br : ℕ → ℕ} {u v n j k : ℕ} → First br u n j → First br v n k → u ≤ v → j ≤ k
first_mono {br} {u} {v} {n} {j} {k} p q h =
    elim (dec_le j k) [
      | yes l ↦ l
      | no g ↦
          let a = p.passed k (omega arith) in
          let w = p.within in
          let b = q.reached (omega arith) in
          absurd (omega arith)
    ]

-- so there is one such step
pub first_unique : {br : ℕ → ℕ} {u n j k : ℕ} → First br u n j → First br u n k → j ≡ k
first_unique p q =
    let a = first_mono p q (omega arith) in
    let b = first_mono q p (omega arith) in
    omega arith

pub step_is : {br : ℕ → ℕ} {u n j : ℕ} → First br u n j → step_from br u 0 n ≡ j
step_is {br} {u} {n} p = first_unique (step_first br u n) p

-- up to the break reached, the step stays
pub first_stays : {br : ℕ → ℕ} {v n j : ℕ} → First br v n j → (u : ℕ) → v ≤ u → (j < n → u ≤ br j) → First br u n j
first_stays p u h g =
    record { within = p.within; passed = λ k l. let a = p.passed k l in omega arith; reached = g }

-- past the break reached, it is the next, where the breaks rise
pub first_moves : {br : ℕ → ℕ} {v n j : ℕ} → First br v n j → j < n → v ≤ br j → ((k : ℕ) → suc k < n → br k < br (suc k)) → First br (suc (br j)) n (suc j)
first_moves {br} {v} {n} {j} p l h rise =
    record {
      within = l;
      passed =
          λ k m.
          elim (dec_lt k j) [
            | yes a ↦ let b = p.passed k a in omega arith
            | no a ↦ let e : j ≡ k = omega arith in subst (λ (x : ℕ). br x < suc (br j)) e (omega arith)
          ];
      reached = λ m. rise j m;
    }

-- in the bid of schedule s
pub bid_first : (w : List ℕ) (s u : ℕ) → First (bid_break w s) u (bid_count w s) (bid_step w s u)
unfolding bid_step
bid_first w s u = step_first (bid_break w s) u (bid_count w s)

-- a test as a number, as the code converts it
pub bit_is : (t : Bool) → bool_byte t ≡ bit t
bit_is true = refl
bit_is false = refl
