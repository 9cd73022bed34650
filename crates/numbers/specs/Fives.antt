-- A row of five is the five values of a function.
use Rattle.std.specs.Prelude.{ℕ, zero, suc, ◌≤◌, ◌<◌, ◌≡◌, refl, [], ◌∷◌}
use Rattle.std.proofs.Common.{arith}
use Rattle.std.proofs.Math.Decide.{dec_lt}
use Rattle.rules.specs.Fold.{five, at}
use Rattle.laws.specs.Folds.{at_five}

pub five_is : {A : Type 0} (f : ℕ → A) {a b c d e : A} → a ≡ f 0 → b ≡ f 1 → c ≡ f 2 → d ≡ f 3 → e ≡ f 4 → a ∷ b ∷ c ∷ d ∷ e ∷ [] ≡ five f
five_is f p q r s t = λ i. p i ∷ q i ∷ r i ∷ s i ∷ t i ∷ []

-- two functions that agree on the five schedules
pub five_same : {A : Type 0} (f g : ℕ → A) → ((s : ℕ) → s < 5 → f s ≡ g s) → five f ≡ five g
five_same f g h =
    five_is g (h 0 (omega arith)) (h 1 (omega arith)) (h 2 (omega arith)) (h 3 (omega arith)) (h 4 (omega arith))

-- past the five it is 0
pub past_five : (f : ℕ → ℕ) (s : ℕ) → 5 ≤ s → at (five f) s ≡ 0
past_five f zero h = absurd (omega arith)
past_five f (suc zero) h = absurd (omega arith)
past_five f (suc (suc zero)) h = absurd (omega arith)
past_five f (suc (suc (suc zero))) h = absurd (omega arith)
past_five f (suc (suc (suc (suc zero)))) h = absurd (omega arith)
past_five f (suc (suc (suc (suc (suc s))))) h = refl

-- what bounds each of the five bounds the value at any place
pub five_most : (f : ℕ → ℕ) (b : ℕ) → ((s : ℕ) → s < 5 → f s ≤ b) → (s : ℕ) → at (five f) s ≤ b
five_most f b h s =
    elim (dec_lt s 5) [
      | yes l ↦ rw (at_five f 0 s l) (h s l)
      | no g ↦ rw (past_five f s (omega arith)) (omega arith)
    ]
