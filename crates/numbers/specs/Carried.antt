-- A row of five that is carried back from the last place: it begins as a given row, and each place before the last gets its value in turn.
use Rattle.std.specs.Prelude.{ℕ, zero, suc, ◌-◌, ◌≤◌, ◌<◌, ◌≡◌, List, [], ◌∷◌, length}
use Rattle.std.proofs.Common.{arith, ◌∙◌}
use Rattle.std.proofs.Math.Decide.{dec_lt}
use Rattle.std.proofs.Math.ListN.{set, length-set}
use lib.Seq.{get_or-set_same, get_or-set_other}
use Rattle.rules.specs.Fold.{five, at}
use Rattle.numbers.specs.Fives.{five_is}

-- l is e below s, and what f gives from s on
pub record Carried (e : List ℕ) (f : ℕ → ℕ) (l : List ℕ) (s : ℕ) : Type 0 where
  pub long : length l ≡ 5
  pub given : (t : ℕ) → t < s → at l t ≡ at e t
  pub worked : (t : ℕ) → s ≤ t → t < 5 → at l t ≡ f t

pub carried_begins : (e : List ℕ) (f : ℕ → ℕ) → length e ≡ 5 → at e 4 ≡ f 4 → Carried e f e 4
carried_begins e f h p =
    record {
      long = h;
      given = λ t l. mathlib.Core.Path.refl;
      worked = λ t l m. let q : t ≡ 4 = omega arith in rw q p;
    }

-- place s - 1 gets its value
pub carried_goes : (e : List ℕ) (f : ℕ → ℕ) (l : List ℕ) (s v : ℕ)
    → Carried e f l s → 0 < s → s ≤ 4 → v ≡ f (s - 1) → Carried e f (set l (s - 1) v) (s - 1)
carried_goes e f l s v c h k p =
    record {
      long = length-set l (s - 1) v ∙ c.long;
      given = λ t m. get_or-set_other l (s - 1) t v 0 (omega arith) ∙ c.given t (omega arith);
      worked = λ t m n.
          elim (dec_lt (s - 1) t) [
            | yes g ↦ get_or-set_other l (s - 1) t v 0 (omega arith) ∙ c.worked t (omega arith) n
            | no g ↦ let q : t ≡ s - 1 = omega arith in rw q (get_or-set_same l (s - 1) v 0 (omega (arith, c.long)) ∙ p)
          ];
    }

-- place s - 1 keeps the given value
pub carried_stays : (e : List ℕ) (f : ℕ → ℕ) (l : List ℕ) (s : ℕ)
    → Carried e f l s → 0 < s → s ≤ 4 → at e (s - 1) ≡ f (s - 1) → Carried e f l (s - 1)
carried_stays e f l s c h k p =
    record {
      long = c.long;
      given = λ t m. c.given t (omega arith);
      worked = λ t m n.
          elim (dec_lt (s - 1) t) [
            | yes g ↦ c.worked t (omega arith) n
            | no g ↦ let q : t ≡ s - 1 = omega arith in rw q (c.given (s - 1) (omega arith) ∙ p)
          ];
    }

-- carried back to the first place it is what f gives
five_long : (l : List ℕ) → length l ≡ 5 → l ≡ five (at l)
five_long [] h = absurd (omega arith)
five_long (a ∷ []) h = absurd (omega arith)
five_long (a ∷ b ∷ []) h = absurd (omega arith)
five_long (a ∷ b ∷ c ∷ []) h = absurd (omega arith)
five_long (a ∷ b ∷ c ∷ d ∷ []) h = absurd (omega arith)
five_long (a ∷ b ∷ c ∷ d ∷ e ∷ []) h = mathlib.Core.Path.refl
five_long (a ∷ b ∷ c ∷ d ∷ e ∷ g ∷ l) h = absurd (omega arith)

pub carried_whole : (e : List ℕ) (f : ℕ → ℕ) (l : List ℕ) → Carried e f l 0 → l ≡ five f
carried_whole e f l c =
    five_long l c.long
    ∙ five_is f (c.worked 0 (omega arith) (omega arith)) (c.worked 1 (omega arith) (omega arith)) (c.worked 2 (omega arith) (omega arith))
    (c.worked 3 (omega arith) (omega arith)) (c.worked 4 (omega arith) (omega arith))
