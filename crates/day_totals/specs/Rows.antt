-- A row of five that a loop fills, from the first place on or from the last one back.
use Rattle.std.specs.Prelude.{ℕ, ◌+◌, ◌-◌, ◌≤◌, ◌<◌, ◌≡◌, refl, List, [], ◌∷◌, length, get_or, set}
use Rattle.std.proofs.Common.{arith, ◌∙◌}
use Rattle.std.proofs.Math.Decide.{dec_lt}
use Rattle.std.proofs.Math.ListN.{length-set}
use Rattle.std.proofs.lemmas.List.{get_or-set_same}
use Rattle.std.proofs.Math.Seq.{get_or-set_other}
use Rattle.rules.specs.Fold.{five}
use Rattle.laws.specs.Folds.{at_five}

-- below place s it has the values of f, from s on those of g
pub record Row {A : Type 0} (d : A) (f g : ℕ → A) (l : List A) (s : ℕ) : Type 0 where
  pub long : length l ≡ 5
  pub below : (k : ℕ) → k < s → get_or l k d ≡ f k
  pub above : (k : ℕ) → s ≤ k → k < 5 → get_or l k d ≡ g k

-- before the first place, and behind the last one
pub row_begins : {A : Type 0} (d : A) (f g : ℕ → A) → Row d f g (five g) 0
row_begins d f g = record { long = refl; below = λ k m. absurd (omega arith); above = λ k m n. at_five g d k n }

pub row_back_begins : {A : Type 0} (d : A) (f g : ℕ → A) → Row d f g (five f) 5
row_back_begins d f g = record { long = refl; below = λ k m. at_five f d k m; above = λ k m n. absurd (omega arith) }

pub row_stands : {A : Type 0} (d : A) (g : ℕ → A) (l : List A) → length l ≡ 5 → Row d (λ k. get_or l k d) g l 5
row_stands d g l h = record { long = h; below = λ k m. refl; above = λ k m n. absurd (omega arith) }

-- place s gets the value of f
pub row_on : {A : Type 0} (d : A) (f g : ℕ → A) (l : List A) (s : ℕ) (v : A) → Row d f g l s → s < 5 → v ≡ f s → Row d f g (set l s v) (s + 1)
row_on d f g l s v r h e =
    record {
      long = length-set l s v ∙ r.long;
      below = λ k m.
          elim (dec_lt k s) [
            | yes q ↦ get_or-set_other l s k v d (omega arith) ∙ r.below k q
            | no q ↦ let p : k ≡ s = omega arith in rw p (get_or-set_same l s v d (omega (arith, r.long)) ∙ e)
          ];
      above = λ k m n. get_or-set_other l s k v d (omega arith) ∙ r.above k (omega arith) n;
    }

-- place s - 1 gets the value of g
pub row_back : {A : Type 0} (d : A) (f g : ℕ → A) (l : List A) (s : ℕ) (v : A) → Row d f g l s → 0 < s → s ≤ 5 → v ≡ g (s - 1) → Row d f g (set l (s - 1) v) (s - 1)
row_back d f g l s v r h n e =
    record {
      long = length-set l (s - 1) v ∙ r.long;
      below = λ k m. get_or-set_other l (s - 1) k v d (omega arith) ∙ r.below k (omega arith);
      above = λ k m b.
          elim (dec_lt (s - 1) k) [
            | yes q ↦ get_or-set_other l (s - 1) k v d (omega arith) ∙ r.above k (omega arith) b
            | no q ↦ let p : k ≡ s - 1 = omega arith in rw p (get_or-set_same l (s - 1) v d (omega (arith, r.long)) ∙ e)
          ];
    }

-- a value that is there already
pub row_kept : {A : Type 0} (d : A) (f g : ℕ → A) (l : List A) (s : ℕ) → Row d f g l s → s < 5 → g s ≡ f s → Row d f g l (s + 1)
row_kept d f g l s r h e =
    record {
      long = r.long;
      below = λ k m.
          elim (dec_lt k s) [
            | yes q ↦ r.below k q
            | no q ↦ let p : k ≡ s = omega arith in rw p (r.above s (omega arith) h ∙ e)
          ];
      above = λ k m n. r.above k (omega arith) n;
    }

pub row_back_kept : {A : Type 0} (d : A) (f g : ℕ → A) (l : List A) (s : ℕ) → Row d f g l s → 0 < s → s ≤ 5 → f (s - 1) ≡ g (s - 1) → Row d f g l (s - 1)
row_back_kept d f g l s r h n e =
    record {
      long = r.long;
      below = λ k m. r.below k (omega arith);
      above = λ k m b.
          elim (dec_lt (s - 1) k) [
            | yes q ↦ r.above k (omega arith) b
            | no q ↦ let p : k ≡ s - 1 = omega arith in rw p (r.below (s - 1) (omega arith) ∙ e)
          ];
    }

-- five places with the values of f
pub five_at : {A : Type 0} (d : A) (f : ℕ → A) (l : List A) → length l ≡ 5 → get_or l 0 d ≡ f 0 → get_or l 1 d ≡ f 1 → get_or l 2 d ≡ f 2 → get_or l 3 d ≡ f 3 → get_or l 4 d ≡ f 4 → l ≡ five f
five_at d f [] h p q r s t = absurd (omega arith)
five_at d f (a ∷ []) h p q r s t = absurd (omega arith)
five_at d f (a ∷ b ∷ []) h p q r s t = absurd (omega arith)
five_at d f (a ∷ b ∷ c ∷ []) h p q r s t = absurd (omega arith)
five_at d f (a ∷ b ∷ c ∷ x ∷ []) h p q r s t = absurd (omega arith)
five_at d f (a ∷ b ∷ c ∷ x ∷ y ∷ []) h p q r s t = λ i. p i ∷ q i ∷ r i ∷ s i ∷ t i ∷ []
five_at d f (a ∷ b ∷ c ∷ x ∷ y ∷ z ∷ l) h p q r s t = absurd (omega arith)

pub five_of : {A : Type 0} (d : A) (f : ℕ → A) (l : List A) → length l ≡ 5 → ((k : ℕ) → k < 5 → get_or l k d ≡ f k) → l ≡ five f
five_of d f l h e = five_at d f l h (e 0 (omega arith)) (e 1 (omega arith)) (e 2 (omega arith)) (e 3 (omega arith)) (e 4 (omega arith))

-- filled up to the last place, and back to the first
pub row_done : {A : Type 0} (d : A) (f g : ℕ → A) (l : List A) (s : ℕ) → Row d f g l s → 5 ≤ s → l ≡ five f
row_done d f g l s r h = five_of d f l r.long (λ k m. r.below k (omega arith))

pub row_back_done : {A : Type 0} (d : A) (f g : ℕ → A) (l : List A) (s : ℕ) → Row d f g l s → s ≤ 0 → l ≡ five g
row_back_done d f g l s r h = five_of d g l r.long (λ k m. r.above k (omega arith) m)
