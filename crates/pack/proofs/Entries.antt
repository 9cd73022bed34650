-- The turns of the loop over a pack: n entries were read and shown, from f and `known` to g and `left`.
use Rattle.std.proofs.Common.{ℕ, ◌+◌, ◌*◌, ◌^◌, ◌≤◌, ◌≡◌, List, [], ◌∷◌, ◌++◌, length, Option, None, Some, Result, Ok, arith, ap, ◌∙◌, length-append}
use Rattle.std.specs.Prelude.{⊤}
use Rattle.pack.specs.Entry.{Reads, Shows, ShowsEach}

module _ {F E : Type 0} (called : F → List ℕ → Result (Unit {0}) E → F → Type 0) (most : ℕ) where
  -- if what is left is shown from g, all is shown from f
  abbrev pub Turned : F → Option (List ℕ) → F → Option (List ℕ) → ℕ → Type 0
  Turned f None g left n = ⊤
  Turned f (Some xs) g None n = ⊥
  Turned f (Some xs) g (Some ys) n =
      (4 * n + length ys ≤ length xs) × ((rest : List (List ℕ)) → Shows called most g ys rest → (all : List (List ℕ)) × Shows called most f xs all)

  pub turned_none : (f : F) (known : Option (List ℕ)) → Turned f known f known 0
  turned_none f None = tt
  turned_none f (Some xs) = (omega arith, λ rest shown. (rest, shown))

  pub turned_more : (f : F) (known : Option (List ℕ)) (g h : F) (mid left : Option (List ℕ)) (n : ℕ) (entry : List ℕ) → Turned f known g mid n
      → Reads most mid left (Some entry) → called g entry (Ok tt) h → Turned f known h left (n + 1)
  turned_more f None g h mid left n entry t r call = tt
  turned_more f (Some xs) g h None left n entry t r call = absurd t
  turned_more f (Some xs) g h (Some ys) None n entry t r call = absurd r
  turned_more f (Some xs) g h (Some ys) (Some zs) n entry t r call =
      let whole : length ys ≡ length r.0 + length (entry ++ zs) = ap length r.1 ∙ length-append r.0 (entry ++ zs) in
      let part : length (entry ++ zs) ≡ length entry + length zs = length-append entry zs in
      (omega (arith, t.0, whole, part, r.2), λ rest shown. t.1 (entry ∷ rest) (zs, h, r, call, shown))

  pub turned_last : (f : F) (known : Option (List ℕ)) (g : F) (mid left : Option (List ℕ)) (n : ℕ) → Turned f known g mid n → Reads most mid left None
      → ShowsEach called most f known
  turned_last f None g mid left n t r = tt
  turned_last f (Some xs) g None left n t r = absurd t
  turned_last f (Some xs) g (Some ys) None n t r = absurd r
  turned_last f (Some xs) g (Some ys) (Some zs) n t r = λ few. t.1 [] r

  pub turned_out : (f : F) (known : Option (List ℕ)) (g : F) (left : Option (List ℕ)) (n : ℕ) → Turned f known g left n → n + 1 ≡ 2 ^ 64
      → ShowsEach called most f known
  turned_out f None g left n t end = tt
  turned_out f (Some xs) g None n t end = absurd t
  turned_out f (Some xs) g (Some ys) n t end = λ few. absurd (omega (arith, t.0, end, few))
