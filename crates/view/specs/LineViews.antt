-- The views of all steps of a line, the answer that holds them, and what each lent place then is.
use Prim.Native.Nat.{ℕ, zero, suc, ◌+◌, ◌≤◌, ◌<◌}
use native.Mathlib.Omega.{arith}
use Rattle.std.proofs.Math.Numerals.{add-one}
use Rattle.std.proofs.Common.{add-zero, sym, ◌∙◌}
use Rattle.std.proofs.Math.Decide.{dec_lt, ℕ_discrete}
use Rattle.std.specs.Prelude.{◌≡◌, cond, drop}
use Rattle.std.proofs.Math.Path.{refl, ap}
use mathlib.Core.List.{List, [], ◌∷◌, ◌++◌}
use Rattle.std.proofs.Math.Bool.{true, false}
use Rattle.std.proofs.Math.ListN.{length, get_or, set, length-append, get_or-append}
use Rattle.std.proofs.Math.Dec.{eqb}
use Rattle.std.proofs.lemmas.List.Edits.{sets}
use Rattle.std.proofs.Math.Seq.{sets-eq, get_or-append_seam}
use borrow.Author.Tests.{eq-eqb, ne_eqb, leb-false}
use Rattle.rules.specs.Layout.{line_count, line_at}
use Rattle.rules.specs.Steps.{step_count}
use Rattle.rules.specs.Refusals.{day_fault, view_fault}
use Rattle.rules.specs.Viewing.{view_answer}
use Rattle.rules.specs.declared.View.{View}
use Rattle.laws.specs.Folds.{or_else_both, refuse_zero}
use Rattle.laws.specs.Accepted.{accepted_day, accepted_line_at}
use Rattle.cutter.specs.Ends.{count_some, count_most}
use Rattle.view.specs.Figures.{fault_none}

-- what the step view answers for the first n steps of line k
unfoldable pub views_to : List ℕ → ℕ → ℕ → List View
views_to d k zero = []
views_to d k (suc n) = views_to d k n ++ (view_answer d k n ∷ [])

-- for all its steps; for none where the view of its first step is refused
unfoldable pub line_views : List ℕ → ℕ → List View
line_views d k = cond (eqb (view_fault d k 0) 0) (views_to d k (step_count (line_at d k))) []

-- the answer: a number, how many views, and the lent places
pub record StepViews : Type 0 where
  pub number : ℕ
  pub count : ℕ
  pub views : List View

-- the number of the view of its first step, how many views, and the lent places with these put into the first
unfoldable pub line_answer : List ℕ → ℕ → List View → StepViews
line_answer d k places =
    record {
      number = view_fault d k 0;
      count = length (line_views d k);
      views = sets places 0 (line_views d k);
    }

-- one place more, after a run of places
sets_then : {A : Type 0} (l : List A) (i : ℕ) (s : List A) (v : A) → set (sets l i s) (i + length s) v ≡ sets l i (s ++ (v ∷ []))
sets_then l i [] v = rw add-zero refl
sets_then l i (a ∷ s) v =
    let e : i + length (a ∷ s) ≡ suc i + length s = omega arith in
    rw e (sets_then (set l i a) (suc i) s v)

module _ (d : List ℕ) (k : ℕ) where
  pub views_length : (n : ℕ) → length (views_to d k n) ≡ n
  unfolding views_to
  views_length zero = refl
  views_length (suc n) = let r = views_length n in let e = length-append (views_to d k n) (view_answer d k n ∷ []) in omega arith

  views_at : (n j : ℕ) (v : View) → j < n → get_or (views_to d k n) j v ≡ view_answer d k j
  unfolding views_to
  views_at zero j v h = absurd (omega arith)
  views_at (suc n) j v h =
      let many = views_length n in
      let r = views_at n j v in
      elim (dec_lt j n) [
        | yes l ↦ get_or-append (views_to d k n) (view_answer d k n ∷ []) v j (omega arith) ∙ r l
        | no g ↦
            let e : j ≡ length (views_to d k n) = omega arith in
            let f : n ≡ j = omega arith in
            ap (λ (i : ℕ). get_or (views_to d k n ++ (view_answer d k n ∷ [])) i v) e
            ∙ get_or-append_seam (views_to d k n) (view_answer d k n) [] v ∙ ap (view_answer d k) f
      ]

  -- the places before the first step, and with step j's view
  pub views_none : (l : List View) → l ≡ sets l 0 (views_to d k 0)
  unfolding views_to
  views_none l = refl

  pub views_next : (j : ℕ) (l m : List View) (v : View) → m ≡ sets l 0 (views_to d k j) → v ≡ view_answer d k j → set m j v ≡ sets l 0 (views_to d k (j + 1))
  unfolding views_to
  views_next j l m v me ve =
      let e : j ≡ 0 + length (views_to d k j) = let r = views_length j in omega arith in
      rw add-one
      (ap (λ (x : List View). set x j v) me ∙ ap (set (sets l 0 (views_to d k j)) j) ve
      ∙ ap (λ (i : ℕ). set (sets l 0 (views_to d k j)) i (view_answer d k j)) e ∙ sets_then l 0 (views_to d k j) (view_answer d k j))

  -- the answer of a refused line, and of a line of an accepted day
  pub answer_refused : (y : ℕ) (places : List View) → y ≡ view_fault d k 0 → (y ≡ 0 → ⊥) → record { number = y; count = 0; views = places } ≡ line_answer d k places
  unfolding line_answer line_views
  answer_refused y places e n =
      let h : eqb (view_fault d k 0) 0 ≡ false = ne_eqb (view_fault d k 0) 0 (λ z. n (e ∙ z)) in
      rw (e, h) refl

  module _ (good : day_fault d ≡ 0) (within : k < line_count d) where
    first_there : 0 < step_count (line_at d k)
    first_there = count_some (line_at d k) (accepted_line_at d (accepted_day d good) k within)

    -- a line of an accepted day has a first step, so its number is never 17
    pub first_good : 0 ≡ view_fault d k 0
    first_good = fault_none d k 0 0 (sym good) refl within first_there

    pub answer_whole : (n j : ℕ) (places m : List View) → n ≡ step_count (line_at d k) → j ≤ n → n ≤ j → m ≡ sets places 0 (views_to d k j) → record { number = 0; count = n; views = m } ≡ line_answer d k places
    unfolding line_answer line_views
    answer_whole n j places m ne l g me =
        let e : j ≡ n = omega arith in
        let h : eqb (view_fault d k 0) 0 ≡ true = eq-eqb (view_fault d k 0) 0 (sym first_good) in
        rw (h, ← first_good, me, e, ← ne, views_length n) refl

    first_few : step_count (line_at d k) ≤ 56
    first_few = count_most (line_at d k) (accepted_line_at d (accepted_day d good) k within)

  -- a line whose first view is not refused is a line of an accepted day
  first_accepted : view_fault d k 0 ≡ 0 → (day_fault d ≡ 0) × (k < line_count d)
  unfolding view_fault
  first_accepted e =
      let b = or_else_both _ _ e in
      (b.left, leb-false (line_count d) k (refuse_zero 15 _ (or_else_both _ _ b.right).left))

  -- what the answer says to a caller: as many views as the line has steps, which are 1 to 56
  pub views_counted : view_fault d k 0 ≡ 0 → (length (line_views d k) ≡ step_count (line_at d k)) × (0 < length (line_views d k)) × (length (line_views d k) ≤ 56)
  unfolding line_views
  views_counted e =
      let a = first_accepted e in
      rw (eq-eqb (view_fault d k 0) 0 e, views_length (step_count (line_at d k))) (refl, first_there a.0 a.1, first_few a.0 a.1)

  pub views_refused : (view_fault d k 0 ≡ 0 → ⊥) → line_views d k ≡ []
  unfolding line_views
  views_refused n = rw (ne_eqb (view_fault d k 0) 0 n) refl

  -- and place j of the lent places is what the step view answers for step j
  pub place_is : (places m : List View) → m ≡ sets places 0 (line_views d k) → 56 ≤ length places → (j : ℕ) (v : View) → j < length (line_views d k) → get_or m j v ≡ view_answer d k j
  unfolding line_views
  place_is places m e long j v h =
      elim (ℕ_discrete (view_fault d k 0) 0) [
        | no n ↦ absurd (let z = ap length (views_refused n) in omega arith)
        | yes g ↦
            let c = views_counted g in
            let z : line_views d k ≡ views_to d k (step_count (line_at d k)) = rw (eq-eqb (view_fault d k 0) 0 g) refl in
            ap (λ (l : List View). get_or l j v) (e ∙ sets-eq (line_views d k) places 0 (omega arith))
            ∙ get_or-append (line_views d k) (drop (0 + length (line_views d k)) places) v j h
            ∙ ap (λ (l : List View). get_or l j v) z ∙ views_at (step_count (line_at d k)) j v (omega arith)
      ]
