-- How the parts make up the text of a step, of a line and of a day.
use Prim.Native.Nat.{ℕ, zero, suc, ◌≤◌, ◌<◌}
use native.Mathlib.Omega.{arith}
use mathlib.Core.Path.{◌≡◌, refl, sym, ◌∙◌, ap}
use mathlib.Core.List.{List, [], ◌∷◌, ◌++◌}
use lib.ListN.{length, get_or, take}
use lib.Seq.{sets}
use borrow.Author.Tests.{lt-ltb, le-ltb, eq-eqb, ne_eqb}
use Rattle.rules.specs.Fold.{joined}
use Rattle.rules.specs.Layout.{word, line_count, line_at}
use Rattle.rules.specs.Steps.{step_count}
use Rattle.rules.specs.Refusals.{day_fault}
use Rattle.rules.specs.Viewing.{view_refused, view_answer}
use Rattle.rules.specs.Report.{decimal, space, line_feed, refused_line}
use Rattle.rules.specs.declared.View.{View}
use Rattle.text.specs.Put.{joined_same}
use Rattle.laws.specs.Folds.{joined_none, joined_more}
use Rattle.std.proofs.Common.{◌+◌, subst, Option}
use Rattle.std.proofs.lemmas.List.{get_or-take}
use Rattle.std.specs.Io.KnownBytes.{Appends}
use Rattle.std.proofs.KnownBytes.{Appends-nil, Appends-trans}
use Rattle.view.specs.LineViews.{line_views, first_good, views_counted}
use Rattle.view.specs.LineViews.{place_is as place-answered}
use Rattle.text_lines.specs.Lines.{line_ids, side_steps}
use Rattle.text_steps.specs.Text.{line_word, step_text, place_text, line_head, line_steps, steps_part, part_most, part_of, steps_text}
use Rattle.text_view.specs.ViewText.{view_text, excess_row}

-- what stands past a list's end does not show within it
get_d_within : (l : List View) (j : ℕ) (a b : View) → j < length l → get_or l j a ≡ get_or l j b
get_d_within [] j a b h = absurd (omega arith)
get_d_within (v ∷ l) zero a b h = refl
get_d_within (v ∷ l) (suc j) a b h = get_d_within l j a b (omega arith)

-- a place of a list of views
pub place_is : (l : List View) (j : ℕ) (a : View) → j < length l → view_text j (get_or l j a) ≡ place_text l j
unfolding place_text
place_is l j a h = ap (view_text j) (get_d_within l j a (view_refused 0) h)

-- a place of a line's views
step_is : (d : List ℕ) (k j : ℕ) (l : List View) → get_or l j (view_refused 0) ≡ view_answer d k j → place_text l j ≡ step_text d k j
unfolding place_text step_text
step_is d k j l e = ap (view_text j) e

-- a line's heading from what was read of the line
pub head_is : (k : ℕ) (w : List ℕ) {p q sd n : ℕ} → p ≡ word w 0 → q ≡ word w 4 → sd ≡ word w 8 → n ≡ step_count w
    → line_word ++ decimal k ++ space ++ line_ids p q ++ side_steps sd n ++ line_feed ≡ line_head k w
unfolding line_head
head_is k w e₀ e₁ e₂ e₃ = rw (e₀, e₁, e₂, e₃)

-- a line of an accepted day, with its views
module _ (d : List ℕ) (k : ℕ) (z : day_fault d ≡ 0) (l : k < line_count d) (places vs : List View) (n : ℕ) (ne : n ≡ length (line_views d k)) (ve : vs ≡ sets places 0 (line_views d k)) where
  pub counted : (n ≡ step_count (line_at d k)) × (0 < n) × (n ≤ 56)
  counted = rw ne (views_counted d k (sym (first_good d k z l)))

  pub line_is : (w : List ℕ) (a : View) → w ≡ line_at d k → length places ≡ 56 → line_head k w ++ joined n (place_text vs) ++ excess_row (get_or vs 0 a).excess ≡ line_steps d k
  unfolding line_steps
  line_is w a we long =
      let m = step_count (line_at d k) in
      let many = (views_counted d k (sym (first_good d k z l))).0 in
      let there = place-answered d k places vs ve (omega (arith, long)) in
      let steps = joined_same m (place_text vs) (step_text d k) (λ j h. step_is d k j vs (there j (view_refused 0) (omega (arith, many)))) in
      rw (we, counted.0, steps, there 0 a (omega (arith, counted.0, counted.1, many)))

-- what is said of another name of the day and of the line
pub counted_there : {d e : List ℕ} {k i n : ℕ} → e ≡ d → i ≡ k → n ≡ length (line_views e i) → n ≡ length (line_views d k)
counted_there {d} {e} {k} {i} {n} p q h = subst (λ (x : List ℕ). n ≡ length (line_views x k)) p (subst (λ (y : ℕ). n ≡ length (line_views e y)) q h)

pub placed_there : {d e : List ℕ} {k i : ℕ} {vs : List View} (places : List View) → e ≡ d → i ≡ k → vs ≡ sets places 0 (line_views e i) → vs ≡ sets places 0 (line_views d k)
placed_there {d} {e} {k} {i} {vs} places p q h = subst (λ (x : List ℕ). vs ≡ sets places 0 (line_views x k)) p (subst (λ (y : ℕ). vs ≡ sets places 0 (line_views e y)) q h)

pub line_there : {d e w : List ℕ} {k i : ℕ} → e ≡ d → i ≡ k → w ≡ line_at e i → w ≡ line_at d k
line_there {d} {e} {w} {k} {i} p q h = subst (λ (x : List ℕ). w ≡ line_at x k) p (subst (λ (y : ℕ). w ≡ line_at e y) q h)

-- the first places of a list of views, as text
pub front_is : (n : ℕ) (l : List View) → joined n (place_text (take n l)) ≡ joined n (place_text l)
unfolding place_text
front_is n l = joined_same n (place_text (take n l)) (place_text l) (λ j h. ap (view_text j) (get_or-take n l j (view_refused 0) h))

-- a part by its cases
module _ (d : List ℕ) (k lent : ℕ) where
  pub part_short : lent < part_most → [] ≡ part_of d k lent
  unfolding part_of
  part_short h = rw (lt-ltb lent part_most h)

  module _ (h : part_most ≤ lent) {r : ℕ} (e : r ≡ day_fault d) where
    module _ (g : r ≡ 0 → ⊥) where
      pub part_refused : k ≡ 0 → refused_line r ≡ part_of d k lent
      unfolding part_of steps_part
      part_refused z = rw (le-ltb lent part_most h, ← e, ne_eqb r 0 g, eq-eqb k 0 z)

      pub part_after : (k ≡ 0 → ⊥) → [] ≡ part_of d k lent
      unfolding part_of steps_part
      part_after z = rw (le-ltb lent part_most h, ← e, ne_eqb r 0 g, ne_eqb k 0 z)

    module _ (z : r ≡ 0) where
      pub part_none : line_count d ≤ k → [] ≡ part_of d k lent
      unfolding part_of steps_part
      part_none l = rw (le-ltb lent part_most h, ← e, eq-eqb r 0 z, le-ltb k (line_count d) l)

      pub part_line : k < line_count d → line_steps d k ≡ part_of d k lent
      unfolding part_of steps_part
      part_line l = rw (le-ltb lent part_most h, ← e, eq-eqb r 0 z, lt-ltb k (line_count d) l)

-- the text that is printed, by its cases
module _ (d : List ℕ) where
  pub text_refused : {r : ℕ} → r ≡ day_fault d → (r ≡ 0 → ⊥) → refused_line r ≡ steps_text d
  unfolding steps_text
  text_refused {r} e g = rw (← e, ne_eqb r 0 g)

  pub text_accepted : day_fault d ≡ 0 → joined (line_count d) (line_steps d) ≡ steps_text d
  unfolding steps_text
  text_accepted z = rw (eq-eqb (day_fault d) 0 z)

-- line k printed after the lines before it
pub lines_more : (a b c : Option (List ℕ)) (f : ℕ → List ℕ) (k : ℕ) → Appends a b (joined k f) → Appends b c (f k) → Appends a c (joined (k + 1) f)
lines_more a b c f k p q = subst (Appends a c) (sym (joined_more k f)) (Appends-trans a b c (joined k f) (f k) p q)

pub lines_none : (a : Option (List ℕ)) (f : ℕ → List ℕ) → Appends a a (joined 0 f)
lines_none a f = subst (Appends a a) (sym (joined_none f)) (Appends-nil a)
