-- The entry points' answers for an accepted day: the whole ones of `rules`, place by place.
use Prim.Native.Nat.{ℕ, zero, suc, ◌+◌, ◌-◌, ◌≤◌, ◌<◌}
use Rattle.std.proofs.Common.{arith, ◌∙◌}
use Rattle.std.specs.Prelude.{◌≡◌, List, Bool, true, false, cond, length, get_or, ltb}
use Rattle.std.proofs.Math.Path.{refl}
use borrow.Author.Tests.{lt-leb, le-leb, le-ltb, ltb-true}
use Rattle.rules.specs.Fold.{before, ◌or_else◌}
use Rattle.rules.specs.Layout.{line_count, line_at}
use Rattle.rules.specs.Steps.{ends, step_count, upper_end, lower_end}
use Rattle.rules.specs.Refusals.{day_fault, view_fault, settle_fault, book_length}
use Rattle.rules.specs.Cutting.{cut_of, step_places}
use Rattle.rules.specs.Matching.{matches_of, matched, ten_matches}
use Rattle.rules.specs.Payments.{on_step}
use Rattle.rules.specs.Days.{step_of}
use Rattle.rules.specs.Viewing.{view_of, view_refused, view_answer}
use Rattle.rules.specs.declared.View.{View}
use Rattle.laws.specs.Folds.{refuse_false, refuse_true}
use Rattle.cutter.specs.Arrays.{padded_at}
use Rattle.cutter.specs.Certificate.{end_at, width_at}
use Rattle.step_inputs.specs.Ends.{width}
use Rattle.certificate.specs.Certificate.{matches_before, match_in}

-- the answers of an accepted day are the whole ones
module _ (d : List ℕ) (h : day_fault d ≡ 0) where
  pub view_whole : (k j : ℕ) → k < line_count d → j < step_count (line_at d k) → view_answer d k j ≡ view_of d k j
  unfolding view_answer view_fault ◌or_else◌
  view_whole k j l g = rw (h, lt-leb (line_count d) k l, lt-leb (step_count (line_at d k)) j g, refuse_false 16, refuse_false 17)

  -- a step past the last is refused
  pub view_past : (k j : ℕ) → k < line_count d → step_count (line_at d k) ≤ j → (view_answer d k j).number ≡ 17
  unfolding view_answer view_fault view_refused ◌or_else◌
  view_past k j l g =
      rw (h, lt-leb (line_count d) k l, le-leb (step_count (line_at d k)) j g, refuse_false 16, refuse_true 17)

  pub settle_taken : (b : List ℕ) → book_length (line_count d) ≤ length b → settle_fault d (length b) ≡ 0
  unfolding settle_fault ◌or_else◌
  settle_taken b l = rw (h, le-ltb (length b) (book_length (line_count d)) l, refuse_false 15)

-- the cutter's ends and widths
module _ (w : List ℕ) where
  pub end_at_lem : (j : ℕ) → end_at (cut_of w) j ≡ upper_end w j
  unfolding end_at cut_of upper_end
  end_at_lem j = padded_at step_places (ends w) j

  before_at : (j : ℕ) → before (end_at (cut_of w)) j ≡ lower_end w j
  unfolding before lower_end upper_end
  before_at zero = refl
  before_at (suc j) = end_at_lem j

  pub width_at_lem : (j : ℕ) → width_at (cut_of w) j ≡ width w j
  unfolding width_at
  width_at_lem j = simp (end_at_lem j, before_at j)

-- the ten matches are those of the definition
ten_at : (c : List ℕ) (s r : ℕ) → r < s → s < 5 → get_or (ten_matches c) (matches_before s + r) 0 ≡ matched c s r
unfolding ten_matches
ten_at c zero r l g = absurd (omega arith)
ten_at c (suc zero) zero l g = refl
ten_at c (suc zero) (suc r) l g = absurd (omega arith)
ten_at c (suc (suc zero)) zero l g = refl
ten_at c (suc (suc zero)) (suc zero) l g = refl
ten_at c (suc (suc zero)) (suc (suc r)) l g = absurd (omega arith)
ten_at c (suc (suc (suc zero))) zero l g = refl
ten_at c (suc (suc (suc zero))) (suc zero) l g = refl
ten_at c (suc (suc (suc zero))) (suc (suc zero)) l g = refl
ten_at c (suc (suc (suc zero))) (suc (suc (suc r))) l g = absurd (omega arith)
ten_at c (suc (suc (suc (suc zero)))) zero l g = refl
ten_at c (suc (suc (suc (suc zero)))) (suc zero) l g = refl
ten_at c (suc (suc (suc (suc zero)))) (suc (suc zero)) l g = refl
ten_at c (suc (suc (suc (suc zero)))) (suc (suc (suc zero))) l g = refl
ten_at c (suc (suc (suc (suc zero)))) (suc (suc (suc (suc r)))) l g = absurd (omega arith)
ten_at c (suc (suc (suc (suc (suc s))))) r l g = absurd (omega arith)

match_by : (c : List ℕ) (s r : ℕ) (t : Bool) → ltb r s ≡ t → s < 5 → cond t (get_or (ten_matches c) (matches_before s + r) 0) 0 ≡ cond t (matched c s r) 0
match_by c s r true e l = ten_at c s r (ltb-true r s e) l
match_by c s r false e l = refl

cond_again : (t : Bool) (x : ℕ) → cond t (cond t x 0) 0 ≡ cond t x 0
cond_again true x = refl
cond_again false x = refl

match_at : (v : View) (c : List ℕ) → v.matches ≡ ten_matches c → (s r : ℕ) → s < 5 → match_in v s r ≡ matched c s r
unfolding match_in matched
match_at v c e s r l =
    rw e (match_by c s r (ltb r s) refl l ∙ cond_again (ltb r s) (get_or (matches_of c s) (s - suc r) 0))

-- m of a step of the view is the definitions'
pub match_is : (d : List ℕ) (k j s r : ℕ) → s < 5 → match_in (view_of d k j) s r ≡ matched (on_step (step_of d k j)) s r
unfolding view_of
match_is d k j s r l = match_at (view_of d k j) (on_step (step_of d k j)) refl s r l
