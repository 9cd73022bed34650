-- The uplift program's line (document 02, F-1): how long it is at most, and its text by the answer's cases.
use Rattle.std.specs.Prelude.{ℕ, ◌≤◌, ◌<◌, ◌≡◌, List, [], ◌++◌, cond, ltb, ℤ}
use Rattle.std.proofs.Math.Path.{sym, ap}
use Rattle.std.proofs.Common.{◌∙◌}
use borrow.Author.Tests.{lt-ltb, le-ltb, eq-eqb, ne_eqb}
use Rattle.rules.specs.Fold.{at_z}
use Rattle.rules.specs.Refusals.{day_fault}
use Rattle.rules.specs.Uplift.{uplift_answer}
use Rattle.rules.specs.Report.{uplift_text, five_numbers, refused_line, uplift_line, report_text, uplift_report}
use Rattle.rules.specs.declared.Uplift.{Uplift}

-- the word, five numbers of at most 21 bytes, each after a space, and the line's end
abbrev pub line_most : ℕ
line_most = 117

-- `uplift` and five numbers
unfoldable pub shares_line : (ℕ → ℤ) → List ℕ
shares_line f = uplift_text ++ five_numbers f

module _ (d : List ℕ) (lent : ℕ) where
  -- what is put into the lent bytes
  abbrev pub put : List ℕ
  put = cond (ltb lent line_most) [] (uplift_report d)

  pub put_short : lent < line_most → [] ≡ put
  put_short h = rw (lt-ltb lent line_most h)

  module _ (h : line_most ≤ lent) (r : Uplift) (e : r ≡ uplift_answer d) where
    number_is : r.number ≡ day_fault d
    unfolding uplift_answer
    number_is = ap (λ (x : Uplift). x.number) e

    pub put_refused : (r.number ≡ 0 → ⊥) → refused_line r.number ≡ put
    unfolding uplift_report
    put_refused g =
        let z : day_fault d ≡ 0 → ⊥ = λ f. g (number_is ∙ f) in
        rw (le-ltb lent line_most h, ne_eqb (day_fault d) 0 z, number_is)

    pub put_shared : r.number ≡ 0 → shares_line (at_z r.shares) ≡ put
    unfolding uplift_report uplift_line shares_line uplift_answer five_numbers Rattle.rules.specs.Fold.joined Rattle.rules.specs.Report.number_after
    put_shared g =
        let z : day_fault d ≡ 0 = sym number_is ∙ g in
        rw (le-ltb lent line_most h, e, eq-eqb (day_fault d) 0 z)

-- a refused day's line is its report's, so `text_long::put_long` puts this program's too
pub refused_same : (d : List ℕ) → (day_fault d ≡ 0 → ⊥) → uplift_report d ≡ report_text d
unfolding uplift_report report_text
refused_same d g = rw (ne_eqb (day_fault d) 0 g)
