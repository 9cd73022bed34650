-- The text of the cutter's answer: `cut COUNT`, for each step `END P1 P2 P3 P4 P5`, `flags F1 .. F5`, `missing N1 .. N5`; or `refused` and the number.
use Rattle.std.specs.Prelude.{ℕ, ◌≤◌, ◌<◌, ◌≡◌, List, [], ◌∷◌, ◌++◌, cond, eqb, ltb}
use Rattle.std.proofs.Common.{lt-ltb, le-ltb, eq-eqb, ne_eqb}
use Rattle.rules.specs.Fold.{joined, five, at}
use Rattle.rules.specs.Report.{refused_line}
use Rattle.rules.specs.declared.Cut.{Cut}
use Rattle.cutter_text.specs.CutRows.{row_text, cut_step_text, count_text, row_of}

-- "flags", "missing"
abbrev pub flags_word : List ℕ
flags_word = 102 ∷ 108 ∷ 97 ∷ 103 ∷ 115 ∷ []

abbrev pub missing_word : List ℕ
missing_word = 109 ∷ 105 ∷ 115 ∷ 115 ∷ 105 ∷ 110 ∷ 103 ∷ []

-- the text of an answer with the number 0
unfoldable pub accepted_text : Cut → List ℕ
accepted_text r =
    count_text r.count ++ joined r.count (cut_step_text r)
    ++ (flags_word ++ row_text (at r.flags))
    ++ (missing_word ++ row_text (at r.missing))

unfoldable pub cut_text : Cut → List ℕ
cut_text r = cond (eqb r.number 0) (accepted_text r) (refused_line r.number)

-- the bytes that no answer's text passes
abbrev pub text_most : ℕ
text_most = 8000

-- what is put into `lent` bytes: nothing where they are too few
unfoldable pub lent_text : Cut → ℕ → List ℕ
lent_text r lent = cond (ltb lent text_most) [] (cut_text r)

pub steps_is : (r : Cut) {n : ℕ} {f m : List ℕ} → n ≡ r.count → f ≡ r.flags → m ≡ five (at r.missing)
    → count_text r.count ++ joined n (cut_step_text r) ++ (flags_word ++ row_text (at f)) ++ (missing_word ++ row_text (at m)) ≡ accepted_text r
unfolding accepted_text
steps_is r e f g = rw (e, f, g, row_of (at r.missing))

-- the text by its cases
pub text_refused : (r : Cut) → (r.number ≡ 0 → ⊥) → refused_line r.number ≡ cut_text r
unfolding cut_text
text_refused r h = rw (ne_eqb r.number 0 h)

pub text_steps : (r : Cut) → r.number ≡ 0 → accepted_text r ≡ cut_text r
unfolding cut_text
text_steps r h = rw (eq-eqb r.number 0 h)

pub lent_short : (r : Cut) (lent : ℕ) → lent < text_most → [] ≡ lent_text r lent
unfolding lent_text
lent_short r lent h = rw (lt-ltb lent text_most h)

pub lent_whole : (lent : ℕ) {r a : Cut} → r ≡ a → text_most ≤ lent → cut_text r ≡ lent_text a lent
unfolding lent_text
lent_whole lent {r} {a} e h = rw (e, le-ltb lent text_most h)
