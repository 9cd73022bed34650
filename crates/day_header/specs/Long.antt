-- A file that is longer than any accepted one: its first bytes and its length decide its number.
use Rattle.std.specs.Prelude.{ℕ, ◌+◌, ◌≤◌, ◌<◌, ◌≡◌, List, length, get_or, take}
use Rattle.std.proofs.Common.{arith, sym, ◌∙◌, ap, get_or-take}
use Rattle.rules.specs.Layout.{word, ad_hoc, market_at, lines_at, record_count}
use Rattle.rules.specs.Refusals.{header_fault_of, header_fault, day_fault}
use Rattle.laws.specs.Accepted.{accepted_header}
use Rattle.laws.specs.Folds.{part_stops, or_else_both}

-- "the first n bytes of d are h"
pub record Begins (d h : List ℕ) : Type 0 where
  pub first : take (length h) d ≡ h

-- a word among them is the file's
word_first : (d h : List ℕ) → Begins d h → (i : ℕ) → i + 4 ≤ length h → word h i ≡ word d i
word_first d h b i l =
    let byte : (j : ℕ) → j < length h → get_or h j 0 ≡ get_or d j 0 =
    λ j g. ap (λ (x : List ℕ). get_or x j 0) (sym b.first) ∙ get_or-take (length h) d j 0 g in
    rw (byte i (omega arith), byte (i + 1) (omega arith), byte (i + 2) (omega arith), byte (i + 3) (omega arith))

-- the header reads no other words
pub header_first : (d h : List ℕ) → Begins d h → 64 ≤ length h → (n : ℕ) → header_fault_of h n ≡ header_fault_of d n
unfolding header_fault_of ad_hoc market_at lines_at record_count
header_first d h b l n =
    rw (
      word_first d h b 0 (omega arith),
      word_first d h b 4 (omega arith),
      word_first d h b 8 (omega arith),
      word_first d h b 12 (omega arith),
      word_first d h b 16 (omega arith),
      word_first d h b 20 (omega arith),
    )

-- a file of more than 44,360 bytes is refused by its header
header_long : (d : List ℕ) → 44360 < length d → header_fault d ≡ 0 → ⊥
header_long d l e =
    let a = accepted_header d e in
    let n = a.count_most in
    let c = a.records_most in
    let p = a.lines_most in
    let s = a.length_is in
    absurd (omega arith)

pub long_refused : (d : List ℕ) → 44360 < length d → day_fault d ≡ 0 → ⊥
unfolding day_fault
long_refused d l e = header_long d l (or_else_both (header_fault d) _ e).left

pub number_long : (d h : List ℕ) (n x : ℕ) → Begins d h → length d ≡ n → 64 ≤ length h → 44360 < n → x ≡ header_fault_of h n → x ≡ day_fault d
unfolding header_fault day_fault
number_long d h n x b e l g xe =
    let header : x ≡ header_fault d = xe ∙ header_first d h b l n ∙ ap (header_fault_of d) (sym e) in
    part_stops _ _ _ header (λ z. header_long d (omega arith) (sym header ∙ z))
