-- Bytes copied from one list to another: what is read of them is the same in both.
use Rattle.std.specs.Prelude.{ℕ, ◌+◌, ◌≤◌, ◌<◌, ◌≡◌, List, length, get_or, drop}
use Rattle.std.proofs.Common.{zero-add, arith, ◌∙◌, length-take, length-drop, get_or-take, get_or-drop}
use Rattle.rules.specs.Layout.{word}
use Rattle.book_layout.specs.Reading.{Stands}
use Rattle.old_layout.specs.File.{part}

-- n bytes of b from byte i on are those of d from byte p on
pub record Copied (b : List ℕ) (i : ℕ) (d : List ℕ) (p n : ℕ) : Type 0 where
  pub each : (j : ℕ) → j < n → get_or b (i + j) 0 ≡ get_or d (p + j) 0

pub part_length : (d : List ℕ) (p n : ℕ) → p + n ≤ length d → length (part d p n) ≡ n
part_length d p n h = rw (length-take n (drop p d), length-drop p d) (omega arith)

part_at : (d : List ℕ) (p n j : ℕ) → j < n → get_or (part d p n) j 0 ≡ get_or d (p + j) 0
part_at d p n j h = get_or-take n (drop p d) j 0 h ∙ get_or-drop p d j 0

-- a part is a copy, by itself and where it stands in another list
pub part_copied : (d : List ℕ) (p n : ℕ) → Copied (part d p n) 0 d p n
part_copied d p n = record { each = λ j h. rw (zero-add j) (part_at d p n j h) }

pub stands_copied : (b : List ℕ) (i : ℕ) (d : List ℕ) (p n : ℕ) → p + n ≤ length d → Stands b i (part d p n) → Copied b i d p n
stands_copied b i d p n h s =
    record { each = λ j l. s.each j (rw (part_length d p n h) l) ∙ part_at d p n j l }

byte_same : {b : List ℕ} {i : ℕ} {d : List ℕ} {p n : ℕ} → Copied b i d p n → (j x y : ℕ) → j < n → x ≡ i + j → y ≡ p + j → get_or b x 0 ≡ get_or d y 0
byte_same c j x y h e f = rw (e, f) (c.each j h)

-- a word within them
pub word_same : {b : List ℕ} {i : ℕ} {d : List ℕ} {p n : ℕ} → Copied b i d p n → (j x y : ℕ) → j + 4 ≤ n → x ≡ i + j → y ≡ p + j → word b x ≡ word d y
word_same {b} {i} {d} {p} {n} c j x y h e f =
    let b₀ : get_or b x 0 ≡ get_or d y 0 = byte_same c j x y (omega arith) e f in
    let b₁ : get_or b (x + 1) 0 ≡ get_or d (y + 1) 0 = byte_same c (j + 1) (x + 1) (y + 1) (omega arith) (omega arith) (omega arith) in
    let b₂ : get_or b (x + 2) 0 ≡ get_or d (y + 2) 0 = byte_same c (j + 2) (x + 2) (y + 2) (omega arith) (omega arith) (omega arith) in
    let b₃ : get_or b (x + 3) 0 ≡ get_or d (y + 3) 0 = byte_same c (j + 3) (x + 3) (y + 3) (omega arith) (omega arith) (omega arith) in
    rw (b₀, b₁, b₂, b₃)
