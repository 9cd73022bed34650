-- What a day's lines are paid, one line after another, five payments a line.
use Rattle.std.specs.Prelude.{ℕ, zero, suc, ◌+◌, ◌*◌, ◌≤◌, ◌<◌, ◌≡◌, refl, List, [], ◌∷◌, ◌++◌, length, set, get_or, drop, ℤ, pos}
use Rattle.std.proofs.Common.{add-zero, add-one, arith, sym, ◌∙◌, ap, length-append, get_or-append-add}
use Rattle.std.proofs.Math.Decide.{dec_lt}
use Rattle.std.proofs.Math.ListN.{get_or-append}
use Rattle.std.proofs.lemmas.List.Edits.{sets, sets-eq}
use Rattle.std.proofs.Math.Seq.{length-sets}
use Rattle.rules.specs.Fold.{five, at, at_z, list_to}
use Rattle.rules.specs.Payments.{Day}
use Rattle.rules.specs.Totals.{line_payment}
use Rattle.laws.specs.Folds.{list_length, list_at, at_five}

-- the payments of line k; of the first n lines
abbrev pub payments_of : Day → ℕ → List ℤ
payments_of y k = five (λ s. line_payment y s k)

unfoldable pub payments_to : Day → ℕ → List ℤ
payments_to y zero = []
payments_to y (suc n) = payments_to y n ++ payments_of y n

pub payments_length : (y : Day) (n : ℕ) → length (payments_to y n) ≡ 5 * n
unfolding payments_to
payments_length y zero = refl
payments_length y (suc n) =
    let r = payments_length y n in
    rw (length-append (payments_to y n) (payments_of y n)) (omega arith)

-- stores one after another
module _ {A : Type 0} where
  sets_append : (l : List A) (at : ℕ) (s t : List A) → sets l at (s ++ t) ≡ sets (sets l at s) (at + length s) t
  sets_append l at [] t = rw add-zero refl
  sets_append l at (b ∷ s) t =
      let r = sets_append (set l at b) (suc at) s t in
      let e : suc at + length s ≡ at + suc (length s) = omega arith in
      r ∙ ap (λ (i : ℕ). sets (sets (set l at b) (suc at) s) i t) e

  sets_next : (l m n s t : List A) (at : ℕ) → length s ≡ at → m ≡ sets l 0 s → n ≡ sets m at t → n ≡ sets l 0 (s ++ t)
  sets_next l m n s t at h me ne =
      let e : at ≡ 0 + length s = omega arith in
      ne ∙ ap (λ (x : List A). sets x at t) me ∙ ap (λ (i : ℕ). sets (sets l 0 s) i t) e ∙ sym (sets_append l 0 s t)

-- one line more
pub payments_next : (y : Day) (k : ℕ) (l m n : List ℤ) → m ≡ sets l 0 (payments_to y k) → n ≡ sets m (5 * k) (payments_of y k) → n ≡ sets l 0 (payments_to y (k + 1))
unfolding payments_to
payments_next y k l m n me ne =
    rw (add-one k) (sets_next l m n (payments_to y k) (payments_of y k) (5 * k) (payments_length y k) me ne)

pub counts_next : (f : ℕ → ℕ) (k : ℕ) (l m n : List ℕ) → m ≡ sets l 0 (list_to k f) → n ≡ set m k (f k) → n ≡ sets l 0 (list_to (k + 1) f)
unfolding list_to
counts_next f k l m n me ne =
    rw (add-one k) (sets_next l m n (list_to k f) (f k ∷ []) k (list_length k f) me ne)

pub payments_none : (y : Day) (l : List ℤ) → l ≡ sets l 0 (payments_to y 0)
unfolding payments_to
payments_none y l = refl

pub counts_none : (f : ℕ → ℕ) (l : List ℕ) → l ≡ sets l 0 (list_to 0 f)
unfolding list_to
counts_none f l = refl

-- what stands in the places then
payment_in : (y : Day) (n k s : ℕ) → k < n → s < 5 → at_z (payments_to y n) (5 * k + s) ≡ line_payment y s k
unfolding payments_to
payment_in y zero k s l h = absurd (omega arith)
payment_in y (suc n) k s l h =
    let long = payments_length y n in
    elim (dec_lt k n) [
      | yes g ↦ get_or-append (payments_to y n) (payments_of y n) (pos 0) (5 * k + s) (omega arith) ∙ payment_in y n k s g h
      | no g ↦
          let e : k ≡ n = omega arith in
          let place : 5 * k + s ≡ length (payments_to y n) + s = omega arith in
          rw place (get_or-append-add (payments_to y n) (payments_of y n) s (pos 0)) ∙ at_five (λ t. line_payment y t n) (pos 0) s h
          ∙ ap (line_payment y s) (sym e)
    ]

stored : {A : Type 0} (l m s : List A) (i : ℕ) (d : A) → m ≡ sets l 0 s → length s ≤ length l → i < length s → get_or m i d ≡ get_or s i d
stored {A} l m s i d e h g =
    let whole : m ≡ s ++ drop (0 + length s) l = e ∙ sets-eq s l 0 (omega arith) in
    ap (λ (x : List A). get_or x i d) whole ∙ get_or-append s (drop (0 + length s) l) d i g

-- the places of a day that is paid: line k's payment in s at 5 k + s, its step count at k
pub record PaidDay (y : Day) (p : List ℤ) (c : List ℕ) : Type 0 where
  pub paid_long : length p ≡ 320
  pub counts_long : length c ≡ 64
  pub payment : (k s : ℕ) → k < y.lines → s < 5 → at_z p (5 * k + s) ≡ line_payment y s k
  pub count : (k : ℕ) → k < y.lines → at c k ≡ y.count k

pub paid_day : (y : Day) (p q : List ℤ) (b c : List ℕ) → y.lines ≤ 64 → q ≡ sets p 0 (payments_to y y.lines) → c ≡ sets b 0 (list_to y.lines y.count)
    → length p ≡ 320 → length b ≡ 64 → PaidDay y q c
paid_day y p q b c n pe ce pl cl =
    let long = payments_length y y.lines in
    let many = list_length y.lines y.count in
    record {
      paid_long = ap length pe ∙ length-sets p 0 (payments_to y y.lines) ∙ pl;
      counts_long = ap length ce ∙ length-sets b 0 (list_to y.lines y.count) ∙ cl;
      payment = λ k s l h.
          stored p q (payments_to y y.lines) (5 * k + s) (pos 0) pe (omega arith) (omega arith) ∙ payment_in y y.lines k s l h;
      count = λ k l. stored b c (list_to y.lines y.count) k 0 ce (omega arith) (omega arith) ∙ list_at y.lines y.count k l;
    }
