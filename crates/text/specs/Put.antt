-- What a writing function answers: its text put into the lent bytes from a place on (`sets`), and the place after it.
use Rattle.std.specs.Prelude.{ℕ, zero, suc, ◌+◌, ◌*◌, ◌≤◌, ◌<◌, ◌≡◌, refl, List, [], ◌∷◌, ◌++◌, length, set, take, get_or}
use Rattle.std.proofs.Common.{add-zero, mul-suc, add-one, arith, sym, ◌∙◌, ap, length-append, take-suc, take_all}
use Rattle.std.proofs.lemmas.List.Edits.{sets, sets-eq}
use lib.Seq.{length-sets, take-append_seam}
use Rattle.rules.specs.Fold.{joined}
use Rattle.laws.specs.Folds.{joined_none, joined_suc, joined_more}

-- the text t, of at most `room` bytes, was put into the bytes l at `at`: r is the place after it, m the bytes then
pub record Written (room : ℕ) (l : List ℕ) (at : ℕ) (t : List ℕ) (r : ℕ) (m : List ℕ) : Type 0 where
  pub most : length t ≤ room
  pub end : r ≡ at + length t
  pub bytes : m ≡ sets l at t

-- two texts, one after the other
sets_append : (l : List ℕ) (at : ℕ) (s t : List ℕ) → sets l at (s ++ t) ≡ sets (sets l at s) (at + length s) t
sets_append l at [] t = rw add-zero refl
sets_append l at (b ∷ s) t =
    let r = sets_append (set l at b) (suc at) s t in
    let e : suc at + length s ≡ at + suc (length s) = omega arith in
    r ∙ ap (λ (i : ℕ). sets (sets (set l at b) (suc at) s) i t) e

-- nothing, one byte, a text and then another
pub written_none : (l : List ℕ) (at : ℕ) → Written 0 l at [] (at + 0) l
written_none l at = record { most = omega arith; end = refl; bytes = refl }

pub written_byte : (l : List ℕ) (at b : ℕ) → Written 1 l at (b ∷ []) (at + 1) (set l at b)
written_byte l at b = record { most = omega arith; end = refl; bytes = refl }

pub then : {l m n : List ℕ} {at p q i j : ℕ} {s t : List ℕ} → Written i l at s p m → Written j m p t q n → Written (i + j) l at (s ++ t) q n
then {l} {m} {n} {at} {p} {q} {i} {j} {s} {t} a b =
    record {
      most = omega (arith, length-append s t, a.most, b.most);
      end = omega (arith, length-append s t, a.end, b.end);
      bytes = b.bytes ∙ (rw (a.bytes, a.end) (sym (sets_append l at s t)));
    }

-- the same text in another form; within another room
pub written_as : {l m : List ℕ} {at r i : ℕ} {s t : List ℕ} → s ≡ t → Written i l at s r m → Written i l at t r m
written_as e w = rw e at w

pub written_within : {l m : List ℕ} {at r i j : ℕ} {t : List ℕ} → Written i l at t r m → length t ≤ j → Written j l at t r m
written_within w h = record { most = h; end = w.end; bytes = w.bytes }

pub written_wider : {l m : List ℕ} {at r : ℕ} {t : List ℕ} (i j : ℕ) → Written i l at t r m → i ≤ j → Written j l at t r m
written_wider i j w h = written_within w (omega (arith, w.most))

-- an empty text, at the first place
pub written_nothing : (i : ℕ) (l : List ℕ) {t : List ℕ} → [] ≡ t → Written i l 0 t 0 l
written_nothing i l e = written_as e (written_wider 0 i (written_none l 0) (omega arith))

-- a text's first i bytes, then one more of them; all of them
pub written_more : {l m : List ℕ} {at : ℕ} (t : List ℕ) (i : ℕ) → Written i l at (take i t) (at + i) m → i < length t
    → Written (i + 1) l at (take (i + 1) t) (at + (i + 1)) (set m (at + i) (get_or t i 0))
written_more {l} {m} {at} t i w h =
    let e : at + (i + 1) ≡ at + i + 1 = omega arith in
    let f : take (i + 1) t ≡ take i t ++ (get_or t i 0 ∷ []) = rw add-one (take-suc t i 0 h) in
    rw (e, f) (then w (written_byte m (at + i) (get_or t i 0)))

pub written_all : {l m : List ℕ} {at r : ℕ} (t : List ℕ) (i : ℕ) → Written i l at (take i t) r m → length t ≤ i → Written (length t) l at t r m
written_all t i w h = written_within (written_as (take_all i t h) w) (omega arith)

-- a text put at the front stands there
front_of : (l t : List ℕ) (n : ℕ) → n ≡ length t → n ≤ length l → take n (sets l 0 t) ≡ t
front_of l t n e h =
    let z : 0 + length t ≤ length l = omega arith in
    rw (sets-eq t l 0 z, e) (take-append_seam t _)

pub written_front : {l m : List ℕ} {r i : ℕ} {t : List ℕ} → Written i l 0 t r m → r ≤ length m → take r m ≡ t
written_front {l} {m} {r} {i} {t} w h =
    let long : length m ≡ length l = ap length w.bytes ∙ length-sets l 0 t in
    let end : r ≡ length t = omega (arith, w.end) in
    rw w.bytes (front_of l t r end (omega arith))

-- a row of texts, each of at most i bytes: none, and one more
pub row_none : (f : ℕ → List ℕ) (l : List ℕ) (i at : ℕ) → Written (i * 0) l at (joined 0 f) at l
row_none f l i at = rw (joined_none f) (record { most = omega arith; end = omega arith; bytes = refl })

pub row_more : (f : ℕ → List ℕ) (i k : ℕ) {l m n : List ℕ} {at p q : ℕ} → Written (i * k) l at (joined k f) p m → Written i m p (f k) q n
    → Written (i * (k + 1)) l at (joined (k + 1) f) q n
row_more f i k v w =
    let e : i * (k + 1) ≡ i * k + i = rw add-one (mul-suc i k) in
    rw (e, joined_more k f) (then v w)

-- rows of equal texts
pub joined_same : (n : ℕ) (f g : ℕ → List ℕ) → ((k : ℕ) → k < n → f k ≡ g k) → joined n f ≡ joined n g
joined_same zero f g h = joined_none f ∙ sym (joined_none g)
joined_same (suc n) f g h =
    let r = joined_same n f g (λ k l. h k (omega arith)) in
    let e = h n (omega arith) in
    rw (joined_suc n f, joined_suc n g, r, e)
