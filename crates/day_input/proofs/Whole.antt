-- What a program writes for a file that it read: the head was read into `buffer`, and `rest` is what was left of the stream then.
use Rattle.std.proofs.Common.{ℕ, ◌+◌, ◌≤◌, ◌<◌, ◌≡◌, List, [], ◌++◌, length, take, Bool, true, false, cond, ltb, Option, None, Some, Result, Ok, Err, OnOk, arith, sym, ap, ◌∙◌, subst, length-append, append-nil, take_all, le-ltb}
use native.Mathlib.Decide.{dec_lt}
use Rattle.std.specs.Io.KnownBytes.{Appends, Consumes, IsAtEnd}
use Rattle.rules.specs.Refusals.{day_fault}
use Rattle.rules.specs.Report.{refused_line}
use Rattle.text.specs.Put.{Written, written_front}
use Rattle.day_input.specs.Stream.{LongTold, Answered}

-- the file went on, and its refusal was written
went_on : (text : List ℕ → List ℕ) (known rest old new : Option (List ℕ)) (buffer : List ℕ) (n : ℕ) → length buffer ≡ 65536
    → Consumes known rest (take n buffer) → n ≡ 65536 → ((d : List ℕ) → 44360 < length d → refused_line (day_fault d) ≡ text d)
    → LongTold true buffer n rest old new → Answered text known old new
went_on text None rest old new buffer n size read full is told = tt
went_on text (Some d) None old new buffer n size read full is told = absurd read
went_on text (Some d) (Some xs) old new buffer n size read full is told =
    λ few.
    let whole : d ≡ buffer ++ xs = read ∙ ap (λ l. l ++ xs) (take_all n buffer (omega arith)) in
    let sum : length d ≡ length buffer + length xs = ap length whole ∙ length-append buffer xs in
    let here = told (omega arith) size (omega arith) in
    subst (Appends old new) (ap (λ l. refused_line (day_fault l)) (sym whole) ∙ is d (omega arith)) here

pub answered_long : (text : List ℕ → List ℕ) (known rest old new : Option (List ℕ)) (buffer : List ℕ) (n : ℕ) (more : Bool) → length buffer ≡ 65536
    → Consumes known rest (take n buffer) → more ≡ true → (n < 65536 → more ≡ false) → n ≤ 65536
    → ((d : List ℕ) → 44360 < length d → refused_line (day_fault d) ≡ text d) → LongTold more buffer n rest old new → Answered text known old new
answered_long text known rest old new buffer n more size read e short most is told =
    let full : n ≡ 65536 =
    elim (dec_lt n 65536) [ yes l ↦ (let both : true ≡ false = sym e ∙ short l in cc) | no g ↦ omega arith ] in
    went_on text known rest old new buffer n size read full is (subst (λ b. LongTold b buffer n rest old new) e told)

-- the file ended, and the text of what was read was written after what `mid` holds, which is what `old` does
ended : (text : List ℕ → List ℕ) (known rest mid old new : Option (List ℕ)) (buffer : List ℕ) (n : ℕ) → length buffer ≡ 65536
    → Consumes known rest (take n buffer) → (n < 65536 → IsAtEnd rest) → LongTold false buffer n rest old mid
    → Appends old new (text (take n buffer)) → Answered text known old new
ended text None rest mid old new buffer n size read end told put = tt
ended text (Some d) None mid old new buffer n size read end told put = absurd read
ended text (Some d) (Some xs) mid old new buffer n size read end told put =
    λ few.
    let sum : length d ≡ length (take n buffer) + length xs = ap length read ∙ length-append (take n buffer) xs in
    let none : xs ≡ [] = elim (dec_lt n 65536) [ yes l ↦ end l | no g ↦ told (omega arith) size (omega arith) ] in
    subst (λ l. Appends old new (text l)) (sym (read ∙ ap (λ l. take n buffer ++ l) none ∙ append-nil (take n buffer))) put

pub answered_read : {T E : Type 0} (r : Result T E) (text : List ℕ → List ℕ) (known rest mid old new : Option (List ℕ)) (buffer out : List ℕ) (n : ℕ) (more : Bool)
    → length buffer ≡ 65536 → Consumes known rest (take n buffer) → more ≡ false → (n < length buffer → IsAtEnd rest) → LongTold more buffer n rest old mid
    → mid ≡ old → OnOk r (Appends mid new out) → out ≡ text (take n buffer) → OnOk r (Answered text known old new)
answered_read (Ok v) text known rest mid old new buffer out n more size read e end told same put is =
    let finished : n < 65536 → IsAtEnd rest = λ l. end (omega arith) in
    ended text known rest mid old new buffer n size read finished (subst (λ b. LongTold b buffer n rest old mid) e told)
    (subst (λ o. Appends o new (text (take n buffer))) same (subst (Appends mid new) is put))
answered_read (Err x) text known rest mid old new buffer out n more size read e end told same put is = tt

-- a text that has room in the lent bytes stands at their front
pub written_lent : {l m : List ℕ} {t : List ℕ} (most r : ℕ) → Written (length l) l 0 (cond (ltb (length l) most) [] t) r m → most ≤ length l → r ≤ length m
    → take r m ≡ t
written_lent {l} {m} {t} most r w h fits = let e = written_front w fits in rw (le-ltb (length l) most h) at e
