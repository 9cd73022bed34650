-- What was counted of a stream adds up, and the refusal that is written is the whole file's.
use Rattle.std.proofs.Common.{ℕ, ◌+◌, ◌≤◌, ◌<◌, ◌≡◌, List, ◌++◌, length, take, Option, None, Some, IfSome, arith, sym, ◌∙◌, subst, length-append}
use Rattle.std.proofs.KnownBytes.{Consumes-trans}
use lib.Seq.{take-append_seam}
use Rattle.std.specs.Io.KnownBytes.{Appends}
use Rattle.rules.specs.Refusals.{day_fault}
use Rattle.rules.specs.Report.{refused_line, report_text}
use Rattle.day_header.specs.Long.{Begins}
use Rattle.text.specs.Put.{Written, written_front}
use Rattle.text_long.specs.Report.{report_long}
use Rattle.day_input.specs.Stream.{Passes, Counted}

-- m bytes were read, and then n
pub passes_more : (a b c : Option (List ℕ)) (m n : ℕ) → Passes a b m → Passes b c n → Passes a c (m + n)
passes_more a b c m n p q =
    (p.0 ++ q.0, omega (arith, length-append p.0 q.0, p.1, q.1), Consumes-trans a b c p.0 q.0 p.2 q.2)

-- the head and m bytes after it are the file, whose refusal stands at the front of `out`
pub long_told : (known old new : Option (List ℕ)) (head b out : List ℕ) (n m r : ℕ) → n ≡ 65536 → length head ≡ 65536 → Counted known m
    → ((d : List ℕ) → Begins d head → length d ≡ n + m → Written 29 b 0 (report_text d) r out) → r ≤ length out → Appends old new (take r out)
    → IfSome known (λ xs. length xs < 17592186044416 → Appends old new (refused_line (day_fault (head ++ xs))))
long_told None old new head b out n m r full whole count written fits put = tt
long_told (Some xs) old new head b out n m r full whole count written fits put =
    λ few.
    let d = head ++ xs in
    let size : length d ≡ n + m = omega (arith, length-append head xs, count few) in
    let long : 44360 < length d = omega (arith, length-append head xs) in
    let front = written_front (written d (record { first = take-append_seam head xs }) size) fits in
    subst (Appends old new) (front ∙ sym (report_long d long)) put
