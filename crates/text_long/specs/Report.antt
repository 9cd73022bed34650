-- The report of a file that is longer than any accepted one is its refusal.
use Rattle.std.specs.Prelude.{ℕ, ◌<◌, ◌≡◌, List, length}
use Rattle.std.proofs.Common.{◌∙◌, ap, subst, ne_eqb}
use Rattle.rules.specs.Refusals.{day_fault}
use Rattle.rules.specs.Report.{refused_line, report_text}
use Rattle.day_header.specs.Long.{long_refused}
use Rattle.text.specs.Put.{Written}

pub report_long : (d : List ℕ) → 44360 < length d → refused_line (day_fault d) ≡ report_text d
unfolding report_text
report_long d l = rw (ne_eqb (day_fault d) 0 (long_refused d l))

pub written_long : (d b c : List ℕ) (x r : ℕ) → 44360 < length d → x ≡ day_fault d → Written 29 b 0 (refused_line x) r c → Written 29 b 0 (report_text d) r c
written_long d b c x r l e w = subst (λ (t : List ℕ). Written 29 b 0 t r c) (ap refused_line e ∙ report_long d l) w
