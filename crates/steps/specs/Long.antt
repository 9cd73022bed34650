-- The text of a file that is longer than any accepted one is its refusal.
use Rattle.std.proofs.Common.{ℕ, ◌<◌, ◌≡◌, List, length, ne_eqb}
use Rattle.rules.specs.Refusals.{day_fault}
use Rattle.rules.specs.Report.{refused_line}
use Rattle.day_header.specs.Long.{long_refused}
use Rattle.text_steps.specs.Text.{steps_text}

pub steps_long : (d : List ℕ) → 44360 < length d → refused_line (day_fault d) ≡ steps_text d
unfolding steps_text
steps_long d l = rw (ne_eqb (day_fault d) 0 (long_refused d l))
