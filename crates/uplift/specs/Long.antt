-- The uplift's line of a file that is longer than any accepted one is its refusal.
use Rattle.std.proofs.Common.{ℕ, ◌<◌, ◌≡◌, List, length, ne_eqb}
use Rattle.rules.specs.Refusals.{day_fault}
use Rattle.rules.specs.Report.{refused_line, uplift_report}
use Rattle.day_header.specs.Long.{long_refused}

pub uplift_long : (d : List ℕ) → 44360 < length d → refused_line (day_fault d) ≡ uplift_report d
unfolding uplift_report
uplift_long d l = rw (ne_eqb (day_fault d) 0 (long_refused d l))
