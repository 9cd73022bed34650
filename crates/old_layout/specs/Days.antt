-- THE SAME BOOK: two days that agree on their lines, on those lines' steps, and in the clawback switch have the same payments, totals, book
-- and text. What a day says past its lines, and of a line past its steps, is never read.
use Rattle.std.specs.Prelude.{ℕ, ◌<◌, ◌≡◌}
use Rattle.rules.specs.Payments.{Day}

pub record SameDay (y z : Day) : Type 0 where
  pub lines : y.lines ≡ z.lines
  pub participant : (k : ℕ) → k < z.lines → y.participant k ≡ z.participant k
  pub point : (k : ℕ) → k < z.lines → y.point k ≡ z.point k
  pub side : (k : ℕ) → k < z.lines → y.side k ≡ z.side k
  pub count : (k : ℕ) → k < z.lines → y.count k ≡ z.count k
  pub step : (k j : ℕ) → k < z.lines → j < z.count k → y.step k j ≡ z.step k j
  pub clawback : y.clawback ≡ z.clawback
