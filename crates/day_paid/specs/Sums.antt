-- What a day's lines are paid in all: their money added up is the total of each schedule, and it fits.
use Rattle.std.specs.Prelude.{ℕ, ◌*◌, ◌≤◌, ◌<◌, ◌^◌, ◌≡◌, ℤ}
use Rattle.std.proofs.Common.{arith, sym, ◌∙◌}
use Rattle.std.proofs.Math.Decide.{dec_lt}
use Rattle.std.proofs.Math.Path.{ap}
use mathlib.Core.List.{List}
use Rattle.rules.specs.Fold.{sum_to, five, at}
use Rattle.rules.specs.Layout.{quantity_most, price_most}
use Rattle.rules.specs.Payments.{Day}
use Rattle.rules.specs.Totals.{line_payment, total}
use Rattle.laws.specs.Folds.{sum_same, sum_most, at_five}
use Rattle.laws.specs.Ints.{pl, mi, split_is}
use Rattle.numbers.specs.Fives.{five_same, past_five}
use Rattle.step_payments.specs.declared.amounts.Money.{Money}
use Rattle.step_payments.specs.Amounts.{Signable, signed_payment}
use Rattle.step_pool.specs.Amounts.{sum_in, MoneyAddable}
use Rattle.step_inputs.specs.Paid.{DaySized, line_amount, line_paid_most, line_taken_most}
use Rattle.day_pools.specs.Sums.{place_of, row_to, money_to, sum_split}
use Rattle.day_pools.specs.Lines.{step_money, Part, paid_part, taken_part, money_place, payment_split, payment_is}

-- what line k is paid and what is taken back from it
unfoldable pub line_money : Day → ℕ → Money
line_money y k = money_to (y.count k) (step_money y k)

module _ (of : Money → List ℕ) (part : ℤ → ℕ) (row : Part of part) (y : Day) where
  line_place_lem : (k s : ℕ) → s < 5 → at (of (line_money y k)) s ≡ line_amount part y s k
  unfolding line_money line_amount
  line_place_lem k s l = money_place of part row y k (y.count k) s l

  -- places past the fifth
  past_sum : (n : ℕ) (f : ℕ → Money) (s : ℕ) → 5 ≤ s → at (of (money_to n f)) s ≡ 0
  past_sum n f s h = ap (λ (r : List ℕ). at r s) (row.sum n f) ∙ past_five (row_to n (λ i. of (f i))) s h

  past_line : (k s : ℕ) → 5 ≤ s → at (of (line_money y k)) s ≡ 0
  unfolding line_money
  past_line k = past_sum (y.count k) (step_money y k)

  lines_place : (n s : ℕ) → s < 5 → at (of (money_to n (line_money y))) s ≡ sum_to n (line_amount part y s)
  unfolding row_to place_of
  lines_place n s l =
      ap (λ (r : List ℕ). at r s) (row.sum n (line_money y))
      ∙ at_five (row_to n (λ i. of (line_money y i))) 0 s l
      ∙ sum_same n _ (line_amount part y s) (λ k h. line_place_lem k s l)

  module _ (c : y.lines ≤ 64) (most : (k : ℕ) → k < y.lines → (s : ℕ) → s < 5 → line_amount part y s k ≤ quantity_most * price_most) where
    lines_most : (n s : ℕ) → n ≤ y.lines → s < 5 → sum_to n (line_amount part y s) ≤ n * (quantity_most * price_most)
    lines_most n s h l = sum_most n (quantity_most * price_most) (line_amount part y s) (λ k g. most k (omega arith) s l)

    pub lines_add : (k : ℕ) → k < y.lines → (s : ℕ) → sum_in (of (money_to k (line_money y))) (of (line_money y k)) s < 2 ^ 64
    unfolding sum_in
    lines_add k h s =
        elim (dec_lt s 5) [
          | yes l ↦ omega (arith, c, lines_place k s l, line_place_lem k s l, lines_most k s (omega arith) l, most k h s l)
          | no g ↦ omega (arith, past_sum k (line_money y) s (omega arith), past_line k s (omega arith))
        ]

    pub lines_fit : (s : ℕ) → at (of (money_to y.lines (line_money y))) s < 2 ^ 63
    lines_fit s =
        elim (dec_lt s 5) [
          | yes l ↦ omega (arith, c, lines_place y.lines s l, lines_most y.lines s (omega arith) l)
          | no g ↦ omega (arith, past_sum y.lines (line_money y) s (omega arith))
        ]

module _ (y : Day) (z : DaySized y) where
  -- one line more can be added
  pub total_adds : (k : ℕ) → k < y.lines → MoneyAddable (money_to k (line_money y)) (line_money y k)
  total_adds k h =
      record {
        plus = lines_add (λ m. m.plus) pl paid_part y z.lines (line_paid_most y z) k h;
        minus = lines_add (λ m. m.minus) mi taken_part y z.lines (line_taken_most y z) k h;
      }

  pub total_signable : Signable (money_to y.lines (line_money y))
  total_signable =
      record {
        plus = lines_fit (λ m. m.plus) pl paid_part y z.lines (line_paid_most y z);
        minus = lines_fit (λ m. m.minus) mi taken_part y z.lines (line_taken_most y z);
      }

-- the total of a schedule, from the lines' money
total_place : (y : Day) (s : ℕ) → s < 5 → signed_payment (money_to y.lines (line_money y)) s ≡ total y s
unfolding signed_payment total
total_place y s l =
    let n = y.lines in
    let p = lines_place (λ m. m.plus) pl paid_part y n s l in
    let m = lines_place (λ m. m.minus) mi taken_part y n s l in
    rw (p, m) (sym (split_is (sum_split n (line_payment y s) (line_amount pl y s) (line_amount mi y s) (λ k h. payment_split y s k))))

pub total_is : (y : Day) → five (signed_payment (money_to y.lines (line_money y))) ≡ five (total y)
total_is y = five_same _ (total y) (total_place y)

-- the payments of a line, from its money
pub payments_are : (y : Day) (k : ℕ) → five (signed_payment (line_money y k)) ≡ five (λ s. line_payment y s k)
unfolding line_money
payments_are y k = five_same _ (λ s. line_payment y s k) (payment_is y k)
