-- Money of a day: t(1) is not below 0, the totals add up to all payments, and the adjusted totals to both.
use Rattle.std.specs.Prelude.{ℕ, ◌*◌, ◌≤◌, ◌<◌, ◌≡◌, refl, Bool, true, false, cond, ℤ, pos, ◌*ℤ◌}
use Rattle.std.proofs.Math.Nat.{zero-sub}
use Rattle.std.proofs.Common.{zero-mul, arith, sym, ◌∙◌}
use Rattle.std.proofs.Math.IntN.{sub_ℕ}
use Rattle.rules.specs.Fold.{sum_z, at, before, at_z}
use Rattle.rules.specs.Layout.{most_lines, quantity_most, price_most}
use Rattle.rules.specs.Matching.{earlier}
use Rattle.rules.specs.Payments.{on_step, rate, is_paid, initial, final_payment, Pool, Day, pool_of, step_final}
use Rattle.rules.specs.declared.Step.{Step}
use Rattle.rules.specs.Totals.{line_payment, total, totals, carried, adjusted, adjusted_total}
use Rattle.laws.specs.Folds.{at_five}
use Rattle.laws.specs.Ints.{pl, mi, mi_subℕ, mi_scale}
use Rattle.day_totals.specs.Sizes.{size, Bounded}
use Rattle.day_totals.specs.Parts.{is_kept, case_of}
use Rattle.day_totals.specs.Balance.{owes_by, exact_after, sums_so_far, none_left}
use Rattle.day_totals.specs.Sums.{sum_z_same, sum_z_swap, sum_z_whole, sum_z_size}

-- in the first schedule a final is an initial, and that is a rise times a rate
initial_by : (t : Bool) (c r : ℕ) → mi (cond t (sub_ℕ c 0 *ℤ pos r) (pos 0)) ≡ 0
initial_by true c r = rw (mi_scale (sub_ℕ c 0) r, mi_subℕ c 0, zero-sub c, zero-mul r)
initial_by false c r = refl

first_final : (x : Step) (claw : ℕ) (p : Pool) → mi (final_payment x claw 0 p) ≡ 0
unfolding final_payment initial earlier before
first_final x claw p = initial_by (is_paid x 0) (at (on_step x) 0) (rate x 0)

-- t(1) is not below 0
first_whole : (y : Day) → mi (sum_z y.lines (line_payment y 0)) ≡ 0
unfolding line_payment step_final
first_whole y =
    sum_z_whole y.lines (line_payment y 0)
    (λ k l. sum_z_whole (y.count k) (step_final y 0 k) (λ j g. first_final (y.step k j) y.clawback (pool_of y (y.side k) 0)))

pub first_total : (y : Day) → mi (total y 0) ≡ 0
unfolding total
first_total y = first_whole y

-- the payments of line k in the five schedules
unfoldable pub line_payments : Day → ℕ → ℤ
line_payments y k = sum_z 5 (λ s. line_payment y s k)

-- the five totals add up to all payments
pub totals_sum : (y : Day) → sum_z 5 (total y) ≡ sum_z y.lines (line_payments y)
unfolding total line_payments
totals_sum y = sum_z_swap 5 y.lines (line_payment y)

-- and so do the five adjusted totals
pub adjusted_payments : (y : Day) → sum_z 5 (adjusted_total y) ≡ sum_z y.lines (line_payments y)
unfolding adjusted_total totals total
adjusted_payments y =
    sym (sums_so_far (totals y) (first_whole y) 5 ∙ none_left (totals y) (first_whole y))
    ∙ sum_z_same 5 (at_z (totals y)) (total y) (at_five (total y) (pos 0))
    ∙ totals_sum y

pub adjusted_order : (y : Day) (r s : ℕ) → r < s → s < 5 → 0 < pl (adjusted_total y r) → mi (adjusted_total y s) ≡ 0
unfolding adjusted_total totals total
adjusted_order y r s l g p =
    let t = totals y in
    owes_by t s g (carried t s) (adjusted t s) (is_kept t s) (case_of t s) (exact_after t (first_whole y) r s l (omega arith) p)

-- totals of lines that are each paid at most the limits of quantity and price multiplied
pub totals_bounded : (y : Day) → y.lines ≤ most_lines → ((k : ℕ) → k < y.lines → (s : ℕ) → s < 5 → size (line_payment y s k) ≤ quantity_most * price_most) → Bounded (totals y)
unfolding totals total
totals_bounded y c h =
    record {
      most =
          λ s l.
          let m = sum_z_size y.lines (quantity_most * price_most) (line_payment y s) (λ k g. h k g s l) in
          rw (at_five (total y) (pos 0) s l) (omega arith);
    }
