-- The ends of an accepted line's steps rise from 0 to M, so the widths add up to it.
use Rattle.std.specs.Prelude.{ℕ, zero, suc, ◌-◌, ◌≤◌, ◌<◌, ◌≡◌, List}
use native.Mathlib.Omega.{arith}
use Rattle.std.proofs.Common.{◌∙◌, ap}
use Rattle.rules.specs.Fold.{sum_to}
use Rattle.rules.specs.Quantities.{allocated, untaken}
use Rattle.rules.specs.Steps.{greatest_break, ends, step_count, upper_end, lower_end}
use Rattle.laws.specs.Accepted.{AcceptedLine}
use Rattle.laws.specs.Folds.{sum_same}
use Rattle.cutter.specs.Lists.{rises_at, in_at}
use Rattle.cutter.specs.Ends.{ends_rise, end_of, end_most, count_some, last_is}
use Rattle.step_quantities.specs.Adding.{RisingEnds, allocated_between, steps_add_up}

-- a step's width
abbrev pub width : List ℕ → ℕ → ℕ
width w j = upper_end w j - lower_end w j

-- what stands before the end of n steps is the last one's upper end
lower_last : (w : List ℕ) (n : ℕ) → 0 < n → lower_end w n ≡ upper_end w (n - 1)
unfolding lower_end upper_end
lower_last w zero h = absurd (omega arith)
lower_last w (suc n) h = ap (upper_end w) (omega arith)

module _ (w : List ℕ) (a : AcceptedLine w) where
  end_rises : (j : ℕ) → j < step_count w → lower_end w j < upper_end w j
  unfolding step_count lower_end upper_end
  end_rises j l = rises_at (ends_rise w a) j l

  pub line_ends : RisingEnds w
  line_ends =
      record {
        rising = λ j l. omega (arith, end_rises j l);
        last = lower_last w (step_count w) (count_some w a) ∙ last_is w a;
      }

  pub upper_most : (j : ℕ) → j < step_count w → upper_end w j ≤ greatest_break w
  unfolding step_count upper_end
  upper_most j l = end_most w a (upper_end w j) (end_of w (upper_end w j) (in_at (ends w) j l))

  width_is : (j : ℕ) → j < step_count w → width w j ≡ allocated_between (greatest_break w) (lower_end w) j
  unfolding allocated_between allocated lower_end upper_end
  width_is j l = let u = upper_most j l in omega arith

  pub widths_sum : sum_to (step_count w) (width w) ≡ greatest_break w
  unfolding untaken
  widths_sum =
      sum_same (step_count w) (width w) (allocated_between (greatest_break w) (lower_end w)) width_is
      ∙ omega (arith, steps_add_up w (greatest_break w) line_ends)
