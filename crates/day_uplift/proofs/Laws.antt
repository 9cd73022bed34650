-- A day: its totals and adjusted totals, its answer refused, and its answer.
use Prim.Native.Nat.{ℕ}
use mathlib.Core.Path.{◌≡◌, refl}
use mathlib.Core.List.{List}
use lib.IntN.{ℤ, pos}
use borrow.Author.Tests.{ne_eqb}
use Rattle.rules.specs.Fold.{five}
use Rattle.rules.specs.Refusals.{day_fault}
use Rattle.rules.specs.Totals.{total, totals, adjusted_total}
use Rattle.rules.specs.Days.{settled_day}
use Rattle.rules.specs.Uplift.{share_of, uplift, uplift_answer}
use Rattle.laws.specs.Accepted.{AcceptedDay}
use Rattle.day_totals.specs.Money.{first_total}
use Rattle.step_inputs.specs.Paid.{settled_sized, day_bounded}
use Rattle.day_shares.specs.Parts.{Adjusts}

pub day_adjusts : (d : List ℕ) → AcceptedDay d → (t a : List ℤ) → t ≡ five (total (settled_day d)) → a ≡ five (adjusted_total (settled_day d)) → Adjusts t a
unfolding totals adjusted_total
day_adjusts d h t a e f =
    rw (e, f) (record {
      bounded = day_bounded (settled_day d) (settled_sized d h);
      first = first_total (settled_day d);
      adjust = refl;
    })

pub day_refused : (d : List ℕ) (n : ℕ) → n ≡ day_fault d → (n ≡ 0 → ⊥) → record { shares = five (λ s. pos 0); number = n } ≡ uplift_answer d
unfolding uplift_answer
day_refused d n e z = rw (← e, ne_eqb n 0 z)

pub day_shared : (d : List ℕ) → day_fault d ≡ 0 → (t x : List ℤ) → t ≡ five (total (settled_day d)) → x ≡ five (share_of t) → record { shares = x; number = 0 } ≡ uplift_answer d
unfolding uplift_answer uplift totals
day_shared d z t x e f = rw (z, f, e)
