-- Money of payments within the limits as signed numbers.
use Prim.Native.Nat.{ℕ, ◌*◌}
use native.Mathlib.Omega.{arith}
use mathlib.Core.Path.{◌≡◌, sym, ◌∙◌, ap, subst}
use mathlib.Core.List.{List}
use lib.IntN.{ℤ}
use Rattle.rules.specs.Fold.{five}
use Rattle.rules.specs.Layout.{quantity_most, price_most}
use Rattle.laws.specs.Ints.{parts}
use Rattle.numbers.specs.Fives.{five_is, five_most}
use Rattle.step_payments.specs.declared.amounts.Money.{Money}
use Rattle.step_payments.specs.Kinds.{SizeWithin}
use Rattle.step_payments.specs.Amounts.{plus_of, minus_of, money_of, signed_payment, Signable}

-- money of payments within the limits is held by signed numbers, and is those payments
signable : (f : ℕ → ℤ) → ((s : ℕ) → SizeWithin (quantity_most * price_most) (f s)) → Signable (money_of f)
unfolding money_of plus_of minus_of
signable f w =
    record {
      plus = λ s. omega (arith, five_most (plus_of f) (quantity_most * price_most) (λ t h. (w t).paid) s);
      minus = λ s. omega (arith, five_most (minus_of f) (quantity_most * price_most) (λ t h. (w t).taken) s);
    }

money_back : (f : ℕ → ℤ) → five (signed_payment (money_of f)) ≡ five f
unfolding signed_payment money_of plus_of minus_of
money_back f = five_is f (sym (parts (f 0))) (sym (parts (f 1))) (sym (parts (f 2))) (sym (parts (f 3))) (sym (parts (f 4)))

-- the same of money in two rows
module _ (f : ℕ → ℤ) {a b : List ℕ} (p : a ≡ five (plus_of f)) (q : b ≡ five (minus_of f)) where
  rows_money : ◌≡◌ {A = Money} (record { plus = a; minus = b }) (money_of f)
  unfolding money_of
  rows_money = λ i. record { plus = p i; minus = q i }

  pub rows_signable : ((s : ℕ) → SizeWithin (quantity_most * price_most) (f s)) → Signable (record { plus = a; minus = b })
  rows_signable w = subst Signable (sym rows_money) (signable f w)

  pub rows_signed : {r : List ℤ} → r ≡ five (signed_payment (record { plus = a; minus = b })) → r ≡ five f
  rows_signed e = e ∙ ap (λ (m : Money). five (signed_payment m)) rows_money ∙ money_back f
