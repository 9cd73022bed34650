-- Rows of five as the code has them: money as what is paid and what is taken back.
use Rattle.std.specs.Prelude.{ℕ, ◌<◌, ◌^◌, cond, ◌||◌, List, [], eqb, get_or, ℤ}
use Rattle.std.proofs.Math.IntN.{sub_ℕ}
use Rattle.rules.specs.Fold.{sum_to, five, at}
use Rattle.laws.specs.Ints.{pl, mi}
use Rattle.step_changes.specs.Changes.{product_in, revised_at}
use Rattle.step_payments.specs.declared.amounts.Money.{Money}

-- what the matches m of one schedule give back at the rates f: no rise is matched after the fourth schedule
unfoldable pub given_at : List ℕ → List ℕ → ℕ
given_at m f = sum_to 4 (product_in m f)

-- what the matches of a fall in s give back where its payment is revised, from the side, prices, market prices and the match table
unfoldable pub revised_given : ℕ → List ℕ → List ℕ → List (List ℕ) → ℕ → ℕ
revised_given sd p mp t s = given_at (get_or t s []) (five (revised_at sd p (at p s) (at mp s)))

pub record RevisedFits (sd : ℕ) (p mp : List ℕ) (t : List (List ℕ)) : Type 0 where
  pub fits : (s : ℕ) → s < 5 → revised_given sd p mp t s < 2 ^ 64

-- what the revised payment of s takes back: nothing in the first schedule or where the initial one, i, takes nothing back
unfoldable pub revised_in : ℕ → List ℕ → List ℕ → List (List ℕ) → List ℕ → ℕ → ℕ
revised_in sd p mp t i s = cond (eqb s 0 || eqb (at i s) 0) 0 (revised_given sd p mp t s)

-- what payments pay and what they take back
unfoldable pub plus_of : (ℕ → ℤ) → ℕ → ℕ
plus_of f s = pl (f s)

unfoldable pub minus_of : (ℕ → ℤ) → ℕ → ℕ
minus_of f s = mi (f s)

unfoldable pub money_of : (ℕ → ℤ) → Money
money_of f = record { plus = five (plus_of f); minus = five (minus_of f) }

-- and back
unfoldable pub signed_payment : Money → ℕ → ℤ
signed_payment m s = sub_ℕ (at m.plus s) (at m.minus s)

-- amounts that a signed number of 64 bits holds
pub record Signable (m : Money) : Type 0 where
  pub plus : (s : ℕ) → at m.plus s < 2 ^ 63
  pub minus : (s : ℕ) → at m.minus s < 2 ^ 63
