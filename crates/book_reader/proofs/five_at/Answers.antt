-- Each number as it is read.
use Rattle.std.proofs.Common.{ℕ, ◌≡◌, List, [], ◌∷◌, ℤ, pos, get_or, length, arith, rules}
use Rattle.rules.specs.Fold.{five}
use Rattle.book_layout.specs.Reading.{moneys_at}
use Rattle.book_reader.proofs.five_at.Goals as goal

-- a row of five by its places
row_five : (f : ℕ → ℤ) (r : List ℤ) → length r ≡ 5 → get_or r 0 (pos 0) ≡ f 0 → get_or r 1 (pos 0) ≡ f 1 → get_or r 2 (pos 0) ≡ f 2
    → get_or r 3 (pos 0) ≡ f 3 → get_or r 4 (pos 0) ≡ f 4 → r ≡ five f
row_five f [] h a b c d e = absurd (omega arith)
row_five f (u ∷ []) h a b c d e = absurd (omega arith)
row_five f (u ∷ v ∷ []) h a b c d e = absurd (omega arith)
row_five f (u ∷ v ∷ w ∷ []) h a b c d e = absurd (omega arith)
row_five f (u ∷ v ∷ w ∷ x ∷ []) h a b c d e = absurd (omega arith)
row_five f (u ∷ v ∷ w ∷ x ∷ y ∷ []) h a b c d e = cc
row_five f (u ∷ v ∷ w ∷ x ∷ y ∷ z ∷ r) h a b c d e = absurd (omega arith)

pub returns : goal.returns
returns c =
    row_five (moneys_at c.args.b.now c.args.at c.args.step) c.from_fn.result (search rules) (search rules) (search rules) (search rules) (search rules)
    (search rules)
