-- `day_paid::put_payments` meets its contract: five stores, one after another.
use Prim.Native.Nat.{ℕ}
use mathlib.Core.Path.{◌≡◌}
use lib.ListN.{get_or}
use lib.IntN.{pos}
use mir.Syntax.{w64}
use mir.Val.{to_z, of_z}
use mir.Facts.{to_z-of_z}
use borrow.Author.Rules.{rules}
use Rattle.text.proofs.digits.Signs.{array_fits}
use Rattle.day_paid.proofs.Laws.{five_stores}
use Rattle.day_paid.proofs.put_payments.Goals as goal

pub returns : goal.returns
returns c =
    let v = c.args.v in
    let own : (i : ℕ) → to_z w64 (of_z w64 (get_or v i (pos 0))) ≡ get_or v i (pos 0) = λ i.
    to_z-of_z (array_fits 5 v _ c.well_formed.1.1.0 i) in
    five_stores c.args.paid.now v c.args.at (search rules) (own 0) (own 1) (own 2) (own 3) (own 4)
