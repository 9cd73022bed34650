-- A number after a space.
use Rattle.std.proofs.Common.{List, ℕ, ◌++◌, ℤ, SFits, w64, rules}
use Rattle.rules.specs.Report.{signed_decimal, space}
use Rattle.rules.specs.Fold.{at_z}
use Rattle.text.specs.Rows.{number_is}
use Rattle.text.specs.Put.{written_as}
use Rattle.text.proofs.digits.Signs.{own}
use Rattle.text.proofs.number_rows.put_number_in.Goals as goal

abbrev after : ℤ → List ℕ
after z = space ++ signed_decimal z

pub returns : goal.returns
returns c =
    let fits : SFits w64 (at_z c.args.v c.args.s) = search rules in
    written_as (number_is (at_z c.args.v) c.args.s) (own after _ fits c.put_spaced_signed.ensures)
