-- One of the tests of refusal 3, with the layout.
use Rattle.std.specs.Prelude.{ℕ, List, Bool, not, ◌&&◌, eqb}
use Rattle.rules.specs.Layout.{records_offset, ad_hoc, records_at}

-- the records' offset is not where the records stand
unfoldable pub misplaced : List ℕ → Bool
misplaced d = ad_hoc d && not (eqb (records_offset d) (records_at d))
