-- `cutter_cursors::cursors::gap` meets its contract.
use Rattle.std.proofs.Common.{refl, rules}
use Rattle.cutter_cursors.proofs.cursors.Moves.{gap_is}
use Rattle.cutter_cursors.proofs.cursors.gap.Goals as goal

pub returns : goal.returns
returns c = gap_is _ _ _ _ c.requires.0 c.requires.1 refl (search rules) c.wrapping_sub_u32.ensures.value
