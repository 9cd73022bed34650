-- By the sign.
use Rattle.std.proofs.Common.{◌≡◌, ◌∙◌, ap, arith, [], ◌∷◌, ◌++◌, unsigned_abs, pos, ◌<ℤ◌, ◌≤ℤ◌}
use Rattle.std.proofs.lemmas.Int.{ints}
use mir.Facts.{to_z-of_z}
use Rattle.rules.specs.Report.{decimal}
use Rattle.text.specs.Put.{then, written_as, written_wider}
use Rattle.text.specs.Signed.{signed_up, signed_down}
use Rattle.text.proofs.digits.put_signed.Goals as goal

pub returns-then-v-lt0 : goal.returns-then-v-lt0
returns-then-v-lt0 c =
    let size : c.unsigned_abs.result ≡ unsigned_abs c.args.v = c.unsigned_abs.ensures.value ∙ ap unsigned_abs (to_z-of_z c.ranges.v) in
    let below : c.args.v <ℤ pos 0 = grind (arith, ints) in
    written_as (ap (λ n. (45 ∷ []) ++ decimal n) size ∙ signed_down c.args.v below) (then c.put_byte-p.ensures c.put_decimal.ensures)

pub returns-else-v-lt0 : goal.returns-else-v-lt0
returns-else-v-lt0 c =
    let size : c.unsigned_abs-else-v-lt0.result ≡ unsigned_abs c.args.v =
    c.unsigned_abs-else-v-lt0.ensures.value ∙ ap unsigned_abs (to_z-of_z c.ranges.v) in
    let above : pos 0 ≤ℤ c.args.v = grind (arith, ints) in
    written_wider 20 21 (written_as (ap decimal size ∙ signed_up c.args.v above) c.put_decimal-else-v-lt0.ensures) (omega arith)
