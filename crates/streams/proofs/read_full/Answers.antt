use Rattle.std.proofs.Common.{◌++◌, ap, sym, ◌∙◌, subst, take, drop, rules}
use Rattle.std.specs.Io.KnownBytes.{Consumes}
use Rattle.std.proofs.KnownBytes.{Consumes-trans}
use lib.Seq.{take-add}
use Rattle.streams.proofs.read_full.Goals as goal

-- the bytes read before, and those that the last read put after them
pub loop-done-preserved : goal.loop-done-preserved
loop-done-preserved g c =
    let from = c.loop-done.done in
    let new = c.read_at.new.space in
    let joined = ap (λ l. l ++ take c.in_ok-n.n (drop from new)) (sym c.read_at.ensures.front) ∙ sym (take-add from c.in_ok-n.n new) in
    (search rules, c.in_ok-n.ensures.fits, subst (Consumes _ _) joined (Consumes-trans _ _ _ _ _ c.loop-done.invariant.2 c.in_ok-n.ensures.bytes))
