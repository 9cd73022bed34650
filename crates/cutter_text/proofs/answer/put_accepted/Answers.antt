-- `cutter_text::answer::put_accepted` meets its contract: the texts that its calls put, one after another.
use Prim.Native.Nat.{◌+◌, ◌*◌}
use mathlib.Core.Path.{◌≡◌, refl}
use Rattle.rules.specs.Fold.{five, at}
use borrow.Author.Rules.{rules}
use Rattle.cutter_cursors.specs.Places.{five_of}
use Rattle.cutter_text.specs.CutText.{text_most, steps_is}
use Rattle.text.specs.Put.{then, written_as, written_wider}
use Rattle.cutter_text.proofs.answer.put_accepted.Goals as goal

pub returns : goal.returns
returns c =
    let missing : c.map.result ≡ five (at c.args.r.missing) =
    five_of 0 (at c.args.r.missing) _ c.map.ensures.items.long (λ s l. search (rules, c.map.ensures.items.at s 0 0 l))
    in
    let then₁ = then c.put_count-a.ensures c.put_steps-b.ensures in
    let then₂ = then (then then₁ c.put_row-c.ensures) c.put_row.ensures in
    let written-as' = written_as (steps_is _ c.requires.0 refl missing) then₂ in
    written_wider (25 + 126 * c.args.count + 111 + 113) text_most written-as' (search rules)
