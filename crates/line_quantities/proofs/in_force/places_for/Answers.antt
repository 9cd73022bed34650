-- `line_quantities::in_force::places_for` meets its contract.
use Rattle.std.proofs.Common.{rules, ◌∙◌, sym}
use Rattle.line_quantities.specs.Highest.{places_none, places_other, places_own, held_most}
use Rattle.line_quantities.proofs.in_force.places_for.Goals as goal
use Rattle.line_quantities.proofs.in_force.places_for.Goals.{then-line-k, else-line-k}

pub loop-i-init : goal.loop-i-init
loop-i-init c = places_none _ _ _

pub places_with-after-requires : goal.places_with-after-requires
places_with-after-requires c = (search rules, held_most _ _ _ _ _ c.loop-i.invariant)

pub loop-i-preserved : goal.loop-i-preserved
loop-i-preserved c =
    elim c.if-line-k.branch [
      | then-line-k w ↦ w.places-is ∙ w.places_with-after.ensures
          ∙ places_own _ _ _ _ _ c.loop-i.invariant (sym c.line.ensures ∙ w.if-line-k.true)
      | else-line-k w ↦ w.places-is ∙ c.loop-i.invariant
          ∙ places_other _ _ _ _ (λ e. w.if-line-k.false (c.line.ensures ∙ e))
    ]
