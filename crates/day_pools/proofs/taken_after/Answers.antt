-- `day_pools::taken_after` meets its contract: by the lowest bit of the word.
use Prim.Native.Nat.{ℕ, ◌%◌, ◌<◌, ◌^◌}
use mathlib.Core.Path.{sym, ◌∙◌, ap, subst}
use borrow.Author.Tests.{eq-eqb, ne_eqb}
use Rattle.rules.specs.Fold.{five}
use Rattle.rules.specs.declared.Step.{Step}
use Rattle.step_payments.specs.Sizes.{Sized}
use Rattle.step_pool.specs.Amounts.{sum_in, taken_with, taken_on, SharedOn}
use Rattle.day_pools.proofs.taken_after.Goals as goal

pub returns-then-word-eq0 : goal.returns-then-word-eq0
returns-then-word-eq0 c = rw (eq-eqb (c.args.word % 2) 0 c.if-word-eq0.true)

pub step_here-requires : goal.step_here-requires
step_here-requires c = (c.requires.0, c.requires.1, c.requires.2)

pub taken_with-requires : goal.taken_with-requires
taken_with-requires c =
    let same = sym c.step_here.ensures in
    let h = c.args.h in (
      subst Sized same c.requires.3,
      subst (λ (x : Step). SharedOn x h.total h.base) same c.requires.4,
      subst (λ (x : Step). (s : ℕ) → sum_in c.args.money.minus (five (taken_on x h.total h.base)) s < 2 ^ 64) same c.requires.5,
    )

pub returns-else-word-eq0 : goal.returns-else-word-eq0
returns-else-word-eq0 c =
    let h = c.args.h in
    rw (ne_eqb (c.args.word % 2) 0 c.if-word-eq0.false)
    (c.taken_with.ensures
    ∙ ap (λ (x : Step). taken_with c.args.money (five (taken_on x h.total h.base)))
    c.step_here.ensures)
