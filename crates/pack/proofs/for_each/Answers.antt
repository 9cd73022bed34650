-- One entry more was shown; or there is none, or the turns are used up.
use Rattle.std.proofs.Common.{rules, length, refl, of_calls}
use Rattle.std.specs.Fn.{CalledAt}
use Rattle.pack.proofs.Entries.{turned_more, turned_last, turned_out}
use Rattle.pack.proofs.for_each.Goals as goal
use Rattle.pack.proofs.for_each.Goals.{else-loop-turns-test, then-loop-turns-test+in_ok-entry+in_default}

pub loop-turns-preserved : goal.loop-turns-preserved
loop-turns-preserved g c = (
  search of_calls,
  turned_more (CalledAt g.F.FnMut) (length c.args.space.now) _ _ _ _ (g.R.Read.remaining c.loop-turns.input) (g.R.Read.remaining c.read.new.input) _ c.in-Some.entry.now
      c.loop-turns.invariant.1 (search rules)
      (record { shown = c.in-Some.entry; shows = refl; called = c.in_ok-show.ensures }),
)

pub returns : goal.returns
returns g c =
    let most = length c.args.space.now in
    let known = g.R.Read.remaining c.args.input.now in
    let mid = g.R.Read.remaining c.loop-turns.input in
    elim c.loop-turns-test.branch [
      | else-loop-turns-test w ↦ turned_out (CalledAt g.F.FnMut) most _ known _ mid _ c.loop-turns.invariant.1 (search rules)
      | then-loop-turns-test+in_ok-entry+in_default w ↦ turned_last (CalledAt g.F.FnMut) most _ known _ mid (g.R.Read.remaining w.read.new.input) _ c.loop-turns.invariant.1 (search rules)
    ]
