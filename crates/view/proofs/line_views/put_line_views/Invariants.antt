-- `view::line_views::put_line_views` meets its contract: after j turns the views of the first j steps are put.
use mathlib.Core.Path.{◌≡◌}
use lib.Seq.{sets}
use Rattle.rules.specs.Layout.{line_at}
use Rattle.rules.specs.Steps.{lower_end}
use Rattle.view.specs.LineViews.{views_to}
use Rattle.view.proofs.line_views.put_line_views.Given as goal

abbrev pub invariant-loop-j : goal.invariant-loop-j
invariant-loop-j l = (l.lower ≡ lower_end (line_at l.line.day.now l.line.k) l.j) × (l.views ≡ sets l.initial.views 0 (views_to l.line.day.now l.line.k l.j))
