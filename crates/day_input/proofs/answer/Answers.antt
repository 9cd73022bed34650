-- The file went on, and its refusal is its text; or it ended, and the text of what was read is written.
use Rattle.std.proofs.Common.{take, refl, rules, ap}
use Rattle.day_input.proofs.Whole.{answered_long, answered_read}
use Rattle.day_input.proofs.answer.Goals as goal

pub returns-then-branch : goal.returns-then-branch
returns-then-branch g c =
    let read = c.in_ok-n.ensures in
    let long = c.in_ok-refused_long.ensures in
    answered_long g.T.DayText.text (g.R.Read.remaining c.args.input.now) (g.R.Read.remaining c.read_full.new.input) (g.W.Write.contents c.args.output.now)
    (g.W.Write.contents c.refused_long.new.output) c.read_full.new.space c.in_ok-n.n c.in_ok-refused_long.field-0
    (search rules) read.bytes c.if-branch.true long.short (search rules) g.T.DayText.long long.told

pub returns : goal.returns
returns g c =
    let read = c.in_ok-n.ensures in
    let long = c.in_ok-refused_long.ensures in
    let kept = long.kept c.if-branch.false in
    let text = g.T.DayText.text (take c.in_ok-n.n c.read_full.new.space) in
    answered_read c.print.result g.T.DayText.text (g.R.Read.remaining c.args.input.now) (g.R.Read.remaining c.read_full.new.input)
    (g.W.Write.contents c.refused_long.new.output) (g.W.Write.contents c.args.output.now)
    (g.W.Write.contents c.print.new.output) c.read_full.new.space text c.in_ok-n.n c.in_ok-refused_long.field-0
    (search rules) read.bytes c.if-branch.false read.end long.told (ap g.W.Write.contents kept) c.print.ensures refl
