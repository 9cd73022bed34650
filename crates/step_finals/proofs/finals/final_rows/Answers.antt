-- `step_finals::finals::final_rows` meets its contract: schedule by schedule.
use Rattle.std.proofs.Common.{rules, arith, ℕ, ◌<◌}
use Rattle.std.proofs.iter.Serving.{serving}
use Rattle.rules.specs.Fold.{at}
use Rattle.step_payments.proofs.amounts.Joining.{row_five}
use Rattle.step_pool.specs.Amounts.{taken_on, Sharing}
use Rattle.step_finals.proofs.finals.Pieces.{asked_by_rows, given_by_rows}
use Rattle.step_finals.proofs.finals.final_rows.Goals as goal

pub from_fn-requires : goal.from_fn-requires
from_fn-requires c =
    let r = c.requires in
    let g = c.args in
    let asks : (s : ℕ) → s < 5 → Sharing (at g.v.minus s) (at g.revised s) (at g.v.falls s) (at g.h.total s) (at g.h.base s) =
    λ s h. asked_by_rows g.x r.1 s h r.2 r.3 r.0 in
    search (rules, serving, asks)

pub returns : goal.returns
unfolding taken_on
returns c =
    let x = c.args.x in
    let h = c.args.h in
    let r = c.requires in
    row_five (taken_on x h.total h.base) c.from_fn.result (search rules) (search rules)
    (given_by_rows x r.1 1 (omega arith) r.2 r.3 h.total h.base (omega arith) (search rules))
    (given_by_rows x r.1 2 (omega arith) r.2 r.3 h.total h.base (omega arith) (search rules))
    (given_by_rows x r.1 3 (omega arith) r.2 r.3 h.total h.base (omega arith) (search rules))
    (given_by_rows x r.1 4 (omega arith) r.2 r.3 h.total h.base (omega arith) (search rules))
