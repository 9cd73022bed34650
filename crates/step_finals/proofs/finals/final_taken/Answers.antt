-- `step_finals::finals::final_taken` meets its contract: schedule by schedule.
use Rattle.std.proofs.Common.{rules, arith, ℕ, ◌<◌, ◌^◌, []}
use Rattle.std.proofs.Math.ListN.{get_or}
use Rattle.std.proofs.iter.Serving.{serving}
use Rattle.rules.specs.Fold.{at}
use Rattle.step_payments.specs.Amounts.{revised_given, given_at}
use Rattle.step_payments.proofs.amounts.Joining.{row_five}
use Rattle.step_pool.specs.Amounts.{taken_on, Sharing}
use Rattle.step_finals.proofs.finals.Pieces.{asked, given}
use Rattle.step_finals.proofs.finals.final_taken.Goals as goal

pub from_fn-requires : goal.from_fn-requires
unfolding revised_given
from_fn-requires c =
    let r = c.requires in
    let g = c.args in
    let t = c.match_table-m.result in
    let asks : (s : ℕ) → s < 5
    → (Sharing (at g.v.minus s) (revised_given g.x.side g.x.price g.x.market t s) (at g.v.falls s) (at g.h.total s) (at g.h.base s))
    × (given_at (get_or t s []) g.rate < 2 ^ 64) =
    λ s h. asked g.x r.4 s h r.2 r.3 c.match_table-m.ensures r.0 r.1 in
    search (rules, serving, asks)

pub returns : goal.returns
unfolding taken_on revised_given
returns c =
    let x = c.args.x in
    let h = c.args.h in
    let r = c.requires in
    let m = c.match_table-m.ensures in
    row_five (taken_on x h.total h.base) c.from_fn.result (search rules) (search rules)
    (given x r.4 1 (omega arith) r.2 r.3 m h.total h.base (omega arith) (search rules))
    (given x r.4 2 (omega arith) r.2 r.3 m h.total h.base (omega arith) (search rules))
    (given x r.4 3 (omega arith) r.2 r.3 m h.total h.base (omega arith) (search rules))
    (given x r.4 4 (omega arith) r.2 r.3 m h.total h.base (omega arith) (search rules))
