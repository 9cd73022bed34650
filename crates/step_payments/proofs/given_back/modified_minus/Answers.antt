-- `step_payments::given_back::modified_minus` meets its contract, schedule by schedule.
use Rattle.std.proofs.Common.{rules, arith, ℕ, ◌<◌, ◌^◌, refl, []}
use Rattle.std.proofs.Math.ListN.{get_or}
use Rattle.std.proofs.iter.Serving.{serving}
use Rattle.rules.specs.Payments.{modified, rate}
use Rattle.step_payments.specs.Amounts.{given_at, minus_of}
use Rattle.step_payments.specs.Sizes.{rate_most}
use Rattle.step_payments.proofs.amounts.Joining.{row_is, given_fits, modified_row, row_five}
use Rattle.step_payments.proofs.given_back.modified_minus.Goals as goal

pub from_fn-requires : goal.from_fn-requires
from_fn-requires c =
    let x = c.args.x in
    let r = c.requires in
    let fits : (s : ℕ) → s < 5 → given_at (get_or c.args.t s []) c.args.rate < 2 ^ 64 =
    λ s h. given_fits x s (rate x) h (row_is x refl r.1 s h) r.2 r.0 (λ i. rate_most x i r.0) in
    search (rules, serving, fits)

pub returns : goal.returns
returns c =
    let x = c.args.x in
    let r = c.requires in
    row_five (minus_of (modified x)) c.from_fn.result (search rules) (modified_row x r.1 r.2 r.3 0 (omega arith) (search rules))
    (modified_row x r.1 r.2 r.3 1 (omega arith) (search rules))
    (modified_row x r.1 r.2 r.3 2 (omega arith) (search rules))
    (modified_row x r.1 r.2 r.3 3 (omega arith) (search rules))
    (modified_row x r.1 r.2 r.3 4 (omega arith) (search rules))
