-- `Changes::pool` meets its contract: row by row.
use Rattle.std.proofs.Common.{rules}
use Rattle.rules.specs.Fold.{at}
use Rattle.step_payments.proofs.amounts.Joining.{row_five}
use Rattle.step_pool.proofs.pool_amounts.Changes.pool.Goals as goal

pub returns : goal.returns
returns c =
    let v = c.args.self in
    let rises = row_five (at v.rises) c.map.result (search rules) (search rules) (search rules) (search rules) (search rules) (search rules) in
    let falls = row_five (at v.falls) c.map-2.result (search rules) (search rules) (search rules) (search rules) (search rules) (search rules) in
    λ i. record { plus = v.plus; minus = c.args.minus; rises = rises i; falls = falls i; differs = c.args.differs }
