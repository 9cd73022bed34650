-- `day_shares::shares::signed_shares` meets its contract, place by place.
use Rattle.std.proofs.Common.{rules, pos}
use Rattle.day_totals.specs.Rows.{five_at}
use Rattle.day_shares.specs.Parts.{share_at}
use Rattle.day_shares.proofs.shares.signed_shares.Goals as goal

pub returns : goal.returns
returns c =
    let a = c.args in
    five_at (pos 0) (share_at a.t a.q a.u) _ c.from_fn.ensures.items.long (search rules) (search rules) (search rules) (search rules) (search rules)
