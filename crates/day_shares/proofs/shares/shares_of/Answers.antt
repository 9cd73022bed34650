-- `day_shares::shares::shares_of` meets its contract: each row is the one that the totals give, and the last one's places are the shares.
use Rattle.rules.specs.Fold.{five}
use Rattle.rules.specs.Totals.{adjusted}
use Rattle.day_shares.specs.Parts.{sizes_small, adjusted_bounded}
use Rattle.day_shares.proofs.Laws.{sums, divisible, sizes_fit, rests_fit, units_fit, shares_are}
use Rattle.day_shares.proofs.shares.shares_of.Goals as goal

pub group_sums-amounts-requires : goal.group_sums-amounts-requires
group_sums-amounts-requires c =
    let p = c.requires in
    let t = c.args.t in
    rw (c.sizes.ensures, p.adjust) (sizes_small (five (adjusted t)) (adjusted_bounded t p.bounded p.first))

pub group_sums-requires : goal.group_sums-requires
group_sums-requires c =
    let p = c.requires in
    let t = c.args.t in
    rw c.sizes-w.ensures (sizes_small t p.bounded)

pub divisions-d-requires : goal.divisions-d-requires
divisions-d-requires c =
    let k = sums _ _ _ _ _ _ _ _ c.requires.adjust c.signs.ensures c.links-l.ensures c.sizes-w.ensures c.sizes.ensures
    c.group_sums-amounts.ensures c.group_sums.ensures in
    divisible k c.requires.bounded c.requires.first

pub units-u-requires : goal.units-u-requires
units-u-requires c =
    let k = sums _ _ _ _ _ _ _ _ c.requires.adjust c.signs.ensures c.links-l.ensures c.sizes-w.ensures c.sizes.ensures
    c.group_sums-amounts.ensures c.group_sums.ensures in
    let q-is = rw c.divisions-d.ensures at c.quotients-q.ensures in
    let r-is = rw c.divisions-d.ensures at c.rests.ensures in
    (sizes_fit k c.requires.bounded c.requires.first _ q-is, rests_fit k _ r-is)

pub signed_shares-requires : goal.signed_shares-requires
signed_shares-requires c =
    let k = sums _ _ _ _ _ _ _ _ c.requires.adjust c.signs.ensures c.links-l.ensures c.sizes-w.ensures c.sizes.ensures
    c.group_sums-amounts.ensures c.group_sums.ensures in
    let q-is = rw c.divisions-d.ensures at c.quotients-q.ensures in
    let r-is = rw c.divisions-d.ensures at c.rests.ensures in
    (sizes_fit k c.requires.bounded c.requires.first _ q-is, units_fit k _ _ _ q-is r-is c.units-u.ensures)

pub returns : goal.returns
returns c =
    let k = sums _ _ _ _ _ _ _ _ c.requires.adjust c.signs.ensures c.links-l.ensures c.sizes-w.ensures c.sizes.ensures
    c.group_sums-amounts.ensures c.group_sums.ensures in
    let q-is = rw c.divisions-d.ensures at c.quotients-q.ensures in
    let r-is = rw c.divisions-d.ensures at c.rests.ensures in
    shares_are k c.requires.first _ _ _ _ q-is r-is c.units-u.ensures c.signed_shares.ensures
