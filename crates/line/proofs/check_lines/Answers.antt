-- `line::check_lines` meets its contract.
use Rattle.std.proofs.Common.{arith, refl, sym}
use Rattle.rules.specs.Refusals.{break_fault, bid_fault}
use Rattle.laws.specs.Folds.{first_none, first_more, fold_begins, all_passed}
use Rattle.refusals.specs.Laws.{refused}
use Rattle.line_bids.proofs.breaks.Breaks.{count_few}
use Rattle.line.proofs.Laws.{bid_counted, bid_risen, bid_filled, line_head, line_bid, line_limits, line_stops, line_passes}
use Rattle.line.proofs.check_lines.Goals as goal

pub lines-init : goal.lines-init
lines-init c = fold_begins _ _ _ refl

pub loop-s-init : goal.loop-s-init
loop-s-init c = first_none (bid_fault c.part_from-line.result.now)

pub loop-j-init : goal.loop-j-init
loop-j-init c = first_none (break_fault c.part_from-line.result.now c.loop-s.s)

pub check_break-requires : goal.check_break-requires
check_break-requires c =
    let few = count_few _ _ c.in_default-check_count.ensures in
    (c.loop-s-test.true, omega (arith, few, c.loop-j-test.true))

pub loop-j-preserved : goal.loop-j-preserved
loop-j-preserved c =
    first_more (break_fault c.part_from-line.result.now c.loop-s.s) c.loop-j.j c.loop-j.invariant (sym c.in_default-check_break.ensures)

pub check_slots-requires : goal.check_slots-requires
check_slots-requires c = (c.loop-s-test.true, count_few _ _ c.in_default-check_count.ensures, c.bid_count-count.ensures)

pub loop-s-preserved : goal.loop-s-preserved
loop-s-preserved c =
    let w = c.part_from-line.result.now in
    let risen = all_passed (break_fault w c.loop-s.s) _ _ c.loop-j.invariant c.loop-j.auto.j-end c.loop-j-test.false in
    let filled = bid_filled w c.loop-s.s _ c.bid_count-count.ensures c.in_default-check_count.ensures 0 risen c.in_default-check_slots.ensures in
    first_more (bid_fault w) c.loop-s.s c.loop-s.invariant (sym filled)

pub lines-preserved : goal.lines-preserved
lines-preserved c =
    let bids = all_passed (bid_fault c.part_from-line.result.now) 5 _ c.loop-s.invariant c.loop-s.auto.s-end c.loop-s-test.false in
    let limits = line_limits _ _ c.in_default.ensures 0 _ bids c.table_in_force.ensures c.in_default-check_limits.ensures in
    line_passes _ _ _ _ _ _ 0 _ c.part_from-line.ensures c.lines.invariant.1 c.if-n-k.false limits refl

pub returns-in-Err : goal.returns-in-Err
returns-in-Err c =
    let some = refused c.in-Err.refusal in
    let head = line_head _ _ _ c.in-Err.ensures some in
    line_stops _ _ _ _ _ _ _ _ c.part_from-line.ensures c.lines.invariant.1 c.if-n-k.false head some

pub returns-in-Err-check_count : goal.returns-in-Err-check_count
returns-in-Err-check_count c =
    let some = refused c.in-Err-check_count.refusal in
    let counted = bid_counted _ _ _ c.bid_count-count.ensures _ c.in-Err-check_count.ensures some in
    let bid = line_bid _ _ c.in_default.ensures _ _ c.loop-s.invariant c.loop-s-test.true counted some in
    line_stops _ _ _ _ _ _ _ _ c.part_from-line.ensures c.lines.invariant.1 c.if-n-k.false bid some

pub returns-in-Err-check_break : goal.returns-in-Err-check_break
returns-in-Err-check_break c =
    let some = refused c.in-Err-check_break.refusal in
    let risen = bid_risen _ _ _ c.bid_count-count.ensures c.in_default-check_count.ensures _ _ c.loop-j.invariant c.loop-j-test.true c.in-Err-check_break.ensures some in
    let bid = line_bid _ _ c.in_default.ensures _ _ c.loop-s.invariant c.loop-s-test.true risen some in
    line_stops _ _ _ _ _ _ _ _ c.part_from-line.ensures c.lines.invariant.1 c.if-n-k.false bid some

pub returns-in-Err-check_slots : goal.returns-in-Err-check_slots
returns-in-Err-check_slots c =
    let some = refused c.in-Err-check_slots.refusal in
    let risen = all_passed (break_fault c.part_from-line.result.now c.loop-s.s) _ _ c.loop-j.invariant c.loop-j.auto.j-end c.loop-j-test.false in
    let filled = bid_filled _ _ _ c.bid_count-count.ensures c.in_default-check_count.ensures _ risen c.in-Err-check_slots.ensures in
    let bid = line_bid _ _ c.in_default.ensures _ _ c.loop-s.invariant c.loop-s-test.true filled some in
    line_stops _ _ _ _ _ _ _ _ c.part_from-line.ensures c.lines.invariant.1 c.if-n-k.false bid some

pub returns-in-Err-check_limits : goal.returns-in-Err-check_limits
returns-in-Err-check_limits c =
    let some = refused c.in-Err-check_limits.refusal in
    let bids = all_passed (bid_fault c.part_from-line.result.now) 5 _ c.loop-s.invariant c.loop-s.auto.s-end c.loop-s-test.false in
    let limits = line_limits _ _ c.in_default.ensures _ _ bids c.table_in_force.ensures c.in-Err-check_limits.ensures in
    line_stops _ _ _ _ _ _ _ _ c.part_from-line.ensures c.lines.invariant.1 c.if-n-k.false limits some
