-- What the number 0 says of a line and of a day: each test of document 01's table, row by row, found no fault.
use Rattle.std.specs.Prelude.{ℕ, suc, ◌+◌, ◌-◌, ◌≤◌, ◌<◌, ◌≡◌, List, Bool, true, false, not, ◌&&◌, length, eqb, ltb, leb}
use Rattle.std.proofs.Common.{arith, sym, true≢false, ltb-false, lt-ltb, leb-false, eq-eqb, eqb-true}
use Rattle.std.proofs.lemmas.Bool.{eqb-false, not-false}
use Rattle.rules.specs.Fold.{refuse, first, before}
use Rattle.rules.specs.Layout.{quantity_most, price_most, excess_most, line_count, lines_at, records_at, record_count, file_length, record_line, record_schedule}
use Rattle.rules.specs.Layout.{market_price, cap_mark, price_cap, clawback, line_at, side, accreditation, hedge, withdrawal}
use Rattle.rules.specs.Layout.{bid_count, bid_break, bid_price, operating_table, actual_entry}
use Rattle.rules.specs.Steps.{greatest_break}
use Rattle.rules.specs.Quantities.{pricing_total, table_total}
use Rattle.rules.specs.Refusals.{header_fault_of, header_fault, market_price_fault, mark_fault, market_fault, break_fault, out_of_order, order_fault, price_fault, unused_fault, bid_fault}
use Rattle.rules.specs.Refusals.{total_fault, actual_fault, head_fault, line_fault_with, line_fault, line_fault_at, same_key, pair_fault, key_fault, day_fault}
use Rattle.rules.specs.Refusals.{record_fault, same_record, twin_fault, records_fault}
use Rattle.rules.specs.InForce.{table_in_force}
use Rattle.laws.specs.Layouts.{lines_at_lem}
use Rattle.laws.specs.Folds.{refuse_zero, or_else_both, first_at, Both}

-- a test that was not met
at_most : (n a b : ℕ) → refuse (suc n) (ltb a b) ≡ 0 → b ≤ a
at_most n a b e = ltb-false a b (refuse_zero n (ltb a b) e)

equal : (n a b : ℕ) → refuse (suc n) (not (eqb a b)) ≡ 0 → a ≡ b
equal n a b e = eqb-true a b (not-false (eqb a b) (refuse_zero n (not (eqb a b)) e))

and_false : (a b : Bool) → (a && b) ≡ false → a ≡ true → b ≡ false
and_false true b e h = e
and_false false b e h = absurd (true≢false (sym h))

-- the bid of one schedule: refusals 7 to 10; of a pulled bid, which has no steps, 8 and 9 ask nothing
pub record AcceptedBid (w : List ℕ) (s : ℕ) : Type 0 where
  pub count_first : s ≡ 0 → 1 ≤ bid_count w s
  pub count_most : bid_count w s ≤ 11
  pub rises : (j : ℕ) → j < bid_count w s → before (bid_break w s) j < bid_break w s j
  pub break_most : (j : ℕ) → j < bid_count w s → bid_break w s j ≤ 200000000
  pub price_most_lem : (j : ℕ) → j < bid_count w s → bid_price w s j ≤ 10000000
  pub ordered : (j : ℕ) → suc j < bid_count w s → out_of_order (side w) (bid_price w s j) (bid_price w s (suc j)) ≡ false
  pub unused_break : (i : ℕ) → i < 11 - bid_count w s → bid_break w s (bid_count w s + i) ≡ 0
  pub unused_price : (i : ℕ) → i < 11 - bid_count w s → bid_price w s (bid_count w s + i) ≡ 0

break_both : (w : List ℕ) (s n : ℕ) → first (break_fault w s) n ≡ 0 → (j : ℕ) → j < n → Both (refuse 8 (leb (bid_break w s j) (before (bid_break w s) j))) (refuse 8 (ltb quantity_most (bid_break w s j)))
unfolding break_fault
break_both w s n e j h = or_else_both _ _ (first_at _ n e j h)

price_both : (w : List ℕ) (s n : ℕ) → first (price_fault w s) n ≡ 0 → (j : ℕ) → j < n → Both (refuse 9 (ltb price_most (bid_price w s j))) (order_fault w s j)
unfolding price_fault
price_both w s n e j h = or_else_both _ _ (first_at _ n e j h)

order_is : (w : List ℕ) (s j : ℕ) → order_fault w s (suc j) ≡ 0 → out_of_order (side w) (bid_price w s j) (bid_price w s (suc j)) ≡ false
unfolding order_fault
order_is w s j e = refuse_zero 8 _ e

unused_both : (w : List ℕ) (s n : ℕ) → first (unused_fault w s) n ≡ 0 → (i : ℕ) → i < n → Both (refuse 10 (not (eqb (bid_break w s (bid_count w s + i)) 0))) (refuse 10 (not (eqb (bid_price w s (bid_count w s + i)) 0)))
unfolding unused_fault
unused_both w s n e i h = or_else_both _ _ (first_at _ n e i h)

pub accepted_bid : (w : List ℕ) (s : ℕ) → bid_fault w s ≡ 0 → AcceptedBid w s
unfolding bid_fault
accepted_bid w s e =
    let b1 = or_else_both _ _ e in
    let b2 = or_else_both _ _ b1.right in
    let b3 = or_else_both _ _ b2.right in
    let b4 = or_else_both _ _ b3.right in
    let brk = break_both w s (bid_count w s) b3.left in
    let prc = price_both w s (bid_count w s) b4.left in
    let uns = unused_both w s (11 - bid_count w s) b4.right in
    record {
      count_first = λ h. let none = eqb-false (bid_count w s) 0 (and_false _ _ (refuse_zero 6 _ b1.left) (eq-eqb s 0 h)) in omega arith;
      count_most = at_most 6 11 (bid_count w s) b2.left;
      rises = λ j h. leb-false _ _ (refuse_zero 7 _ (brk j h).left);
      break_most = λ j h. at_most 7 200000000 _ (brk j h).right;
      price_most_lem = λ j h. at_most 8 10000000 _ (prc j h).left;
      ordered = λ j h. order_is w s j (prc (suc j) h).right;
      unused_break = λ i h. equal 9 _ 0 (uns i h).left;
      unused_price = λ i h. equal 9 _ 0 (uns i h).right;
    }

-- side and accreditation: refusal 6
pub record AcceptedHead (w : List ℕ) : Type 0 where
  pub side_most : side w ≤ 1
  pub accreditation_most : accreditation w ≤ 63
  pub accreditation_set : 1 < accreditation w → 32 ≤ accreditation w

-- one line: refusals 6 to 13, but for operating quantities
pub record AcceptedLine (w : List ℕ) : Type 0 where
  pub head : AcceptedHead w
  pub bids : (s : ℕ) → s < 5 → AcceptedBid w s
  pub hedge_most : hedge w ≤ greatest_break w
  pub hedge_withdrawal : withdrawal (side w) ≡ true → hedge w ≡ 0
  pub pricing_most : (s : ℕ) → s < 5 → pricing_total w s ≤ greatest_break w + excess_most
  pub actual_most : (i : ℕ) → i < 5 → actual_entry w i ≤ 200000000

-- with a table of them
pub record AcceptedWith (t : List (List ℕ)) (w : List ℕ) : Type 0 where
  pub line : AcceptedLine w
  pub operating_most : (s : ℕ) → s < 5 → table_total t s ≤ greatest_break w + excess_most

total_both : (t : List (List ℕ)) (w : List ℕ) (s : ℕ) → total_fault t w s ≡ 0
    → Both (refuse 12 (ltb (greatest_break w + excess_most) (pricing_total w s))) (refuse 12 (ltb (greatest_break w + excess_most) (table_total t s)))
unfolding total_fault
total_both t w s e = or_else_both _ _ e

actual_is : (w : List ℕ) (i : ℕ) → actual_fault w i ≡ 0 → actual_entry w i ≤ 200000000
unfolding actual_fault
actual_is w i e = at_most 12 200000000 _ e

accepted_head : (w : List ℕ) → head_fault w ≡ 0 → AcceptedHead w
unfolding head_fault
accepted_head w e =
    let b1 = or_else_both _ _ e in
    let b2 = or_else_both _ _ b1.right in
    let word = accreditation w in
    record {
      side_most = at_most 5 1 (side w) b1.left;
      accreditation_most = at_most 5 63 word b2.right;
      accreditation_set = λ h. ltb-false word 32 (and_false _ _ (refuse_zero 5 _ b2.left) (lt-ltb 1 word h));
    }

pub accepted_with : (t : List (List ℕ)) (w : List ℕ) → line_fault_with t w ≡ 0 → AcceptedWith t w
unfolding line_fault_with
accepted_with t w e =
    let b1 = or_else_both _ _ e in
    let b2 = or_else_both _ _ b1.right in
    let b3 = or_else_both _ _ b2.right in
    let b4 = or_else_both _ _ b3.right in
    let b5 = or_else_both _ _ b4.right in
    record {
      line =
          record {
            head = accepted_head w b1.left;
            bids = λ s h. accepted_bid w s (first_at _ 5 b2.left s h);
            hedge_most = at_most 10 (greatest_break w) (hedge w) b3.left;
            hedge_withdrawal =
                λ h. eqb-true (hedge w) 0 (not-false (eqb (hedge w) 0) (and_false _ _ (refuse_zero 10 _ b4.left) h));
            pricing_most = λ s h. at_most 11 _ _ (total_both t w s (first_at _ 5 b5.left s h)).left;
            actual_most = λ i h. actual_is w i (first_at _ 5 b5.right i h);
          };
      operating_most = λ s h. at_most 11 _ _ (total_both t w s (first_at _ 5 b5.left s h)).right;
    }

-- its bids alone
pub accepted_bids : (t : List (List ℕ)) (w : List ℕ) → line_fault_with t w ≡ 0 → first (bid_fault w) 5 ≡ 0
unfolding line_fault_with
accepted_bids t w e = (or_else_both _ _ (or_else_both _ _ e).right).left

pub accepted_line : (w : List ℕ) → line_fault w ≡ 0 → AcceptedLine w
unfolding line_fault
accepted_line w e = (accepted_with (operating_table w) w e).line

-- the header: refusals 1 to 3 and 19
pub record AcceptedHeader (d : List ℕ) : Type 0 where
  pub length_least : 72 ≤ length d
  pub count_least : 1 ≤ line_count d
  pub count_most : line_count d ≤ 64
  pub lines_least : 64 ≤ lines_at d
  pub lines_most : lines_at d ≤ 72
  pub records_most : record_count d ≤ 64
  pub length_is : length d ≡ file_length d

pub accepted_header : (d : List ℕ) → header_fault d ≡ 0 → AcceptedHeader d
unfolding header_fault_of header_fault
accepted_header d e =
    let b1 = or_else_both _ _ e in
    let b2 = or_else_both _ _ b1.right in
    let b3 = or_else_both _ _ b2.right in
    let b4 = or_else_both _ _ b3.right in
    let b5 = or_else_both _ _ b4.right in
    let b6 = or_else_both _ _ b5.right in
    let b7 = or_else_both _ _ b6.right in
    let b8 = or_else_both _ _ b7.right in
    let none = eqb-false (line_count d) 0 (refuse_zero 1 _ b2.left) in
    let same : length d ≡ file_length d = equal 2 (length d) (file_length d) b8.left in
    let place = lines_at_lem d in
    record {
      length_least = omega (arith, place.0);
      count_least = omega arith;
      count_most = at_most 1 64 (line_count d) b3.left;
      lines_least = place.0;
      lines_most = place.1;
      records_most = at_most 18 64 (record_count d) b8.right;
      length_is = same;
    }

-- the market table: refusals 4 and 5
pub record AcceptedMarket (d : List ℕ) : Type 0 where
  pub price_most_lem : (s : ℕ) → s < 5 → market_price d s ≤ 10000000
  pub cap_most : price_cap d ≤ 10000000
  pub mark_most : (s : ℕ) → s < 5 → cap_mark d s ≤ 1
  pub clawback_most : clawback d ≤ 1

price_is : (d : List ℕ) (s : ℕ) → market_price_fault d s ≡ 0 → market_price d s ≤ 10000000
unfolding market_price_fault
price_is d s e = at_most 3 10000000 _ e

mark_is : (d : List ℕ) (s : ℕ) → mark_fault d s ≡ 0 → cap_mark d s ≤ 1
unfolding mark_fault
mark_is d s e = at_most 4 1 _ e

pub accepted_market : (d : List ℕ) → market_fault d ≡ 0 → AcceptedMarket d
unfolding market_fault
accepted_market d e =
    let b1 = or_else_both _ _ e in
    let b2 = or_else_both _ _ b1.right in
    let b3 = or_else_both _ _ b2.right in
    record {
      price_most_lem = λ s h. price_is d s (first_at _ 5 b1.left s h);
      cap_most = at_most 3 10000000 _ b2.left;
      mark_most = λ s h. mark_is d s (first_at _ 5 b3.left s h);
      clawback_most = at_most 4 1 _ b3.right;
    }

-- the records: refusals 20 and 21
pub record AcceptedRecords (d : List ℕ) : Type 0 where
  pub line_in : (i : ℕ) → i < record_count d → record_line d (records_at d) i < line_count d
  pub schedule_least : (i : ℕ) → i < record_count d → 1 ≤ record_schedule d (records_at d) i
  pub schedule_most : (i : ℕ) → i < record_count d → record_schedule d (records_at d) i ≤ 5
  pub distinct : (i h : ℕ) → i < record_count d → h < i → same_record d (records_at d) h i ≡ false

record_both : (d : List ℕ) (r n i : ℕ) → record_fault d r n i ≡ 0
    → (record_line d r i < n) × (1 ≤ record_schedule d r i) × (record_schedule d r i ≤ 5)
unfolding record_fault
record_both d r n i e =
    let b1 = or_else_both _ _ e in
    let b2 = or_else_both _ _ b1.right in
    let none = eqb-false (record_schedule d r i) 0 (refuse_zero 19 _ b2.left) in
    (leb-false _ _ (refuse_zero 19 _ b1.left), omega arith, at_most 19 5 _ b2.right)

twin_is : (d : List ℕ) (r i h : ℕ) → h < i → twin_fault d r i ≡ 0 → same_record d r h i ≡ false
unfolding twin_fault
twin_is d r i h l e = refuse_zero 20 _ (first_at _ i e h l)

pub accepted_records : (d : List ℕ) → records_fault d ≡ 0 → AcceptedRecords d
unfolding records_fault
accepted_records d e =
    let b = or_else_both _ _ e in
    record {
      line_in = λ i l. (record_both d (records_at d) (line_count d) i (first_at _ (record_count d) b.left i l)).0;
      schedule_least = λ i l. (record_both d (records_at d) (line_count d) i (first_at _ (record_count d) b.left i l)).1;
      schedule_most = λ i l. (record_both d (records_at d) (line_count d) i (first_at _ (record_count d) b.left i l)).2;
      distinct = λ i h l g. twin_is d (records_at d) i h g (first_at _ (record_count d) b.right i l);
    }

-- a day: refusals 1 to 14 and 19 to 21
pub record AcceptedDay (d : List ℕ) : Type 0 where
  pub header : AcceptedHeader d
  pub market : AcceptedMarket d
  pub records : AcceptedRecords d
  pub line_fault_lem : (k : ℕ) → k < line_count d → line_fault_with (table_in_force d k) (line_at d k) ≡ 0
  pub keys : (k i : ℕ) → k < line_count d → i < k → same_key (line_at d i) (line_at d k) ≡ false

line_is : (d : List ℕ) (k : ℕ) → line_fault_at d k ≡ 0 → line_fault_with (table_in_force d k) (line_at d k) ≡ 0
unfolding line_fault_at
line_is d k e = e

key_is : (d : List ℕ) (k i : ℕ) → i < k → key_fault d k ≡ 0 → same_key (line_at d i) (line_at d k) ≡ false
unfolding key_fault pair_fault
key_is d k i h e = refuse_zero 13 _ (first_at _ k e i h)

pub accepted_day : (d : List ℕ) → day_fault d ≡ 0 → AcceptedDay d
unfolding day_fault
accepted_day d e =
    let b1 = or_else_both _ _ e in
    let b2 = or_else_both _ _ b1.right in
    let b3 = or_else_both _ _ b2.right in
    let b4 = or_else_both _ _ b3.right in
    record {
      header = accepted_header d b1.left;
      market = accepted_market d b2.left;
      records = accepted_records d b3.left;
      line_fault_lem = λ k h. line_is d k (first_at _ (line_count d) b4.left k h);
      keys = λ k i h l. key_is d k i l (first_at _ (line_count d) b4.right k h);
    }

-- line k, with its rows in force
pub accepted_line_with : (d : List ℕ) → AcceptedDay d → (k : ℕ) → k < line_count d → AcceptedWith (table_in_force d k) (line_at d k)
accepted_line_with d a k h = accepted_with (table_in_force d k) (line_at d k) (a.line_fault_lem k h)

pub accepted_line_at : (d : List ℕ) → AcceptedDay d → (k : ℕ) → k < line_count d → AcceptedLine (line_at d k)
accepted_line_at d a k h = (accepted_line_with d a k h).line
