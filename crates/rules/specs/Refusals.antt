-- Document 01, "Where each refusal is checked", and its table; 19 to 21 by document 02, F-5.
use Rattle.std.specs.Prelude.{ℕ, zero, suc, ◌+◌, ◌*◌, ◌-◌, List, [], Bool, not, cond, ◌&&◌, length, eqb, ltb, leb}
use Rattle.rules.specs.Fold.{refuse, ◌or_else◌, first, before}
use Rattle.rules.specs.Layout.{quantity_most, price_most, excess_most, line_count, market_offset, lines_offset, length_word, records_offset, most_lines, most_records, line_bytes}
use Rattle.rules.specs.Layout.{ad_hoc, market_at, lines_at, records_at, record_count, file_length, record_line, record_schedule, record_order}
use Rattle.rules.specs.Layout.{market_price, cap_mark, price_cap, clawback, line_at, participant, point, side, accreditation, hedge, withdrawal}
use Rattle.rules.specs.Layout.{bid_slots, bid_count, bid_break, bid_price, operating_table, actual_entry}
use Rattle.rules.specs.Steps.{greatest_break, step_count}
use Rattle.rules.specs.Quantities.{pricing_total, table_total}
use Rattle.rules.specs.InForce.{table_in_force}

-- header: "1: under 64 bytes", "2: n is 0 or above 64", "3: offsets, length word or real length differ from those above"; "refusal 3 reads
-- the layout named", "19 when, after refusal 3 and as the header's last check .., the count is above 64" (document 02, F-5).
-- Of a file of `len` bytes, the first of which are d
unfoldable pub header_fault_of : List ℕ → ℕ → ℕ
header_fault_of d len =
    refuse 1 (ltb len 64)
    or_else refuse 2 (eqb (line_count d) 0)
    or_else refuse 2 (ltb most_lines (line_count d))
    or_else refuse 3 (not (eqb (market_offset d) (market_at d)))
    or_else refuse 3 (not (eqb (lines_offset d) (lines_at d)))
    or_else refuse 3 (ad_hoc d && not (eqb (records_offset d) (records_at d)))
    or_else refuse 3 (not (eqb (length_word d) (file_length d)))
    or_else refuse 3 (not (eqb len (file_length d)))
    or_else refuse 19 (ltb most_records (record_count d))

unfoldable pub header_fault : List ℕ → ℕ
header_fault d = header_fault_of d (length d)

-- market: "4: a price or APC above limit"
unfoldable pub market_price_fault : List ℕ → ℕ → ℕ
market_price_fault d s = refuse 4 (ltb price_most (market_price d s))

-- market: "5: mark or switch above 1"
unfoldable pub mark_fault : List ℕ → ℕ → ℕ
mark_fault d s = refuse 5 (ltb 1 (cap_mark d s))

unfoldable pub market_fault : List ℕ → ℕ
market_fault d =
    first (market_price_fault d) 5
    or_else refuse 4 (ltb price_most (price_cap d))
    or_else first (mark_fault d) 5
    or_else refuse 5 (ltb 1 (clawback d))

-- records: "20 when, after the market table, a record names a line not in the file or a schedule outside 1 to 5" (document 02, F-5): record i,
-- of those from byte r on, in a file of n lines
unfoldable pub record_fault : List ℕ → ℕ → ℕ → ℕ → ℕ
record_fault d r n i =
    refuse 20 (leb n (record_line d r i))
    or_else refuse 20 (eqb (record_schedule d r i) 0)
    or_else refuse 20 (ltb 5 (record_schedule d r i))

-- records: "21 when, after that, two records agree in line, schedule and order number"
unfoldable pub same_record : List ℕ → ℕ → ℕ → ℕ → Bool
same_record d r h i =
    eqb (record_line d r h) (record_line d r i)
    && eqb (record_schedule d r h) (record_schedule d r i)
    && eqb (record_order d r h) (record_order d r i)

unfoldable pub twin_fault : List ℕ → ℕ → ℕ → ℕ
twin_fault d r i = first (λ h. refuse 21 (same_record d r h i)) i

unfoldable pub records_fault : List ℕ → ℕ
records_fault d =
    first (record_fault d (records_at d) (line_count d)) (record_count d)
    or_else first (twin_fault d (records_at d)) (record_count d)

-- each line: "8: breaks not strictly rising from above 0, or above limit"
unfoldable pub break_fault : List ℕ → ℕ → ℕ → ℕ
break_fault w s j =
    refuse 8 (leb (bid_break w s j) (before (bid_break w s) j))
    or_else refuse 8 (ltb quantity_most (bid_break w s j))

-- whether price q after price p is out of order: "falling (withdrawal: rising)"
unfoldable pub out_of_order : ℕ → ℕ → ℕ → Bool
out_of_order sd p q = cond (withdrawal sd) (ltb p q) (ltb q p)

-- the first price has none before it
unfoldable pub order_fault : List ℕ → ℕ → ℕ → ℕ
order_fault w s zero = 0
order_fault w s (suc j) = refuse 9 (out_of_order (side w) (bid_price w s j) (bid_price w s (suc j)))

-- each line: "9: price above limit, or falling (withdrawal: rising)"
unfoldable pub price_fault : List ℕ → ℕ → ℕ → ℕ
price_fault w s j = refuse 9 (ltb price_most (bid_price w s j)) or_else order_fault w s j

-- each line: "10: an unused slot isn't 0": those from the count up to the eleventh, the i-th of them
unfoldable pub unused_fault : List ℕ → ℕ → ℕ → ℕ
unused_fault w s i =
    refuse 10 (not (eqb (bid_break w s (bid_count w s + i)) 0))
    or_else refuse 10 (not (eqb (bid_price w s (bid_count w s + i)) 0))

-- "within a line 7 to 10 run bid by bid"; within a bid each is asked of the whole bid, in this order.
-- "7: bid count 0 or above 11"; "A count of 0 is then proper in schedules 2 to 5", "Refusal 7 still covers 0 in schedule 1" (document 02,
-- F-6); schedule 1 is 0 here. Of a pulled bid all slots are unused
unfoldable pub bid_fault : List ℕ → ℕ → ℕ
bid_fault w s =
    refuse 7 (eqb s 0 && eqb (bid_count w s) 0)
    or_else refuse 7 (ltb bid_slots (bid_count w s))
    or_else first (break_fault w s) (bid_count w s)
    or_else first (price_fault w s) (bid_count w s)
    or_else first (unused_fault w s) (bid_slots - bid_count w s)

-- each line: "12: a pricing or operating total above M"; "Refusal 12 starts at M + 1,001" (document 02, F-2). With a table of operating
-- quantities
unfoldable pub total_fault : List (List ℕ) → List ℕ → ℕ → ℕ
total_fault t w s =
    refuse 12 (ltb (greatest_break w + excess_most) (pricing_total w s))
    or_else refuse 12 (ltb (greatest_break w + excess_most) (table_total t s))

-- each line: "13: an actual above the quantity limit"
unfoldable pub actual_fault : List ℕ → ℕ → ℕ
actual_fault w i = refuse 13 (ltb quantity_most (actual_entry w i))

-- each line: "6: side or accreditation above 1"; of accreditation "Refusal 6 now covers 2 to 31 and above 63" (document 02, F-7)
unfoldable pub head_fault : List ℕ → ℕ
head_fault w =
    refuse 6 (ltb 1 (side w))
    or_else refuse 6 (ltb 1 (accreditation w) && ltb (accreditation w) 32)
    or_else refuse 6 (ltb 63 (accreditation w))

-- each line: 6, the bids, "11: hedge above M, or not 0 on a withdrawal", 12, 13
unfoldable pub line_fault_with : List (List ℕ) → List ℕ → ℕ
line_fault_with t w =
    head_fault w
    or_else first (bid_fault w) 5
    or_else refuse 11 (ltb (greatest_break w) (hedge w))
    or_else refuse 11 (withdrawal (side w) && not (eqb (hedge w) 0))
    or_else first (total_fault t w) 5
    or_else first (actual_fault w) 5

-- with the line's own table: "in the cutter, which is given one line and no records, the line's own" (document 02, F-5)
unfoldable pub line_fault : List ℕ → ℕ
line_fault w = line_fault_with (operating_table w) w

-- "lines one after another", with the rows in force: "All rules on operating quantities, refusal 12 included, read the row in force"
-- (document 02, F-5)
unfoldable pub line_fault_at : List ℕ → ℕ → ℕ
line_fault_at d k = line_fault_with (table_in_force d k) (line_at d k)

-- all lines: "14: two with equal participant, point and side"
unfoldable pub same_key : List ℕ → List ℕ → Bool
same_key v w = eqb (participant v) (participant w) && eqb (point v) (point w) && eqb (side v) (side w)

unfoldable pub pair_fault : List ℕ → ℕ → ℕ → ℕ
pair_fault d k i = refuse 14 (same_key (line_at d i) (line_at d k))

unfoldable pub key_fault : List ℕ → ℕ → ℕ
key_fault d k = first (pair_fault d k) k

-- header to all lines: the number of a day file, 0 where it is accepted
-- ("A day is accepted when its file has none of settling's faults", document 01, "Totals and book")
unfoldable pub day_fault : List ℕ → ℕ
day_fault d =
    header_fault d
    or_else market_fault d
    or_else records_fault d
    or_else first (line_fault_at d) (line_count d)
    or_else first (key_fault d) (line_count d)

-- the length of a day's book
abbrev pub book_length : ℕ → ℕ
book_length n = 96 + 56 * n

-- "Settling meets the table's rows from the top"; book: "15: under 96 + 56n bytes", of a lent book of so many bytes
unfoldable pub settle_fault : List ℕ → ℕ → ℕ
settle_fault d lent = day_fault d or_else refuse 15 (ltb lent (book_length (line_count d)))

-- "The view runs header to all lines, then 16 and 17": "line not below n", "step not below its count"
unfoldable pub view_fault : List ℕ → ℕ → ℕ → ℕ
view_fault d k j =
    day_fault d
    or_else refuse 16 (leb (line_count d) k)
    or_else refuse 17 (leb (step_count (line_at d k)) j)

-- "the line part runs header, then 16": "line not below n"
unfoldable pub line_part_fault : List ℕ → ℕ → ℕ
line_part_fault d k = header_fault d or_else refuse 16 (leb (line_count d) k)

-- "A further call lends the caller's own bytes for line k (from 0); for a refusal of header or k it lends the empty part"
-- (document 01, "Steps and prices")
unfoldable pub line_part : List ℕ → ℕ → List ℕ
line_part d k = cond (eqb (line_part_fault d k) 0) (line_at d k) []

-- "cutter, before 6 to 13: 18: not 660 bytes"
unfoldable pub cut_fault : List ℕ → ℕ
cut_fault w = refuse 18 (not (eqb (length w) line_bytes)) or_else line_fault w
