-- Document 01, "Units and the day file": the limits, words, header, market table and a line's fields; the second layout and its records by
-- document 02, F-5.
use Rattle.std.specs.Prelude.{ℕ, zero, suc, ◌+◌, ◌*◌, ◌-◌, List, Bool, cond, not, get_or, take, drop, eqb}
use Rattle.rules.specs.Fold.{five}

-- "The limits are 200,000,000 MJ and 10,000,000 price units"
abbrev pub quantity_most : ℕ
quantity_most = 200000000

abbrev pub price_most : ℕ
price_most = 10000000

-- "Pricing and operating totals may exceed M by up to 1,000 MJ" (document 02, F-2)
abbrev pub excess_most : ℕ
excess_most = 1000

-- "The file is 32-bit unsigned little-endian words": the word whose first byte is byte i
abbrev pub word : List ℕ → ℕ → ℕ
word b i = get_or b i 0 + get_or b (i + 1) 0 * 256 + get_or b (i + 2) 0 * 65536 + get_or b (i + 3) 0 * 16777216

-- word j of a line's bytes
abbrev pub field : List ℕ → ℕ → ℕ
field w j = word w (4 * j)

-- "Header, 4 words: line count n (1..64), offset of the market table (16), offset of the lines (64), file length (64 + 660n bytes)"
abbrev pub line_count : List ℕ → ℕ
line_count d = word d 0

abbrev pub market_offset : List ℕ → ℕ
market_offset d = word d 4

abbrev pub lines_offset : List ℕ → ℕ
lines_offset d = word d 8

abbrev pub length_word : List ℕ → ℕ
length_word d = word d 12

-- "The file's header gains two words, a count (up to 64) and an offset of ad hoc records" (document 02, F-5)
abbrev pub count_word : List ℕ → ℕ
count_word d = word d 16

abbrev pub records_offset : List ℕ → ℕ
records_offset d = word d 20

abbrev pub most_lines : ℕ
most_lines = 64

abbrev pub most_records : ℕ
most_records = 64

abbrev pub line_bytes : ℕ
line_bytes = 660

-- "A record is eight words"
abbrev pub record_bytes : ℕ
record_bytes = 32

-- THE LAYOUT of a day file: where its market table, lines and records stand, how many records it has, and its length.
-- "A market offset of 16 means the old layout"; any other is held to the new one (document 02, F-5)
abbrev pub old_market_at : ℕ
old_market_at = 16

unfoldable pub ad_hoc : List ℕ → Bool
ad_hoc d = not (eqb (market_offset d) old_market_at)

-- "In such a file the market table stands at 24, the lines at 72"
unfoldable pub market_at : List ℕ → ℕ
market_at d = cond (ad_hoc d) 24 old_market_at

unfoldable pub lines_at : List ℕ → ℕ
lines_at d = cond (ad_hoc d) 72 64

abbrev pub line_place : List ℕ → ℕ → ℕ
line_place d k = lines_at d + line_bytes * k

-- "the records after the lines, and the length word covers all"
abbrev pub records_at : List ℕ → ℕ
records_at d = line_place d (line_count d)

unfoldable pub record_count : List ℕ → ℕ
record_count d = cond (ad_hoc d) (count_word d) 0

abbrev pub file_length : List ℕ → ℕ
file_length d = records_at d + record_bytes * record_count d

-- "Market table, 12 words: five market prices, five cap marks (0 or 1), the administered price cap APC, the clawback switch (0 off, 1 on)"
abbrev pub market_word : List ℕ → ℕ → ℕ
market_word d j = word d (market_at d + 4 * j)

abbrev pub market_price : List ℕ → ℕ → ℕ
market_price d s = market_word d s

abbrev pub cap_mark : List ℕ → ℕ → ℕ
cap_mark d s = market_word d (5 + s)

abbrev pub price_cap : List ℕ → ℕ
price_cap d = market_word d 10

abbrev pub clawback : List ℕ → ℕ
clawback d = market_word d 11

-- the 660 bytes of line k
abbrev pub line_at : List ℕ → ℕ → List ℕ
line_at d k = take line_bytes (drop (line_place d k) d)

-- "Line, 165 words: participant, point (any value), side (0 injection, 1 withdrawal), accreditation (0 no, 1 yes), hedge"; an accreditation
-- of 32 to 63 is a set of schedules (document 02, F-7)
abbrev pub participant : List ℕ → ℕ
participant w = field w 0

abbrev pub point : List ℕ → ℕ
point w = field w 1

abbrev pub side : List ℕ → ℕ
side w = field w 2

abbrev pub accreditation : List ℕ → ℕ
accreditation w = field w 3

abbrev pub hedge : List ℕ → ℕ
hedge w = field w 4

abbrev pub withdrawal : ℕ → Bool
withdrawal sd = eqb sd 1

-- "five bids, each a count, 11 cumulative break points, 11 prices": the bid of schedule s, and its step j
abbrev pub bid_slots : ℕ
bid_slots = 11

abbrev pub bid_word : ℕ → ℕ
bid_word s = 5 + 23 * s

abbrev pub bid_count : List ℕ → ℕ → ℕ
bid_count w s = field w (bid_word s)

abbrev pub bid_break : List ℕ → ℕ → ℕ → ℕ
bid_break w s j = field w (bid_word s + 1 + j)

abbrev pub bid_price : List ℕ → ℕ → ℕ → ℕ
bid_price w s j = field w (bid_word s + 12 + j)

-- "15 pricing quantities, rows s = 1..5, each for intervals s..5": where row r begins among the fifteen
abbrev pub pricing_row : ℕ → ℕ
pricing_row zero = 0
pricing_row (suc r) = pricing_row r + (5 - r)

-- the entry for interval i in row r, where r is at most i
abbrev pub pricing_entry : List ℕ → ℕ → ℕ → ℕ
pricing_entry w r i = field w (120 + (pricing_row r + (i - r)))

-- "the operating quantities as a table of five schedules by five intervals"
abbrev pub operating_entry : List ℕ → ℕ → ℕ → ℕ
operating_entry w s i = field w (135 + (5 * s + i))

abbrev pub operating_table : List ℕ → List (List ℕ)
operating_table w = five (λ s. five (operating_entry w s))

-- "five actuals"
abbrev pub actual_entry : List ℕ → ℕ → ℕ
actual_entry w i = field w (160 + i)

-- "A record is eight words: line (from 0), schedule, order number, five quantities" (document 02, F-5): word j of record i, of those that
-- stand from byte r on
abbrev pub record_word : List ℕ → ℕ → ℕ → ℕ → ℕ
record_word b r i j = word b (r + record_bytes * i + 4 * j)

abbrev pub record_line : List ℕ → ℕ → ℕ → ℕ
record_line b r i = record_word b r i 0

abbrev pub record_schedule : List ℕ → ℕ → ℕ → ℕ
record_schedule b r i = record_word b r i 1

abbrev pub record_order : List ℕ → ℕ → ℕ → ℕ
record_order b r i = record_word b r i 2

abbrev pub record_entry : List ℕ → ℕ → ℕ → ℕ → ℕ
record_entry b r i j = record_word b r i (3 + j)
