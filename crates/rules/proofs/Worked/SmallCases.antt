-- Single definitions on small cases, expected by the sentences of documents 01 and 02: one lemma, computed before all others, because a wrong
-- definition that it refuses costs least. The whole days are computed after it.
use Rattle.std.specs.Prelude.{ℕ, ◌≡◌, refl, List, [], ◌∷◌, ◌++◌, true, false, get_or, replicate, pos}
use Rattle.rules.specs.Fold.{five}
use Rattle.rules.specs.Refusals.{header_fault_of, bid_fault}
use Rattle.rules.specs.Steps.{price, flag, capped, paid}
use Rattle.rules.specs.Quantities.{msiq}
use Rattle.rules.specs.Matching.{ten_matches}
use Rattle.rules.specs.InForce.{highest}
use Rattle.rules.specs.declared.Step.{Step}
use Rattle.rules.specs.Payments.{bit, Pool, Day, operating_on, on_step, excess_of, beyond_by, milder, initial, revised, modified, final_payment, pool_base}
use Rattle.rules.specs.Days.{step_of}
use Rattle.rules.specs.Book.{bits64}
use Rattle.rules.proofs.Worked.Cases.{Case, every, number, bytes_of, bid, neg}
use Rattle.rules.proofs.Worked.Opened.{opened}

-- "max(0, price - market price), reversed for withdrawals"; "lesser of the prices in r and s .. the greater"
abbrev rate_cases : List Case
rate_cases =
    record { found = beyond_by 0 10 3 ∷ beyond_by 0 3 10 ∷ beyond_by 1 10 3 ∷ beyond_by 1 3 10 ∷ []; expected = 7 ∷ 0 ∷ 0 ∷ 7 ∷ [] }
    ∷ record { found = milder 0 3 10 ∷ milder 0 10 3 ∷ milder 1 3 10 ∷ milder 1 10 3 ∷ []; expected = 3 ∷ 3 ∷ 10 ∷ 10 ∷ [] }
    ∷ []

-- E = 9 4 8 6 7: "E(s) if price > market price (withdrawal: price < market price), else min(E(s), MSIQ(s+1))", where all prices are the market
-- price 5, and where that of schedule 3 is 6 on an injection, 4 on a withdrawal
abbrev msiq_of : ℕ → ℕ → List ℕ
msiq_of sd p = five (msiq sd (5 ∷ 5 ∷ p ∷ 5 ∷ 5 ∷ []) (replicate 5 5) (9 ∷ 4 ∷ 8 ∷ 6 ∷ 7 ∷ []))

abbrev msiq_cases : List Case
msiq_cases =
    record { found = msiq_of 0 5 ++ msiq_of 1 5; expected = 4 ∷ 4 ∷ 6 ∷ 6 ∷ 7 ∷ 4 ∷ 4 ∷ 6 ∷ 6 ∷ 7 ∷ [] }
    ∷ record { found = msiq_of 0 6 ++ msiq_of 1 4; expected = 4 ∷ 4 ∷ 8 ∷ 6 ∷ 7 ∷ 4 ∷ 4 ∷ 8 ∷ 6 ∷ 7 ∷ [] }
    ∷ []

-- C = 4 6 1 3 0: U(1) = 4, U(2) = 2, D(3) = 5, U(4) = 2, D(5) = 3, so m(2, 3) = 2 and m(1, 3) = 3, then m(4, 5) = 2 and m(1, 5) = 1, others 0
abbrev match_cases : List Case
match_cases = record { found = ten_matches (4 ∷ 6 ∷ 1 ∷ 3 ∷ 0 ∷ []); expected = 0 ∷ 3 ∷ 2 ∷ 0 ∷ 0 ∷ 0 ∷ 1 ∷ 0 ∷ 0 ∷ 2 ∷ [] } ∷ []

-- four records: line, schedule, order number, five quantities. For line 0 and schedule 2 the highest order number is 2147483648, that of the second
abbrev four_records : List ℕ
four_records =
    bytes_of
    ((0 ∷ 2 ∷ 7 ∷ replicate 5 0) ++ (0 ∷ 2 ∷ 2147483648 ∷ replicate 5 0) ++ (0 ∷ 2 ∷ 5 ∷ replicate 5 0) ++ (1 ∷ 2 ∷ 4294967295 ∷ replicate 5 0))

-- the place from 1 of the record in force, 0 where there is none: line 0, schedules 1, 2 and 3; line 1, schedule 2
abbrev record_cases : List Case
record_cases =
    record {
      found = highest four_records 0 0 0 4 ∷ highest four_records 0 0 1 4 ∷ highest four_records 0 0 2 4 ∷ highest four_records 0 1 1 4 ∷ [];
      expected = 0 ∷ 2 ∷ 0 ∷ 4 ∷ [];
    }
    ∷ []

-- the header of a file of one line with its length word, its count and where its records stand, of so many bytes: "the market table stands at 24, the
-- lines at 72", so that the records stand at 732. 19 comes as the header's last; 134217728 records are 2^32 bytes
abbrev headed : ℕ → ℕ → ℕ → ℕ
headed len c at = header_fault_of (bytes_of (1 ∷ 24 ∷ 72 ∷ len ∷ c ∷ at ∷ [])) len

abbrev header_cases : List Case
header_cases =
    record { found = headed 732 0 732 ∷ headed 2780 64 732 ∷ []; expected = 0 ∷ 0 ∷ [] }
    ∷ record { found = headed 732 0 731 ∷ headed 732 134217728 732 ∷ headed 2812 65 732 ∷ []; expected = 3 ∷ 3 ∷ 19 ∷ [] }
    ∷ []

-- a line of zeros: no bid, so 7 in schedule 1 alone; not accredited, so not paid
abbrev zero_line : List ℕ
zero_line = replicate 660 0

abbrev zero_cases : List Case
zero_cases =
    record { found = bid_fault zero_line 0 ∷ bid_fault zero_line 1 ∷ []; expected = 7 ∷ 0 ∷ [] }
    ∷ number (bit (paid zero_line 10 0)) 0
    ∷ []

-- cap marks 0 1 0 0 0, APC 60
abbrev capped_day : List ℕ
capped_day = bytes_of ((1 ∷ 16 ∷ 64 ∷ 724 ∷ []) ++ replicate 5 0 ++ (0 ∷ 1 ∷ 0 ∷ 0 ∷ 0 ∷ []) ++ (60 ∷ 0 ∷ []))

abbrev cap_cases : List Case
cap_cases = record { found = capped capped_day 0 100 ∷ capped capped_day 1 100 ∷ capped capped_day 1 50 ∷ []; expected = 100 ∷ 60 ∷ 50 ∷ [] } ∷ []

-- bids 10 at 5; 10, 15 at 6, 9; then pulled: the price there is 9 and the flag 1, on the step that ends at 10 too, which is 6 in schedule 2. M is 15
abbrev pulled_words : List ℕ
pulled_words = (0 ∷ 0 ∷ 0 ∷ 1 ∷ 0 ∷ []) ++ bid (10 ∷ []) (5 ∷ []) ++ bid (10 ∷ 15 ∷ []) (6 ∷ 9 ∷ []) ++ replicate 114 0

abbrev priced_at : ℕ → ℕ → List ℕ
priced_at s u = price (bytes_of pulled_words) s u ∷ flag (bytes_of pulled_words) s u ∷ []

abbrev pulled_cases : List Case
pulled_cases =
    record { found = priced_at 0 15 ++ priced_at 1 10 ++ priced_at 2 10 ++ priced_at 3 10; expected = 5 ∷ 1 ∷ 6 ∷ 0 ∷ 9 ∷ 1 ∷ 9 ∷ 1 ∷ [] }
    ∷ number (step_of (bytes_of ((1 ∷ 16 ∷ 64 ∷ 724 ∷ []) ++ replicate 12 0 ++ pulled_words)) 0 0).most 15
    ∷ []

-- an injection's step up to M = 100 with market price 3, clawback on
abbrev step_with : List ℕ → ℕ → List ℕ → List ℕ → List ℕ → ℕ → Step
step_with p f pd e o a =
    record {
      side = 0;
      lower = 0;
      upper = 100;
      price = p;
      flag = replicate 5 f;
      market = replicate 5 3;
      paid = pd;
      pricing = e;
      operating = o;
      actual = a;
      most = 100;
    }

-- operating 150 100 90 100 130, pricing 120 and then 100, effective actual 110: what is above 100 is excess, and C is 0
abbrev over_step : Step
over_step = step_with (replicate 5 5) 0 (replicate 5 1) (120 ∷ replicate 4 100) (150 ∷ 100 ∷ 90 ∷ 100 ∷ 130 ∷ []) 110

abbrev excess_cases : List Case
excess_cases =
    record { found = (excess_of over_step).operating ++ (excess_of over_step).pricing; expected = 50 ∷ 0 ∷ 0 ∷ 0 ∷ 30 ∷ 20 ∷ 0 ∷ 0 ∷ 0 ∷ 0 ∷ [] }
    ∷ number (excess_of over_step).actual 10
    ∷ record { found = five (operating_on over_step) ++ on_step over_step; expected = 100 ∷ 100 ∷ 90 ∷ 100 ∷ 100 ∷ replicate 5 0 }
    ∷ []

-- C = 10 0 0 0 0 at prices 9 and then 7, unpaid in schedule 1: in schedule 2, D = 10 and m(1, 2) = 10, initial and revised are -10 x (7 - 3), modified is
-- -10 x (9 - 3), which is the final one where the flag is 1
abbrev fall_step : Step
fall_step = step_with (9 ∷ replicate 4 7) 1 (0 ∷ replicate 4 1) (replicate 5 0) (10 ∷ replicate 4 0) 0

abbrev no_pool : Pool
no_pool = record { total = pos 0; base = 0; differs = false }

abbrev fall_cases : List Case
fall_cases =
    record { found = bits64 (initial fall_step 1) ∷ bits64 (revised fall_step 1) ∷ bits64 (modified fall_step 1) ∷ []; expected = neg 40 ∷ neg 40 ∷ neg 60 ∷ [] }
    ∷ number (bits64 (final_payment fall_step 1 1 no_pool)) (neg 60)
    ∷ []

-- of one line: C rises by 5 to the second schedule on a step that is paid, by 40 on one that is paid in the first schedule alone, and falls by 8 on a
-- third, which is paid. B(2) is the greater of 5 and 8
abbrev base_steps : List Step
base_steps =
    step_with (replicate 5 9) 0 (replicate 5 1) (replicate 5 0) (0 ∷ replicate 4 5) 5
    ∷ step_with (replicate 5 9) 0 (1 ∷ replicate 4 0) (replicate 5 0) (0 ∷ replicate 4 40) 40
    ∷ step_with (replicate 5 9) 0 (replicate 5 1) (replicate 5 0) (9 ∷ replicate 4 1) 1
    ∷ []

abbrev base_day : Day
base_day =
    record {
      lines = 1;
      participant = λ k. 0;
      point = λ k. 0;
      side = λ k. 0;
      count = λ k. 3;
      step = λ k j. get_or base_steps j over_step;
      clawback = 1;
    }

abbrev base_cases : List Case
base_cases = number (pool_base base_day 0 1) 8 ∷ []

abbrev small_cases : List Case
small_cases =
    rate_cases ++ msiq_cases ++ match_cases ++ record_cases ++ header_cases ++ cap_cases ++ fall_cases ++ base_cases ++ excess_cases ++ zero_cases ++ pulled_cases

pub small_cases_lem : every small_cases ≡ true
unfolding opened
small_cases_lem = refl
