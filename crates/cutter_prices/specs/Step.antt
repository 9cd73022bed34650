-- What the cutter writes of a step, by the definitions of `price` and `flag`.
use Rattle.std.specs.Prelude.{ℕ, zero, suc, ◌+◌, ◌*◌, ◌-◌, ◌^◌, ◌≤◌, ◌<◌, cond, List, set, eqb}
use Rattle.rules.specs.Fold.{five, at}
use Rattle.rules.specs.Layout.{bid_word, bid_count}
use Rattle.rules.specs.Steps.{source, price, flag}
use Rattle.cutter_prices.specs.declared.StepPrice.{StepPrice}
use Rattle.cutter_prices.specs.declared.StepRows.{StepRows}
use Rattle.cutter_prices.specs.declared.Slots.{Slots}
use Rattle.cutter_prices.specs.declared.Missing.{Missing}

-- the byte of the word before price j of the bid of schedule s, from 0
abbrev pub before_price : ℕ → ℕ → ℕ
before_price s j = 4 * (bid_word s + 11 + j)

-- the byte that the prices of schedule s are counted from, that of bid step j, from 1, being j words on: before the first price of its bid or,
-- where that was pulled, so that its cursor stands at 1, before the last price of the bid that gives it
unfoldable pub slot_of : List ℕ → ℕ → ℕ
slot_of w s = cond (eqb (bid_count w s) 0) (before_price (source w s) (bid_count w (source w s) - 1)) (before_price s 0)

unfoldable pub slots_of : List ℕ → Slots
slots_of w = record { byte = five (slot_of w) }

-- the uncapped price and the flag of the step that ends at u, in schedule s
unfoldable pub step_price : List ℕ → ℕ → ℕ → StepPrice
step_price w s u = record { price = price w s u; flag = flag w s u }

-- the same in the five schedules
unfoldable pub step_rows : List ℕ → ℕ → StepRows
step_rows w u = record { price = five (λ s. price w s u); flag = five (λ s. flag w s u) }

-- l with v s at place n of row s, for the first m rows of 56
unfoldable pub put_to : ℕ → List ℕ → ℕ → (ℕ → ℕ) → List ℕ
put_to zero l n v = l
put_to (suc m) l n v = set (put_to m l n v) (56 * m + n) (v m)

-- the five rows of prices with those of step n, which ends at u
unfoldable pub prices_put : List ℕ → List ℕ → ℕ → ℕ → List ℕ
prices_put w l u n = put_to 5 l n (λ s. price w s u)

-- at most n steps are flagged in each schedule
abbrev pub MissingMost : Missing → ℕ → Type 0
MissingMost m n = (s : ℕ) → s < 5 → at m.count s ≤ n

-- how many are flagged with the step that ends at u
unfoldable pub missing_with : List ℕ → ℕ → Missing → Missing
missing_with w u m = record { count = five (λ s. at m.count s + flag w s u) }

-- the word of n flags of which the last m are set
unfoldable pub run_word : ℕ → ℕ → ℕ
run_word n m = 2 ^ n - 2 ^ (n - m)
