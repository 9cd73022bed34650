-- What reading a quantity or a price finds.
use Rattle.std.specs.Prelude.{ℕ, cond, leb, Option, Some, None}
use Rattle.rules.specs.Layout.{quantity_most, price_most}
use Rattle.units.specs.declared.Quantity.{Quantity}
use Rattle.units.specs.declared.Price.{Price}

abbrev pub quantity : ℕ → Quantity
quantity v = record { mj = v }

abbrev pub price : ℕ → Price
price v = record { units = v }

-- the word v as a number of a kind, unless it is above the kind's limit. Some stands for the number 0, which is no refusal, and has the
-- word as its value; None stands for the number of the refusal that the reader names, and has no value
abbrev pub read_within : {A : Type 0} → ℕ → (ℕ → A) → ℕ → Option A
read_within most of v = cond (leb v most) (Some (of v)) None

abbrev pub quantity_read : ℕ → Option Quantity
quantity_read = read_within quantity_most quantity

abbrev pub price_read : ℕ → Option Price
price_read = read_within price_most price
