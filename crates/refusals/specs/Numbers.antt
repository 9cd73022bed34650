-- The numbers of the refusals (document 01, "Where each refusal is checked"; 19 to 21 by document 02, F-5), and laws on them.
use Rattle.std.specs.Prelude.{ℕ, Result, Ok, Err}
use Rattle.refusals.specs.declared.Refusal.{Refusal}
use Rattle.refusals.specs.declared.Refusal.TheVariants.{FileShort, LineCount, Layout, MarketPrice, MarketMark, SideOrAccreditation, BidCount}
use Rattle.refusals.specs.declared.Refusal.TheVariants.{Breaks, Prices, UnusedSlot, Hedge, Totals, Actuals, EqualKeys, BookShort, NoLine, NoStep}
use Rattle.refusals.specs.declared.Refusal.TheVariants.{LineLength, AdHocCount, AdHocLineOrSchedule, EqualAdHoc}

abbrev pub number : Refusal → ℕ
number FileShort = 1
number LineCount = 2
number Layout = 3
number MarketPrice = 4
number MarketMark = 5
number SideOrAccreditation = 6
number BidCount = 7
number Breaks = 8
number Prices = 9
number UnusedSlot = 10
number Hedge = 11
number Totals = 12
number Actuals = 13
number EqualKeys = 14
number BookShort = 15
number NoLine = 16
number NoStep = 17
number LineLength = 18
number AdHocCount = 19
number AdHocLineOrSchedule = 20
number EqualAdHoc = 21

-- "Each answers its number, 0 where it is accepted": of what a check answers
abbrev pub fault_of : {A : Type 0} → Result A Refusal → ℕ
fault_of (Ok v) = 0
fault_of (Err refusal) = number refusal
