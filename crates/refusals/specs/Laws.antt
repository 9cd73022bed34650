-- What a proof needs of the numbers of refusals.
use Rattle.std.specs.Prelude.{ℕ, ◌<◌, ◌≡◌, refl, Result, Ok, Err}
use Rattle.std.specs.Result.{IsErr, IsOk}
use Rattle.std.proofs.Common.{arith}
use Rattle.std.proofs.lemmas.Bool.{false≢true}
use Rattle.refusals.specs.declared.Refusal.{Refusal}
use Rattle.refusals.specs.declared.Refusal.TheVariants.{FileShort, LineCount, Layout, MarketPrice, MarketMark, SideOrAccreditation, BidCount}
use Rattle.refusals.specs.declared.Refusal.TheVariants.{Breaks, Prices, UnusedSlot, Hedge, Totals, Actuals, EqualKeys, BookShort, NoLine, NoStep}
use Rattle.refusals.specs.declared.Refusal.TheVariants.{LineLength, AdHocCount, AdHocLineOrSchedule, EqualAdHoc}
use Rattle.refusals.specs.Numbers.{number, fault_of}

-- no refusal has the number 0
pub number_above : (r : Refusal) → 0 < number r
number_above FileShort = omega arith
number_above LineCount = omega arith
number_above Layout = omega arith
number_above MarketPrice = omega arith
number_above MarketMark = omega arith
number_above SideOrAccreditation = omega arith
number_above BidCount = omega arith
number_above Breaks = omega arith
number_above Prices = omega arith
number_above UnusedSlot = omega arith
number_above Hedge = omega arith
number_above Totals = omega arith
number_above Actuals = omega arith
number_above EqualKeys = omega arith
number_above BookShort = omega arith
number_above NoLine = omega arith
number_above NoStep = omega arith
number_above LineLength = omega arith
number_above AdHocCount = omega arith
number_above AdHocLineOrSchedule = omega arith
number_above EqualAdHoc = omega arith

pub refused : (r : Refusal) → number r ≡ 0 → ⊥
refused r e = let a = number_above r in omega arith

-- the same of what a check answers
pub is_refused : {A : Type 0} (r : Result A Refusal) → IsErr r → fault_of r ≡ 0 → ⊥
is_refused (Ok v) h e = absurd (false≢true h)
is_refused (Err r) h e = refused r e

pub is_passed : {A : Type 0} (r : Result A Refusal) → IsOk r → fault_of r ≡ 0
is_passed (Ok v) h = refl
is_passed (Err r) h = absurd (false≢true h)
