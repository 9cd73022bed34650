-- The market table's refusals, as tests of its words.
use Prim.Native.Nat.{ℕ}
use mathlib.Core.Path.{◌≡◌, refl, ap}
use mathlib.Core.List.{List}
use mathlib.Core.Bool.{cond}
use lib.Dec.{ltb}
use Rattle.rules.specs.Fold.{refuse, ◌or_else◌, first}
use Rattle.rules.specs.Layout.{market_word, cap_mark, clawback}
use Rattle.rules.specs.Refusals.{market_price_fault, mark_fault, market_fault}
use Rattle.laws.specs.Layouts.{market_most}
use Rattle.laws.specs.Folds.{first_none, first_more, first_stop}
use Rattle.refusals.specs.Laws.{number_above}
use Rattle.day_header.proofs.Header.{refuse_is, or_else_is}

pub price_is : (d : List ℕ) (s : ℕ) → market_price_fault d s ≡ refuse 4 (ltb 10000000 (market_word d s))
unfolding market_price_fault
price_is d s = refl

pub mark_tests : (d : List ℕ) (s : ℕ) → mark_fault d s ≡ cond (ltb 1 (cap_mark d s)) 5 0
unfolding mark_fault
mark_tests d s = refuse_is 5 _

pub market_is : (d : List ℕ) → market_fault d ≡
    (first (market_price_fault d) 5
    or_else refuse 4 (ltb 10000000 (market_word d 10))
    or_else first (mark_fault d) 5
    or_else cond (ltb 1 (clawback d)) 5 0)
unfolding market_fault
market_is d = ap (λ (x : ℕ). first (market_price_fault d) 5 or_else refuse 4 (ltb 10000000 (market_word d 10)) or_else first (mark_fault d) 5 or_else x) (refuse_is 5 _)

pub ruleset price_laws = (refuse_is, market_most)

pub ruleset market_laws = (market_is, price_is, mark_tests, or_else_is, first_none, first_more, first_stop, number_above)
