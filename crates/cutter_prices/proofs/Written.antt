-- What is written of a step, as each proof wants it: from the callees' results to the definition of the contract.
use Prim.Native.Nat.{ℕ, zero, suc, ◌+◌, ◌*◌, ◌-◌, ◌^◌, ◌%◌, ◌≤◌, ◌<◌}
use native.Mathlib.Nat.{one-mul}
use native.Mathlib.Numerals.{add-one}
use native.Mathlib.Omega.{arith}
use mathlib.Core.Path.{◌≡◌, refl, sym, ◌∙◌, ap}
use mathlib.Core.List.{List}
use lib.ListN.{set, get_or}
use lib.Dec.{ltb}
use lib.Pow.{pow_mono, shl_exact}
use Rattle.rules.specs.Fold.{five, at}
use Rattle.rules.specs.Layout.{word, bid_count, bid_break}
use Rattle.rules.specs.Steps.{source, price, flag}
use Rattle.rules.specs.Payments.{bit}
use Rattle.laws.specs.Folds.{at_five}
use Rattle.laws.specs.Sources.{source_own, source_pulled, nearest}
use Rattle.cutter_cursors.specs.Sweep.{Line, Standing, place_of}
use Rattle.cutter_cursors.specs.Places.{of_bid}
use Rattle.cutter_prices.specs.Step.{before_price, slot_of, slots_of, step_price, put_to, run_word}
use Rattle.cutter_prices.specs.Rule.{flag_most, flag_place}
use Rattle.cutter_prices.specs.Slots.{slot_own, slot_pulled, slot_most, price_slot}
use Rattle.cutter_prices.specs.declared.StepPrice.{StepPrice}
use Rattle.cutter_prices.specs.declared.Slots.{Slots}

-- where the prices of a schedule stand, from what was read
pub slot_first : {w : List ℕ} → Line w → {r : ℕ} → r ≡ before_price 0 0 → r ≡ slot_of w 0
slot_first {w} h q = let c = (h.accepted.bids 0 (omega arith)).count_first refl in q ∙ sym (slot_own w 0 (λ e. omega arith))

pub slot_some : (w : List ℕ) (s : ℕ) {n r : ℕ} → n ≡ bid_count w s → (n ≡ 0 → ⊥) → r ≡ before_price s 0 → r ≡ slot_of w s
slot_some w s e z q = q ∙ sym (slot_own w s (λ x. z (e ∙ x)))

pub slot_taken : (w : List ℕ) (s : ℕ) {n r c p : ℕ} → n ≡ bid_count w s → n ≡ 0 → r ≡ source w s → c ≡ bid_count w r → p ≡ before_price r (c - 1) → p ≡ slot_of w s
slot_taken w s e z q f g =
    g ∙ rw (f, q) (sym (slot_pulled w s (sym e ∙ z)))

-- the search for it: the first schedule has a bid, so it ends there at the latest
pub search_goes : {w : List ℕ} → Line w → (r n : ℕ) → n ≡ bid_count w r → n ≡ 0 → 0 < r
search_goes h zero n e z = let c = (h.accepted.bids 0 (omega arith)).count_first refl in absurd (omega arith)
search_goes h (suc r) n e z = omega arith

pub search_next : (w : List ℕ) (r n k : ℕ) → 0 < r → n ≡ bid_count w r → n ≡ 0 → source w r ≡ k → source w (r - 1) ≡ k
search_next w zero n k p e z q = absurd (omega arith)
search_next w (suc r) n k p e z q = ap (source w) (omega arith) ∙ sym (source_pulled w r (sym e ∙ z)) ∙ q

pub search_ends : (w : List ℕ) (r n k : ℕ) → n ≡ bid_count w r → (n ≡ 0 → ⊥) → source w r ≡ k → r ≡ k
search_ends w r n k e z q = sym (source_own w r (omega arith)) ∙ q

pub source_most : {w : List ℕ} → Line w → (s : ℕ) → s < 5 → {r : ℕ} → r ≡ source w s → r < 5
source_most {w} h s l e = let n = (nearest w h.accepted s l).within in omega arith

pub count_fits : {w : List ℕ} → Line w → (s : ℕ) → s < 5 → {c : ℕ} → c ≡ bid_count w s → c ≤ 11
count_fits h s l e = let m = (h.accepted.bids s l).count_most in omega arith

pub count_there : {w : List ℕ} → Line w → (s : ℕ) → s < 5 → {r c : ℕ} → r ≡ source w s → c ≡ bid_count w r → 0 < c
count_there {w} h s l e f = let n = (nearest w h.accepted s l).some in let q = ap (bid_count w) e in omega arith

-- what the slot and the cursor give is the step's price and flag
pub slot_read : {w : List ℕ} {s at u slot : ℕ} → Standing w s at u → slot ≡ slot_of w s → slot + 4 * at ≤ 476
slot_read {w} {s} {at} {u} h e =
    let p = h.place in
    let m = slot_most w h.line.accepted s h.schedule u in
    omega arith

pub step_price_is : {w : List ℕ} {s at u slot p b f : ℕ} → Standing w s at u → slot ≡ slot_of w s → p ≡ word w (slot + 4 * at) → b ≡ bid_break w s (at - 1)
    → f ≡ bit (ltb b u) → ◌≡◌ {A = StepPrice} (record { price = p; flag = f }) (step_price w s u)
unfolding step_price
step_price_is {w} {s} {at} {u} {slot} h q e g f =
    let z : slot + 4 * at ≡ slot_of w s + 4 * place_of w s u = let p = h.place in omega arith in
    λ i.
    record {
      price = (e ∙ ap (word w) z ∙ price_slot w h.line.accepted s h.schedule u) i;
      flag =
          (f ∙ ap (λ (x : ℕ). bit (ltb x u)) (g ∙ ap (λ (x : ℕ). bid_break w s (x - 1)) h.place) ∙ flag_place (of_bid h) u h.above) i;
    }

-- a word of flags
one_shifted : (n : ℕ) → n ≤ 56 → (1 * 2 ^ n) % 2 ^ 64 ≡ 2 ^ n
one_shifted n h = shl_exact 1 n 64 (omega arith) (omega arith) ∙ one-mul (2 ^ n)

pub shifted_fits : (n k : ℕ) → k ≤ n → n ≤ 56 → (1 * 2 ^ k) % 2 ^ 64 ≤ (1 * 2 ^ n) % 2 ^ 64
shifted_fits n k l h = rw (one_shifted n h, one_shifted k (omega arith)) (pow_mono l)

pub run_is : (n m : ℕ) → n ≤ 56 → (1 * 2 ^ n) % 2 ^ 64 - (1 * 2 ^ (n - m)) % 2 ^ 64 ≡ run_word n m
unfolding run_word
run_is n m h = rw (one_shifted n h, one_shifted (n - m) (omega arith))

-- each schedule's slot among the five
pub slot_at : (w : List ℕ) {z : Slots} → z ≡ slots_of w → {s : ℕ} → s < 5 → at z.byte s ≡ slot_of w s
unfolding slots_of
slot_at w h {s} l = ap (λ (x : Slots). at x.byte s) h ∙ at_five (slot_of w) 0 s l

-- the price and the flag of a schedule among the five steps
module _ (w : List ℕ) (u : ℕ) {l : List StepPrice} (h : l ≡ five (λ s. step_price w s u)) (d : StepPrice) {s : ℕ} (m : s < 5) where
  pub price_at : (get_or l s d).price ≡ price w s u
  unfolding step_price
  price_at = ap (λ (x : List StepPrice). (get_or x s d).price) h ∙ ap (λ (x : StepPrice). x.price) (at_five (λ r. step_price w r u) d s m)

  pub flag_at : (get_or l s d).flag ≡ flag w s u
  unfolding step_price
  flag_at = ap (λ (x : List StepPrice). (get_or x s d).flag) h ∙ ap (λ (x : StepPrice). x.flag) (at_five (λ r. step_price w r u) d s m)

  -- which is at most 1
  pub flag_fits : (get_or l s d).flag ≤ 1
  flag_fits = let m = flag_most w s u in let e = flag_at in omega arith

-- one more row of prices
pub put_more : (l k : List ℕ) (n s : ℕ) (v : ℕ → ℕ) {x : ℕ} → l ≡ put_to s k n v → x ≡ v s → set l (56 * s + n) x ≡ put_to (s + 1) k n v
unfolding put_to
put_more l k n s v e f = rw (add-one s, e, f) refl
