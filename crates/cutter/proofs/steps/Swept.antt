-- What the sweep has done after n steps, as one record, with its start, its step and its end.
use Prim.Native.Nat.{ℕ, suc, ◌+◌, ◌≤◌, ◌<◌}
use native.Mathlib.Omega.{arith}
use mathlib.Core.Path.{◌≡◌, refl, sym, ◌∙◌, ap}
use mathlib.Core.List.{List}
use lib.ListN.{length, get_or, take, set, replicate, length-take}
use lib.Seq.{take_all}
use lib.Count.{ones}
use Rattle.rules.specs.Fold.{padded, joined, sum_of, five}
use Rattle.rules.specs.Steps.{ends, step_count, upper_end, lower_end, price, flag}
use Rattle.rules.specs.Cutting.{prices, flags, flag_word, missing, price_row, cut_of}
use Rattle.rules.specs.declared.Cut.{Cut}
use Rattle.laws.specs.Folds.{at_five, same_five}
use Rattle.laws.specs.Accepted.{AcceptedLine}
use Rattle.cutter.specs.Lists.{rises_mono}
use Rattle.cutter.specs.Ends.{ends_rise, count_most}
use Rattle.cutter.specs.Prices.{flag_stays, prices_length, prices_at, flags_length, flags_at, flags_most}
use Rattle.cutter.specs.Arrays.{padded_length}
use Rattle.cutter_cursors.specs.Sweep.{Line, far}
use Rattle.cutter_cursors.specs.declared.cursors.Sweep.{Sweep}
use Rattle.cutter_prices.specs.Step.{prices_put, MissingMost, missing_with, run_word}
use Rattle.cutter_prices.specs.declared.Missing.{Missing}
use Rattle.cutter.specs.Positions.{SweptTo}
use Rattle.cutter.proofs.positions.Laws.{below_count, end_is, room, swept_end}
use Rattle.cutter.proofs.steps.Filling.{padded_set, joined_same, rows_all, Run, sum_more, sum_most, run_bits, ones_bits}

-- the row of prices and the count of flags of schedule s after n steps
unfoldable pub row_to : List ℕ → ℕ → ℕ → List ℕ
row_to w n s = padded 56 (take n (prices w s))

unfoldable pub count_to : List ℕ → ℕ → ℕ → ℕ
count_to w n s = sum_of (take n (flags w s))

unfoldable pub missing_to : List ℕ → ℕ → Missing
missing_to w n = record { count = five (count_to w n) }

pub record Swept (w : List ℕ) (n : ℕ) (at : Sweep) (e g : ℕ) (es ps : List ℕ) (m : Missing) : Type 0 where
  pub swept : SweptTo w n at e g
  pub ends : es ≡ padded 56 (take n (Rattle.rules.specs.Steps.ends w))
  pub prices : ps ≡ joined 5 (row_to w n)
  pub missing : m ≡ missing_to w n

pub swept_none : (w : List ℕ) (n : ℕ) (at : Sweep) (e g : ℕ) → SweptTo w n at e g → n ≡ 0
    → Swept w n at e g (replicate 56 0) (replicate 280 0) (record { count = replicate 5 0 })
swept_none w n at e g a z =
    record {
      swept = a;
      ends = rw z (unfold padded in refl);
      prices = rw z (unfold joined row_to padded in refl);
      missing = rw z (unfold missing_to count_to sum_of in refl);
    }

-- no more flags than steps
pub missing_most : (w : List ℕ) (n : ℕ) {m : Missing} → m ≡ missing_to w n → MissingMost m n
unfolding missing_to count_to
missing_most w n e s l =
    let a = ap (λ (x : Missing). get_or x.count s 0) e ∙ at_five (count_to w n) 0 s l in
    let k = sum_most (flags w s) (flags_most w s) n in
    omega arith

-- the next step, which ends at e + 1 + g
module _ {w : List ℕ} {n : ℕ} {at : Sweep} {e g : ℕ} {es ps : List ℕ} {m : Missing} (h : Line w) (v : Swept w n at e g es ps m) (t : g < far) where
  few : n < 56
  few = room v.swept t

  below : n < step_count w
  below = below_count v.swept t

  ends_there : e + 1 + g ≡ upper_end w n
  ends_there = end_is v.swept t

  -- the prices
  row_length : (s : ℕ) → length (row_to w n s) ≡ 56
  unfolding row_to
  row_length s =
      let b = few in
      let d = length-take n (prices w s) in
      padded_length 56 (take n (prices w s)) (omega arith)

  row_more : (s : ℕ) → set (row_to w n s) n (price w s (e + 1 + g)) ≡ row_to w (suc n) s
  unfolding row_to
  row_more s =
      let a = below in
      let b = count_most w h.accepted in
      let c = prices_length w s in
      let p : price w s (e + 1 + g) ≡ get_or (prices w s) n 0 = ap (price w s) ends_there ∙ sym (prices_at w s n below) in
      rw p (padded_set 56 n (prices w s) (omega arith) (omega arith))

  prices_more : prices_put w ps (e + 1 + g) n ≡ joined 5 (row_to w (suc n))
  unfolding prices_put
  prices_more =
      rw v.prices (rows_all 5 n (row_to w n) (row_to w (suc n)) (λ s. price w s (e + 1 + g)) few row_length row_more)

  -- the flags
  count_more : (s : ℕ) → count_to w n s + flag w s (e + 1 + g) ≡ count_to w (suc n) s
  unfolding count_to
  count_more s =
      let a = below in
      let c = flags_length w s in
      let p : flag w s (e + 1 + g) ≡ get_or (flags w s) n 0 = ap (flag w s) ends_there ∙ sym (flags_at w s n below) in
      rw p (sym (sum_more (flags w s) n (omega arith)))

  missing_more : missing_with w (e + 1 + g) m ≡ missing_to w (suc n)
  unfolding missing_with missing_to
  missing_more =
      rw v.missing
      (ap (λ (l : List ℕ). record { count = l }) (same_five (count_more 0) (count_more 1) (count_more 2) (count_more 3) (count_more 4)))

  pub swept_more : {n' : ℕ} {at' : Sweep} {e' g' x : ℕ} {ps' : List ℕ} {m' : Missing} → x ≡ e + 1 + g → ps' ≡ prices_put w ps x n
      → m' ≡ missing_with w x m → SweptTo w n' at' e' g' → n' ≡ n + 1 → Swept w n' at' e' g' (set es n x) ps' m'
  swept_more {n'} i p q s k =
      let c = count_most w h.accepted in
      let z : n' ≡ suc n = omega arith in
      record {
        swept = s;
        ends = rw (z, v.ends, i, ends_there) (unfold upper_end step_count in padded_set 56 n (ends w) below c);
        prices = rw z ((rw i at p) ∙ prices_more);
        missing = rw z ((rw i at q) ∙ missing_more);
      }

-- the flagged steps are a run at the end
flags_run : (w : List ℕ) → AcceptedLine w → (s : ℕ) → Run (flags w s)
flags_run w h s j k a b e =
    let c : k < step_count w = rw (← flags_length w s) b in
    let m : upper_end w j ≤ upper_end w k = unfold upper_end step_count in rises_mono (ends_rise w h) j k a c in
    flags_at w s k c ∙ flag_stays w s (upper_end w j) (upper_end w k) m (sym (flags_at w s j (omega arith)) ∙ e)

-- after the last step
module _ {w : List ℕ} {n : ℕ} {at : Sweep} {e g : ℕ} {es ps : List ℕ} {m : Missing} (h : Line w) (v : Swept w n at e g es ps m) (t : far ≤ g) where
  all : n ≡ step_count w
  all = swept_end v.swept t

  word_all : (s : ℕ) → run_word n (count_to w n s) ≡ flag_word w s
  unfolding count_to flag_word
  word_all s =
      let a = all in
      let c = flags_length w s in
      let q : n ≡ length (flags w s) = omega arith in
      rw (take_all n (flags w s) (omega arith), q) (sym (run_bits (flags w s) (flags_most w s) (flags_run w h.accepted s)))

  ones_all : (s : ℕ) → ones (run_word n (count_to w n s)) ≡ missing w s
  unfolding missing flag_word
  ones_all s = ap ones (word_all s) ∙ ones_bits (flags w s) (flags_most w s)

  row_all : (s : ℕ) → row_to w n s ≡ price_row w s
  unfolding row_to price_row
  row_all s =
      let a = all in
      let c = prices_length w s in
      ap (padded 56) (take_all n (prices w s) (omega arith))

  ends_all : es ≡ padded 56 (ends w)
  unfolding step_count
  ends_all = let a = all in v.ends ∙ ap (padded 56) (take_all n (ends w) (omega arith))

  pub swept_all : {x y : List ℕ} → x ≡ five (λ s. run_word n (get_or m.count s 0)) → y ≡ five (λ s. ones (get_or x s 0))
      → ◌≡◌ {A = Cut} (record { flags = x; number = 0; count = n; missing = y; ends = es; prices = ps; reserved = 0 }) (cut_of w)
  unfolding cut_of missing_to
  swept_all f k =
      rw (k, f, v.missing)
      (λ i.
      record {
        flags = five (λ s. word_all s i);
        number = 0;
        count = all i;
        missing = five (λ s. ones_all s i);
        ends = ends_all i;
        prices = (v.prices ∙ joined_same 5 (row_to w n) (price_row w) row_all) i;
        reserved = 0;
      })
