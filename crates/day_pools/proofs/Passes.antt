-- The passes over a line's steps: where they begin, what a step adds, and that no step after the window adds something.
use Prim.Native.Nat.{ℕ, zero, suc, ◌+◌, ◌*◌, ◌-◌, ◌%◌, ◌/◌, ◌≤◌, ◌<◌, ◌^◌}
use native.Mathlib.Omega.{arith}
use native.Mathlib.Numerals.{add-one}
use native.Mathlib.Decide.{dec_lt}
use mathlib.Core.Path.{◌≡◌, refl, sym, ◌∙◌, ap, subst}
use mathlib.Core.Bool.{Bool, true, false, not, cond}
use mathlib.Core.List.{List}
use lib.Pow.{pow_mono, shl_lt, shl_exact}
use Rattle.rules.specs.Fold.{five}
use Rattle.rules.specs.Layout.{quantity_most, line_count, line_at, side, clawback, hedge}
use Rattle.rules.specs.InForce.{table_in_force}
use Rattle.rules.specs.Steps.{step_count, upper_end, lower_end}
use Rattle.rules.specs.Payments.{bit, initial, Day}
use Rattle.rules.specs.declared.Step.{Step}
use Rattle.rules.specs.Days.{step_of, settled_day}
use Rattle.laws.specs.Accepted.{AcceptedLine, AcceptedDay, accepted_line_at}
use Rattle.cutter_cursors.specs.Sweep.{Line, SweepAt, far, next_gap}
use Rattle.cutter_cursors.specs.declared.cursors.Sweep.{Sweep}
use Rattle.cutter_prices.specs.Step.{slots_of}
use Rattle.cutter_prices.specs.declared.Slots.{Slots}
use Rattle.cutter.specs.Ends.{ends_rise, count_most}
use Rattle.cutter.specs.Lists.{rises_mono}
use Rattle.cutter.specs.Positions.{SweptTo, SweptAt, Skipped}
use Rattle.cutter.specs.declared.positions.Position.{Position}
use Rattle.cutter.proofs.positions.Laws.{lower_most, below_count, end_is, room, limit, swept_next, swept_end}
use Rattle.step_inputs.specs.declared.inputs.Market.{Market}
use Rattle.step_inputs.specs.declared.inputs.LineTotals.{LineTotals}
use Rattle.step_inputs.specs.Inputs.{market_of, totals_of}
use Rattle.step_payments.specs.declared.amounts.Money.{Money}
use Rattle.step_payments.specs.Amounts.{money_of, minus_of, plus_of}
use Rattle.step_pool.specs.Amounts.{Idle, Kept, all_zero, takes_back, step_pool, no_pool, no_money, money_sum, pool_at, final_on}
use Rattle.step_pool.specs.Parts.{off_initial, money_same}
use Rattle.step_pool.specs.declared.pool_amounts.SidePool.{SidePool}
use Rattle.step_pool.proofs.pool_amounts.Kept.{final_kept}
use Rattle.step_pool.proofs.pool_amounts.Idle.{idle_pool, initial_money, keeps, takes_none}
use Rattle.day_pools.specs.Window.{window_of, is_covered}
use Rattle.day_pools.specs.Marks.{word_to, word_none, word_suc, word_below, word_rest}
use Rattle.day_pools.specs.Sums.{pool_to, pool_rest, money_to, money_more, money_rest}
use Rattle.day_pools.specs.Sides.{step_pool_at, line_pool, side_pool}
use Rattle.day_pools.specs.Lines.{PoolFor, step_money, step_money_is, no_pool_lem, no_money_lem}
use Rattle.step_inputs.specs.Ready.{LineReady, PastHedge}
use Rattle.step_inputs.proofs.Lines.{lent_line}
use Rattle.day_pools.specs.Passes.{Entered, takes_from, LinePooled}
use Rattle.day_pools.proofs.Idle.{below_idle, past_idle, covered_idle}

-- ends rise
lower_by : (w : List ℕ) → AcceptedLine w → (i j : ℕ) → i ≤ j → j < step_count w → lower_end w i ≤ lower_end w j
unfolding lower_end step_count
lower_by w h zero j a b = omega arith
lower_by w h (suc i) zero a b = absurd (omega arith)
lower_by w h (suc i) (suc j) a b = rises_mono (ends_rise w h) i j (omega arith) (omega arith)

pub bit_most : (t : Bool) → bit t ≤ 1
bit_most true = omega arith
bit_most false = omega arith

pub takes_most : (x : Step) → takes_back x ≤ 1
unfolding takes_back
takes_most x = bit_most (not (all_zero (five (minus_of (initial x)))))

-- the next step ends past the hedge too
pub past_next : {w : List ℕ} {j : ℕ} {at : Sweep} {e g : ℕ} → PastHedge w j at e g → g < far → {r : Position} → SweptAt w r → r.lower ≡ e + 1 + g → r.step ≡ j + 1
    → PastHedge w r.step r.places r.lower r.gap
past_next v l {r} s le se = record { swept = s; past = λ _. omega (arith, v.past l, le) }

pub pool_own : (y : Day) (sd : ℕ) → PoolFor y sd (side_pool y sd)
pool_own y sd = record { shared = λ n. refl }

-- a count of steps, from where no step is left below the limit
pub counted : {w : List ℕ} {p r : Position} → Skipped w p 4294967295 r → r.step ≡ step_count w
counted {w} {p} {r} s =
    elim (dec_lt r.gap far) [
      | yes l ↦ absurd (omega (arith, s.above l, limit s.swept l))
      | no l ↦ swept_end s.swept (omega arith)
    ]

-- line k of an accepted day
module _ {d : List ℕ} {k : ℕ} {w : List ℕ} {t : LineTotals} (h : LineReady d k w t) where
  pub line_ready : Line w
  line_ready = lent_line d h.accepted k h.there w h.line

  pub count_few : step_count (line_at d k) ≤ 56
  count_few = count_most (line_at d k) (accepted_line_at d h.accepted k h.there)

  totals_there : t ≡ totals_of (table_in_force d k) (line_at d k)
  totals_there = h.totals ∙ ap (totals_of (table_in_force d k)) h.line

  hedge_there : t.hedge ≡ hedge (line_at d k)
  unfolding totals_of
  hedge_there = ap (λ (z : LineTotals). z.hedge) totals_there

  from_hedge : (n : ℕ) → n ≡ (window_of t).from → hedge (line_at d k) ≤ n
  unfolding window_of
  from_hedge n e = omega (arith, e, hedge_there)

  -- where the sweep enters the window
  pub entered_is : (p : Position) (n : ℕ) (r : Position) → p.step ≡ 0 → n ≡ (window_of t).from → Skipped w p n r → Entered d k r
  entered_is p n r pe ne s =
      record {
        here = record {
          swept = subst (λ (v : List ℕ). SweptAt v r) h.line s.swept;
          past = λ l. omega (arith, s.above l, from_hedge n ne);
        };
        idle = λ i l.
            below_idle d k i t totals_there
            (subst (λ (m : ℕ). upper_end (line_at d k) i ≤ m) ne (subst (λ (v : List ℕ). upper_end v i ≤ n) h.line (s.below i (omega arith) l)));
      }

  lower_mono : (i j : ℕ) → i ≤ j → j < step_count (line_at d k) → lower_end (line_at d k) i ≤ lower_end (line_at d k) j
  lower_mono i j a b = lower_by (line_at d k) (accepted_line_at d h.accepted k h.there) i j a b

  -- no step from where a pass stops on has a paid rise or fall
  pub rest_idle : (j e g to : ℕ) {at : Sweep} → SweptTo (line_at d k) j at e g → to ≡ (window_of t).to → (g < far → to ≤ e)
      → (i : ℕ) → j ≤ i → i < step_count (line_at d k) → Idle (step_of d k i)
  rest_idle j e g to v te s i a b =
      elim (dec_lt g far) [
        | yes l ↦
            let m = lower_mono j i a b in
            past_idle d k i t totals_there (omega (arith, s l, te, v.last))
        | no l ↦ absurd (omega (arith, swept_end v (omega arith)))
      ]

  -- the sweep over the line's own bytes
  pub here_own : {p : Position} → Entered d k p → PastHedge w p.step p.places p.lower p.gap
  here_own {p} v = subst (λ (z : List ℕ). PastHedge z p.step p.places p.lower p.gap) (sym h.line) v.here

  -- step j, before which the sweep stands
  module _ {j : ℕ} {at : Sweep} {e g : ℕ} (v : PastHedge w j at e g) where
    pub below_there : g < far → j < step_count (line_at d k)
    below_there l = subst (λ (z : List ℕ). j < step_count z) h.line (below_count v.swept l)

    pub within_there : j ≤ step_count (line_at d k)
    within_there = subst (λ (z : List ℕ). j ≤ step_count z) h.line v.swept.within

    pub idle_there : (to : ℕ) → to ≡ (window_of t).to → (g < far → to ≤ e) → (i : ℕ) → j ≤ i → i < step_count (line_at d k) → Idle (step_of d k i)
    idle_there to te s = rest_idle j e g to (subst (λ (z : List ℕ). SweptTo z j at e g) h.line v.swept) te s

  -- the pool before the window, and after it
  pub pool_first : {p : Position} → Entered d k p → no_pool ≡ pool_to p.step (step_pool_at (settled_day d) k)
  unfolding step_pool_at
  pool_first {p} v =
      no_pool_lem (step_pool_at (settled_day d) k)
      ∙ sym (pool_rest 0 p.step (step_pool_at (settled_day d) k) (omega arith) (λ i a b. idle_pool (step_of d k i) (v.idle i b)))

  pub pool_last : (j : ℕ) (q : SidePool) → q ≡ pool_to j (step_pool_at (settled_day d) k) → j ≤ step_count (line_at d k)
      → ((i : ℕ) → j ≤ i → i < step_count (line_at d k) → Idle (step_of d k i)) → q ≡ line_pool (settled_day d) k
  unfolding line_pool step_pool_at
  pool_last j q e l f =
      e ∙ sym (pool_rest j (step_count (line_at d k)) (step_pool_at (settled_day d) k) l (λ i a b. idle_pool (step_of d k i) (f i a b)))

  -- where C is 0 on all steps
  pub all_idle : is_covered t ≡ true → (i : ℕ) → Idle (step_of d k i)
  all_idle c i = covered_idle d k i t totals_there c

  pub covered_pooled : is_covered t ≡ true → {p r : Position} {q : SidePool} → Skipped w p 4294967295 r → q ≡ no_pool → LinePooled d k (record { count = r.step; from = r; taking = 0; pool = q })
  covered_pooled c {p} {r} {q} s qe =
      let n = counted s ∙ ap step_count h.line in
      let f = step_pool_at (settled_day d) k in
      let z : step_count (line_at d k) - r.step ≡ 0 = omega (arith, n) in
      record {
        count = n;
        pool = pool_last 0 q (qe ∙ no_pool_lem f) (omega arith) (λ i a b. all_idle c i);
        kept = record {
          entered = record {
            here = record {
              swept = subst (λ (v : List ℕ). SweptAt v r) h.line s.swept;
              past = λ l. absurd (omega (arith, s.above l, limit s.swept l));
            };
            idle = λ i l. all_idle c i;
          };
          word = sym (ap (λ (m : ℕ). word_to m (takes_from d k r.step)) z ∙ word_none (takes_from d k r.step));
        };
      }

  -- the money likewise
  idle_money : (i : ℕ) → Idle (step_of d k i) → step_money (settled_day d) k i ≡ no_money
  idle_money i z =
      let x = step_of d k i in
      let p = side_pool (settled_day d) (side (line_at d k)) in
      sym (step_money_is (settled_day d) k i p (pool_own (settled_day d) (side (line_at d k))))
      ∙ sym (final_kept x (keeps x z) (clawback d) p)
      ∙ initial_money x z

  pub money_first : {p : Position} → Entered d k p → ◌≡◌ {A = Money} (record { plus = five (λ s. 0); minus = five (λ s. 0) }) (money_to p.step (step_money (settled_day d) k))
  money_first {p} v =
      no_money_lem (step_money (settled_day d) k)
      ∙ sym (money_rest 0 p.step (step_money (settled_day d) k) (omega arith) (λ i a b. idle_money i (v.idle i b)))

  pub money_last : (j : ℕ) (q : Money) → q ≡ money_to j (step_money (settled_day d) k) → j ≤ step_count (line_at d k)
      → ((i : ℕ) → j ≤ i → i < step_count (line_at d k) → Idle (step_of d k i)) → q ≡ money_to (step_count (line_at d k)) (step_money (settled_day d) k)
  money_last j q e l f =
      e ∙ sym (money_rest j (step_count (line_at d k)) (step_money (settled_day d) k) l (λ i a b. idle_money i (f i a b)))

  pub covered_money : is_covered t ≡ true → ◌≡◌ {A = Money} (record { plus = five (λ s. 0); minus = five (λ s. 0) }) (money_to (step_count (line_at d k)) (step_money (settled_day d) k))
  covered_money c = money_last 0 _ (no_money_lem (step_money (settled_day d) k)) (omega arith) (λ i a b. all_idle c i)

-- what a step is paid where clawback is off
pub money_off : (d : List ℕ) (k j : ℕ) → clawback d ≡ 0 → money_of (initial (step_of d k j)) ≡ step_money (settled_day d) k j
unfolding final_on
money_off d k j z =
    let x = step_of d k j in
    let p = side_pool (settled_day d) (side (line_at d k)) in
    sym (money_same _ _ (λ s l. off_initial x (clawback d) s (pool_at p s) z))
    ∙ step_money_is (settled_day d) k j p (pool_own (settled_day d) (side (line_at d k)))

pub money_next : (d : List ℕ) (k j : ℕ) (q r : Money) → q ≡ money_to j (step_money (settled_day d) k) → r ≡ money_sum q (step_money (settled_day d) k j) → r ≡ money_to (j + 1) (step_money (settled_day d) k)
money_next d k j q r qe re = re ∙ rw qe (sym (money_more j (step_money (settled_day d) k)))

-- the word of the steps that take something back
module _ (d : List ℕ) (k j : ℕ) where
  takes_few : (i : ℕ) → takes_from d k j i ≤ 1
  unfolding takes_from
  takes_few i = takes_most (step_of d k (j + i))

  pub marks_fit : (i x : ℕ) → x ≡ word_to i (takes_from d k j) → x < 2 ^ i
  marks_fit i x e = subst (λ (z : ℕ). z < 2 ^ i) (sym e) (word_below i (takes_from d k j) takes_few)

  pub marks_next : (i x m r : ℕ) → x ≡ word_to i (takes_from d k j) → m ≡ takes_back (step_of d k (j + i)) → r ≡ x + m * 2 ^ i → r ≡ word_to (i + 1) (takes_from d k j)
  unfolding takes_from
  marks_next i x m r xe me re = re ∙ rw (xe, me, add-one i) (sym (word_suc i (takes_from d k j)))

  pub marks_last : (i x n : ℕ) → x ≡ word_to i (takes_from d k j) → j + i ≤ n → ((z : ℕ) → j + i ≤ z → z < n → Idle (step_of d k z)) → x ≡ word_to (n - j) (takes_from d k j)
  unfolding takes_from
  marks_last i x n e l f =
      e
      ∙ sym (word_rest i (n - j) (takes_from d k j) (omega arith)
      (λ z a b. takes_none (step_of d k (j + z)) (keeps (step_of d k (j + z)) (f (j + z) (omega arith) (omega arith)))))

-- a mark put into a word
mark_below : (m : ℕ) → m ≤ 1 → m < 2 ^ 1
mark_below m h = omega arith

pub mark_exact : (m i : ℕ) → m ≤ 1 → i < 56 → (m * 2 ^ i) % 2 ^ 64 ≡ m * 2 ^ i
mark_exact m i h l = shl_exact 1 i 64 (mark_below m h) (omega arith)

pub marked_fits : (x m i : ℕ) → x < 2 ^ i → m ≤ 1 → i < 56 → x + (m * 2 ^ i) % 2 ^ 64 < 2 ^ 64
marked_fits x m i h a l =
    let b = shl_lt 1 i (mark_below m a) in
    let c : 2 ^ (1 + i) ≤ 2 ^ 56 = pow_mono {i = 1 + i} {j = 56} (omega arith) in
    let e : 2 ^ i ≤ 2 ^ 56 = pow_mono {i = i} {j = 56} (omega arith) in
    rw (mark_exact m i a l) (omega arith)
