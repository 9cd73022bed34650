-- The two passes over a day: the pools and what is kept, line by line, and what a line is paid from them.
use Prim.Native.Nat.{ℕ, zero, suc, ◌+◌, ◌≤◌, ◌<◌}
use native.Mathlib.Omega.{arith}
use native.Mathlib.Numerals.{add-one}
use native.Mathlib.Decide.{dec_lt}
use mathlib.Core.Path.{◌≡◌, refl, sym, ◌∙◌, ap, subst}
use mathlib.Core.List.{List}
use lib.ListN.{length, get_or, set, length-set}
use borrow.Author.Tests.{eq-eqb, ne_eqb}
use lib.Seq.{sets, get_or-set_same, get_or-set_other}
use Rattle.rules.specs.Fold.{five, list_to}
use Rattle.rules.specs.Layout.{line_count, line_at, side}
use Rattle.rules.specs.Steps.{step_count}
use Rattle.rules.specs.Payments.{Day}
use Rattle.rules.specs.Days.{settled_day}
use Rattle.laws.specs.Accepted.{AcceptedDay, accepted_line_at}
use Rattle.step_payments.specs.declared.amounts.Money.{Money}
use Rattle.step_pool.specs.declared.pool_amounts.SidePool.{SidePool}
use Rattle.step_pool.specs.Amounts.{no_pool, pool_sum, Addable}
use Rattle.step_inputs.specs.Paid.{DaySized, settled_sized}
use Rattle.day_pools.specs.declared.LinePool.{LinePool}
use Rattle.day_pools.specs.Sums.{pool_to, pool_more, pool_whole}
use Rattle.day_pools.specs.Sides.{step_pool_at, line_pool, side_part}
use Rattle.day_pools.specs.Sizes.{lines_addable}
use Rattle.day_pools.specs.Lines.{no_pool_lem}
use Rattle.day_pools.specs.Passes.{LinePooled}
use Rattle.day_pools.proofs.Taken.{taken_to, taken_first, word_ends, money_whole_is}
use Rattle.day_paid.specs.declared.Pools.{Pools}
use Rattle.day_paid.specs.declared.KeptLine.{KeptLine}
use Rattle.day_paid.specs.Sums.{line_money}
use Rattle.day_paid.specs.Lines.{pools_to, pools_with, PoolsAddable, KeptOf, KeptTo, KeptAll}

-- a line of which no step takes something back
pub untaken_money : (d : List ℕ) (k : ℕ) (x : KeptLine) → KeptOf d k x → x.taking ≡ 0 → ◌≡◌ {A = Money} (record { plus = x.plus; minus = five (λ s. 0) }) (line_money (settled_day d) k)
unfolding line_money
untaken_money d k x h z =
    let e = h.kept.entered in
    let p = x.from in
    money_whole_is d k _ x.plus p.step (ap (λ (r : List ℕ). record { plus = x.plus; minus = r }) (taken_first d k e)) h.plus e.here.swept.within
    (word_ends d k (step_count (line_at d k)) p.step x.taking h.kept.word z)

-- the pools before the first line
pub pools_none : (y : Day) (i w : SidePool) → i ≡ no_pool → w ≡ no_pool → ◌≡◌ {A = Pools} (record { injection = i; withdrawal = w }) (pools_to y 0)
unfolding pools_to
pools_none y i w ie we =
    let a = ie ∙ no_pool_lem (side_part y 0) in
    let b = we ∙ no_pool_lem (side_part y 1) in
    λ t. record { injection = a t; withdrawal = b t }

-- and with one line more, by its side
module _ (d : List ℕ) (a : AcceptedDay d) (k : ℕ) (l : k < line_count d) (p : Pools) (pe : p ≡ pools_to (settled_day d) k) (v : List ℕ) (e : v ≡ line_at d k) (sd : ℕ) (se : sd ≡ side v) (q : SidePool) (qe : q ≡ line_pool (settled_day d) k) where
  abbrev y : Day
  y = settled_day d

  side_is : sd ≡ side (line_at d k)
  side_is = se ∙ ap side e

  own : (s : ℕ) → s ≡ side (line_at d k) → q ≡ side_part y s k
  unfolding side_part
  own s z = qe ∙ rw (← z, eq-eqb s s refl)

  other : (s : ℕ) → (s ≡ side (line_at d k) → ⊥) → side_part y s k ≡ no_pool
  unfolding side_part
  other s z = rw (ne_eqb (side (line_at d k)) s (λ x. z (sym x))) (sym (no_pool_lem (step_pool_at y k)))

  adds : (s : ℕ) → s ≡ side (line_at d k) → (i : SidePool) → i ≡ pool_to k (side_part y s) → Addable i q
  adds s z i ie = rw (ie, own s z) (lines_addable y (settled_sized d a) s k l)

  part_own : (s : ℕ) → s ≡ side (line_at d k) → pool_sum (pool_to k (side_part y s)) q ≡ pool_to (k + 1) (side_part y s)
  part_own s z = ap (pool_sum (pool_to k (side_part y s))) (own s z) ∙ sym (pool_more k (side_part y s))

  part_other : (s : ℕ) → (s ≡ side (line_at d k) → ⊥) → pool_to k (side_part y s) ≡ pool_to (k + 1) (side_part y s)
  part_other s z =
      sym (pool_more k (side_part y s) ∙ ap (pool_sum (pool_to k (side_part y s))) (other s z) ∙ pool_whole k (side_part y s) (pool_to k (side_part y s)) refl)

  pub pools_addable : PoolsAddable p sd q
  unfolding pools_to
  pools_addable =
      record {
        injection = λ z. adds 0 (sym z ∙ side_is) p.injection (ap (λ (x : Pools). x.injection) pe);
        withdrawal = λ z.
            adds 1 (omega (arith, side_is, (accepted_line_at d a k l).head.side_most)) p.withdrawal (ap (λ (x : Pools). x.withdrawal) pe);
      }

  pools_by : (s : ℕ) → s ≡ sd → s ≤ 1 → pools_with (pools_to y k) s q ≡ pools_to y (k + 1)
  unfolding pools_with pools_to
  pools_by zero z h =
      let i = part_own 0 (z ∙ side_is) in
      let w = part_other 1 (λ x. omega (arith, z, side_is)) in
      λ t. record { injection = i t; withdrawal = w t }
  pools_by (suc zero) z h =
      let i = part_other 0 (λ x. omega (arith, z, side_is)) in
      let w = part_own 1 (z ∙ side_is) in
      λ t. record { injection = i t; withdrawal = w t }
  pools_by (suc (suc s)) z h = absurd (omega arith)

  pub pools_next : (r : Pools) → r ≡ pools_with p sd q → r ≡ pools_to y (k + 1)
  pools_next r re =
      re ∙ ap (λ (x : Pools). pools_with x sd q) pe ∙ pools_by sd refl (omega (arith, side_is, (accepted_line_at d a k l).head.side_most))

-- what is kept of the lines
kept_more : (d : List ℕ) (k : ℕ) (l : List KeptLine) (x : LinePool) (z : KeptLine) → length l ≡ 64 → k < 64 → LinePooled d k x
    → z ≡ record { plus = x.pool.plus; from = x.from; taking = x.taking } → KeptTo d k l → KeptTo d (k + 1) (set l k z)
kept_more d k l x z n b h e f i c u =
    elim (dec_lt i k) [
      | yes q ↦ subst (KeptOf d i) (sym (get_or-set_other l k i z u (λ s. omega arith))) (f i q u)
      | no q ↦
          let s : i ≡ k = omega arith in
          rw (s, get_or-set_same l k z u (omega arith), e)
          (record { plus = ap (λ (r : SidePool). r.plus) h.pool; kept = h.kept })
    ]

pub kept_next : (d : List ℕ) (k : ℕ) (l : List KeptLine) (x : LinePool) (z : KeptLine) → length l ≡ 64 → k < 64 → LinePooled d k x
    → z ≡ record { plus = x.pool.plus; from = x.from; taking = x.taking } → KeptTo d k l → (length (set l k z) ≡ 64) × KeptTo d (k + 1) (set l k z)
kept_next d k l x z n b h e f = (length-set l k z ∙ n, kept_more d k l x z n b h e f)

-- after the last line
pub all_kept : (d : List ℕ) (k n : ℕ) (p : Pools) (l : List KeptLine) (b c : List ℕ) → n ≡ line_count d → k ≤ n → n ≤ k → p ≡ pools_to (settled_day d) k → KeptTo d k l
    → c ≡ sets b 0 (list_to k (settled_day d).count)
    → KeptAll d (record { pools = p; lines = l }) × (c ≡ sets b 0 (list_to (line_count d) (settled_day d).count))
all_kept d k n p l b c ne h g pe f ce =
    let e : k ≡ line_count d = omega arith in (
      record { pools = pe ∙ ap (pools_to (settled_day d)) e; lines = subst (λ (m : ℕ). KeptTo d m l) e f },
      ce ∙ ap (λ (m : ℕ). sets b 0 (list_to m (settled_day d).count)) e,
    )
