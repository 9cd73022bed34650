-- The pools of both sides, line by line, and what the first pass over a day keeps for the second.
use Rattle.std.specs.Prelude.{ℕ, zero, suc, ◌≤◌, ◌<◌, ◌≡◌, List, get_or, cond, eqb}
use Rattle.std.proofs.Common.{arith, sym, ◌∙◌, ap, subst}
use Rattle.rules.specs.Layout.{line_count, line_at, side}
use Rattle.rules.specs.Payments.{Day}
use Rattle.rules.specs.Days.{settled_day}
use Rattle.laws.specs.Accepted.{AcceptedDay, accepted_line_at}
use Rattle.step_pool.specs.declared.pool_amounts.SidePool.{SidePool}
use Rattle.step_pool.specs.Amounts.{pool_sum, Addable}
use Rattle.day_pools.specs.Sums.{pool_to}
use Rattle.day_pools.specs.Sides.{line_pool, side_part, side_pool}
use Rattle.day_pools.specs.Lines.{PoolFor}
use Rattle.day_pools.specs.Passes.{Keeps}
use Rattle.day_paid.specs.declared.Pools.{Pools}
use Rattle.day_paid.specs.declared.KeptLine.{KeptLine}
use Rattle.day_paid.specs.declared.KeptDay.{KeptDay}

-- the pool of a side
unfoldable pub pool_in : ℕ → SidePool → SidePool → SidePool
pool_in sd i w = cond (eqb sd 0) i w

-- the pools of both sides, of the first n lines
unfoldable pub pools_to : Day → ℕ → Pools
pools_to y n = record { injection = pool_to n (side_part y 0); withdrawal = pool_to n (side_part y 1) }

-- with that of a line of side sd more
unfoldable pub pools_with : Pools → ℕ → SidePool → Pools
pools_with p sd q =
    record {
      injection = cond (eqb sd 0) (pool_sum p.injection q) p.injection;
      withdrawal = cond (eqb sd 0) p.withdrawal (pool_sum p.withdrawal q);
    }

pub record PoolsAddable (p : Pools) (sd : ℕ) (q : SidePool) : Type 0 where
  pub injection : sd ≡ 0 → Addable p.injection q
  pub withdrawal : (sd ≡ 0 → ⊥) → Addable p.withdrawal q

-- what the first pass keeps of line k for the second
pub record KeptOf (d : List ℕ) (k : ℕ) (x : KeptLine) : Type 0 where
  pub plus : x.plus ≡ (line_pool (settled_day d) k).plus
  pub kept : Keeps d k x.from x.taking

-- at the first n places of l stands what is kept of the first n lines
abbrev pub KeptTo : List ℕ → ℕ → List KeptLine → Type 0
KeptTo d n l = (i : ℕ) → i < n → (z : KeptLine) → KeptOf d i (get_or l i z)

-- what the first pass over a day answers
pub record KeptAll (d : List ℕ) (x : KeptDay) : Type 0 where
  pub pools : x.pools ≡ pools_to (settled_day d) (line_count d)
  pub lines : KeptTo d (line_count d) x.lines

pool_by : (y : Day) (sd : ℕ) (i w : SidePool) → sd ≤ 1 → PoolFor y 0 i → PoolFor y 1 w → PoolFor y sd (pool_in sd i w)
unfolding pool_in
pool_by y zero i w h p q = p
pool_by y (suc zero) i w h p q = q
pool_by y (suc (suc n)) i w h p q = absurd (omega arith)

-- the pool that line k's payments read
pub line_pool_lem : (d : List ℕ) → AcceptedDay d → (p : Pools) → p ≡ pools_to (settled_day d) (line_count d) → (k : ℕ) → k < line_count d → (v : List ℕ) → v ≡ line_at d k
    → (sd : ℕ) → sd ≡ side v → (q : SidePool) → q ≡ pool_in sd p.injection p.withdrawal → PoolFor (settled_day d) (side (line_at d k)) q
unfolding pools_to side_pool
line_pool_lem d a p pe k l v e sd h q g =
    let n : sd ≡ side (line_at d k) = h ∙ ap side e in
    let i = p.injection in
    let w = p.withdrawal in
    let s : q ≡ pool_in (side (line_at d k)) i w = g ∙ ap (λ (x : ℕ). pool_in x i w) n in
    subst (PoolFor (settled_day d) (side (line_at d k))) (sym s)
    (pool_by (settled_day d) (side (line_at d k)) i w (accepted_line_at d a k l).head.side_most
    (record { shared = λ z. ap (λ (x : Pools). x.injection) pe }) (record { shared = λ z. ap (λ (x : Pools). x.withdrawal) pe }))
