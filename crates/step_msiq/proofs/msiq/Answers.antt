-- `step_msiq::msiq` meets its contract: from the last schedule back.
use Rattle.std.proofs.Common.{rules, ◌≡◌, ℕ, ◌-◌, ◌+◌, ◌≤◌, ◌<◌, suc, min, true, false, cond, arith, length, List, ◌∙◌, sym}
use Rattle.std.proofs.Math.ListN.{set}
use Rattle.rules.specs.Fold.{five, at}
use Rattle.rules.specs.Quantities.{beyond, msiq}
use Rattle.numbers.specs.Carried.{Carried, carried_begins, carried_goes, carried_stays, carried_whole}
use Rattle.laws.specs.Chains.{msiq_step, msiq_last}
use Rattle.step_msiq.proofs.msiq.Goals as goal

module _ (sd : ℕ) (p mp e : List ℕ) where
  -- MSIQ of a schedule from that of the next one, n
  before : (s n r : ℕ) → 0 < s → s ≤ 4 → n ≡ msiq sd p mp e s
      → r ≡ cond (beyond sd (at p (s - 1)) (at mp (s - 1))) (at e (s - 1)) (min (at e (s - 1)) n) → r ≡ msiq sd p mp e (s - 1)
  unfolding msiq
  before s n r h k a b =
      let i : suc (s - 1) ≡ s = omega arith in
      let q : 4 - (s - 1) ≡ suc (4 - s) = omega arith in
      rw q (msiq_step sd p mp e (s - 1) (4 - s) (rw i a) b)

  stays : (q : List ℕ) (s : ℕ) → Carried e (msiq sd p mp e) q s → 0 < s → s ≤ 4 → beyond sd (at p (s - 1)) (at mp (s - 1)) ≡ true
      → Carried e (msiq sd p mp e) q (s - 1)
  stays q s c h k t =
      carried_stays e (msiq sd p mp e) q s c h k
      (before s (at q s) (at e (s - 1)) h k (c.worked s (omega arith) (omega arith)) (rw t))

  goes : (q : List ℕ) (s m : ℕ) → Carried e (msiq sd p mp e) q s → 0 < s → s ≤ 4 → beyond sd (at p (s - 1)) (at mp (s - 1)) ≡ false
      → m ≡ min (at q (s - 1)) (at q (s - 1 + 1)) → Carried e (msiq sd p mp e) (set q (s - 1) m) (s - 1)
  goes q s m c h k t r =
      let i : s - 1 + 1 ≡ s = omega arith in
      let g : at q (s - 1) ≡ at e (s - 1) = c.given (s - 1) (omega arith) in
      carried_goes e (msiq sd p mp e) q s m c h k
      (before s (at q s) m h k (c.worked s (omega arith) (omega arith)) (rw t (rw (g, i) at r)))

  ends : (q : List ℕ) (s : ℕ) → Carried e (msiq sd p mp e) q s → s ≤ 0 → q ≡ five (msiq sd p mp e)
  ends q s c h = let z : s ≡ 0 = omega arith in carried_whole e (msiq sd p mp e) q (rw z at c)

pub loop-s-init : goal.loop-s-init
unfolding msiq
loop-s-init c =
    let h : length c.args.e ≡ 5 = search rules in
    carried_begins _ _ h (msiq_last c.args.side c.args.price c.args.market c.args.e 4)

pub loop-s-preserved-then-not-beyond : goal.loop-s-preserved-then-not-beyond
loop-s-preserved-then-not-beyond c =
    goes _ _ _ _ _ _ _ c.loop-s.invariant c.loop-s-test.true c.loop-s.auto.s (sym c.beyond.ensures ∙ c.if-not-beyond.true) c.min.ensures

pub loop-s-preserved : goal.loop-s-preserved
loop-s-preserved c =
    stays _ _ _ _ _ _ c.loop-s.invariant c.loop-s-test.true c.loop-s.auto.s (sym c.beyond.ensures ∙ c.if-not-beyond.false)

pub returns : goal.returns
returns c = ends _ _ _ _ _ _ c.loop-s.invariant c.loop-s-test.false
