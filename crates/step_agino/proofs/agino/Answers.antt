-- `step_agino::agino` meets its contract: the least of the operating quantities is taken from the last schedule back.
use Rattle.std.proofs.Common.{rules, ◌≡◌, refl, ℕ, ◌-◌, ◌+◌, ◌≤◌, ◌<◌, suc, min, arith, length, List, ◌∙◌, ap}
use Rattle.std.proofs.Math.ListN.{set}
use Rattle.rules.specs.Fold.{five, at}
use Rattle.rules.specs.Quantities.{agino, least_from}
use Rattle.numbers.specs.Fives.{five_same}
use Rattle.numbers.specs.Carried.{Carried, carried_begins, carried_goes}
use Rattle.laws.specs.Chains.{least_step, least_last, agino_at}
use Rattle.std.proofs.lemmas.Grind.{common_steps}
use Rattle.step_agino.proofs.agino.Invariants.{least_of}
use Rattle.step_agino.proofs.agino.Goals as goal

goes : (o l : List ℕ) (s m : ℕ) → Carried o (least_of o) l s → 0 < s → s ≤ 4 → m ≡ min (at l (s - 1)) (at l (s - 1 + 1))
    → Carried o (least_of o) (set l (s - 1) m) (s - 1)
goes o l s m c h k e =
    let p : s - 1 + 1 ≡ s = omega arith in
    let n : suc (s - 1) ≡ s = omega arith in
    let q : 4 - (s - 1) ≡ suc (4 - s) = omega arith in
    let v : at l (s - 1 + 1) ≡ least_from o (suc (s - 1)) (4 - s) = rw (p, n) (c.worked s (omega arith) (omega arith)) in
    carried_goes o (least_of o) l s m c h k (rw q (least_step o (s - 1) (4 - s) v (e ∙ ap (λ (x : ℕ). min x (at l (s - 1 + 1))) (c.given (s - 1) (omega arith)))))

ends : (o l r : List ℕ) (a s : ℕ) → Carried o (least_of o) l s → s ≤ 0 → r ≡ five (λ t. at l t - a) → r ≡ five (agino o a)
ends o l r a s c h e =
    e ∙ five_same (λ t. at l t - a) (agino o a) (λ t k. agino_at o a t k (c.worked t (omega arith) k) refl)

pub loop-s-init : goal.loop-s-init
loop-s-init c =
    let h : length c.args.o ≡ 5 = search rules in
    carried_begins _ _ h (least_last c.args.o 4)

pub loop-s-preserved : goal.loop-s-preserved
loop-s-preserved c = goes _ _ _ _ c.loop-s.invariant c.loop-s-test.true c.loop-s.auto.s c.min.ensures

pub returns : goal.returns
returns c =
    let e : c.map.result ≡ five (λ t. at c.loop-s.least t - c.args.a) = grind (arith, common_steps) in
    ends _ _ _ _ _ c.loop-s.invariant c.loop-s-test.false e
