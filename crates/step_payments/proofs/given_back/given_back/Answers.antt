-- `step_payments::given_back::given_back` meets its contract: no part of the sum passes the whole.
use Rattle.std.proofs.Common.{◌≡◌, ◌≤◌, ◌+◌, ◌∙◌, arith, ℕ, zero, suc, sym, ap}
use Rattle.std.proofs.Math.Decide.{dec_lt}
use Rattle.rules.specs.Fold.{sum_to}
use Rattle.laws.specs.Folds.{sum_none, sum_suc, sum_more}
use Rattle.step_payments.specs.Amounts.{given_at}
use Rattle.step_changes.specs.Changes.{product_in}
use Rattle.step_payments.proofs.given_back.given_back.Goals as goal

part : (n m : ℕ) (f : ℕ → ℕ) → n ≤ m → sum_to n f ≤ sum_to m f
part n zero f h = let e : n ≡ 0 = omega arith in rw e (omega arith)
part n (suc m) f h =
    elim (dec_lt n (suc m)) [
      | yes l ↦ omega (arith, part n m f (omega arith), sum_suc m f)
      | no g ↦ let e : n ≡ suc m = omega arith in rw e (omega arith)
    ]

pub loop-r-init : goal.loop-r-init
loop-r-init c = sym (sum_none (product_in c.args.m c.args.rate))

pub overflow_add-sum : goal.overflow_add-sum
unfolding given_at product_in
overflow_add-sum c =
    let r = c.loop-r.r in
    let f = product_in c.args.m c.args.rate in
    omega (arith, sum_more r f, part (r + 1) 4 f (omega arith), c.product-sum.ensures, c.loop-r.invariant, c.requires)

pub loop-r-preserved : goal.loop-r-preserved
unfolding product_in
loop-r-preserved c = omega (arith, sum_more c.loop-r.r (product_in c.args.m c.args.rate), c.product-sum.ensures, c.loop-r.invariant)

pub returns : goal.returns
unfolding given_at
returns c =
    let e : c.loop-r.r ≡ 4 = omega arith in
    c.loop-r.invariant ∙ ap (λ (n : ℕ). sum_to n (product_in c.args.m c.args.rate)) e
