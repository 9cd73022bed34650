-- `day_pools::marks::with_mark` meets its contract.
use Prim.Native.Nat.{ℕ, ◌+◌, ◌*◌, ◌≤◌, ◌^◌}
use mathlib.Core.Path.{◌≡◌, refl, ◌∙◌, ap}
use mathlib.Core.Bool.{Bool, true, false}
use native.Mathlib.Omega.{arith}
use Rattle.std.specs.Int.{from_bool}
use Rattle.rules.specs.Payments.{bit}
use Rattle.day_pools.proofs.Passes.{bit_most, mark_exact, marked_fits}
use Rattle.day_pools.proofs.marks.with_mark.Goals as goal

bit_is : (t : Bool) → from_bool t ≡ bit t
bit_is true = refl
bit_is false = refl

pub overflow_add-result : goal.overflow_add-result
overflow_add-result c =
    let same = c.from.ensures ∙ bit_is c.args.mark in
    let few : c.from.result ≤ 1 = omega (arith, same, bit_most c.args.mark) in
    record { fits = marked_fits c.args.word c.from.result c.args.i c.requires.0 few c.requires.1 }

pub returns : goal.returns
returns c =
    let same = c.from.ensures ∙ bit_is c.args.mark in
    let few : c.from.result ≤ 1 = omega (arith, same, bit_most c.args.mark) in
    rw (mark_exact c.from.result c.args.i few c.requires.1) (ap (λ (n : ℕ). c.args.word + n * 2 ^ c.args.i) same)
