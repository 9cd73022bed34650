-- `step_pool::adding::differing` meets its contract: place by place.
use Rattle.std.proofs.Common.{rules, ◌≡◌, Bool, true, false, refl}
use Rattle.std.specs.Int.{from_bool}
use Rattle.rules.specs.Payments.{bit}
use Rattle.step_payments.proofs.amounts.Joining.{row_five}
use Rattle.step_pool.specs.Amounts.{differ_in}
use Rattle.step_pool.proofs.adding.differing.Goals as goal

bit_is : (t : Bool) → from_bool t ≡ bit t
bit_is true = refl
bit_is false = refl

pub returns : goal.returns
unfolding differ_in
returns c = row_five (differ_in c.args.a c.args.b) c.from_fn.result (search rules) (search (rules, bit_is)) (search (rules, bit_is)) (search (rules, bit_is)) (search (rules, bit_is)) (search (rules, bit_is))
