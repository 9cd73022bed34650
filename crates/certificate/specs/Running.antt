-- Document 02, F-14: in how many schedules a step is paid.
use Prim.Native.Nat.{ℕ, ◌≤◌}
use Rattle.std.proofs.Common.{arith}
use Rattle.std.specs.Prelude.{◌≡◌, List, true}
use Rattle.rules.specs.Layout.{line_at}
use Rattle.rules.specs.Steps.{paid}
use Rattle.rules.specs.declared.View.{View}
use Rattle.laws.specs.Folds.{all_yes, yes_all}
use Rattle.certificate.specs.Certificate.{paid_up_to}

-- paid in the first n schedules, so in the first m of them
pub paid_part : (d : List ℕ) (k : ℕ) (v : View) (n m : ℕ) → m ≤ n → paid_up_to d k v n ≡ true → paid_up_to d k v m ≡ true
unfolding paid_up_to
paid_part d k v n m l e = yes_all m (paid (line_at d k) v.end) (λ q g. all_yes n (paid (line_at d k) v.end) e q (omega arith))
