-- Laws of accreditation: "0 and 1 keep their meaning" (document 02, F-7), the empty set is as 0 and the full one as 1.
use Rattle.std.specs.Prelude.{ℕ, ◌≤◌, ◌<◌, ◌≡◌, refl, List, Bool, false, get_or, eqb}
use Rattle.std.proofs.Common.{arith, sym, ◌∙◌, ap, lt-ltb}
use Rattle.rules.specs.Fold.{five}
use Rattle.rules.specs.Layout.{accreditation}
use Rattle.rules.specs.Steps.{holds_in, accredited}
use Rattle.laws.specs.Folds.{at_five}

-- of a line with accreditation 0 or 1 it is document 01's "(0 no, 1 yes)", in every schedule
pub yes_no_line : (w : List ℕ) (s : ℕ) → accreditation w ≤ 1 → accredited w s ≡ eqb (accreditation w) 1
unfolding accredited holds_in
yes_no_line w s h = rw (lt-ltb (accreditation w) 32 (omega arith))

alike : (a b : ℕ) → five (holds_in a) ≡ five (holds_in b) → (s : ℕ) → s < 5 → holds_in a s ≡ holds_in b s
alike a b e s h =
    sym (at_five (holds_in a) false s h) ∙ ap (λ (l : List Bool). get_or l s false) e ∙ at_five (holds_in b) false s h

pub empty_set : (s : ℕ) → s < 5 → holds_in 32 s ≡ holds_in 0 s
unfolding holds_in
empty_set = alike 32 0 refl

pub full_set : (s : ℕ) → s < 5 → holds_in 63 s ≡ holds_in 1 s
unfolding holds_in
full_set = alike 63 1 refl
