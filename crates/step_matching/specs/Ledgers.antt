-- The ledger of open rises as a value: what entering a schedule does, and when a ledger holds the open rises of `rules`.
use Rattle.std.specs.Prelude.{ℕ, ◌-◌, ◌≡◌, List, ◌∷◌, take}
use Rattle.rules.specs.Fold.{five}
use Rattle.rules.specs.Matching.{takes, leaves, open_rises, matched}
use Rattle.step_matching.specs.declared.open_rises.Ledger.{Ledger}
use Rattle.step_matching.specs.declared.open_rises.Matched.{Matched}

-- "each schedule takes the open rises left before it and leaves new ones": where C goes from b to c
unfoldable pub entered : Ledger → ℕ → ℕ → Matched
entered l b c =
    record {
      matches = takes (b - c) l.rises;
      next = record { rises = take 4 ((c - b) ∷ leaves (b - c) l.rises) };
    }

-- a ledger has the open rises before schedule s in its first s places
pub record Holding (c : List ℕ) (s : ℕ) (l : Ledger) : Type 0 where
  pub held : take s l.rises ≡ open_rises c s

-- the matches of schedule s, by the rise's schedule
unfoldable pub match_row : List ℕ → ℕ → List ℕ
match_row c s = five (matched c s)
