-- Document 01, "Steps and prices": the cutter's whole answer for one line's bytes.
use Rattle.std.specs.Prelude.{ℕ, ◌+◌, ◌*◌, List, [], ◌∷◌, map, cond, replicate, eqb}
use Rattle.rules.specs.Fold.{joined, padded, sum_of, five}
use Rattle.rules.specs.Steps.{ends, step_count, price, flag}
use Rattle.rules.specs.Refusals.{cut_fault}
use Rattle.rules.specs.declared.Cut.{Cut}

-- "at most 56"
abbrev pub step_places : ℕ
step_places = 56

-- the uncapped prices and the flags of the steps in schedule s
unfoldable pub prices : List ℕ → ℕ → List ℕ
prices w s = map (price w s) (ends w)

unfoldable pub flags : List ℕ → ℕ → List ℕ
flags w s = map (flag w s) (ends w)

-- "a 64-bit word of flags (bit k for step k from 0)"
unfoldable pub bits : List ℕ → ℕ
bits [] = 0
bits (f ∷ fs) = f + 2 * bits fs

unfoldable pub flag_word : List ℕ → ℕ → ℕ
flag_word w s = bits (flags w s)

-- "with how many are set"
unfoldable pub missing : List ℕ → ℕ → ℕ
missing w s = sum_of (flags w s)

-- "Prices too are per schedule, and places past the count are 0"
unfoldable pub price_row : List ℕ → ℕ → List ℕ
price_row w s = padded step_places (prices w s)

-- `reserved` is none of document 01's answers: it fills the answer's last bytes and is always 0
unfoldable pub cut_of : List ℕ → Cut
cut_of w =
    record {
      flags = five (flag_word w);
      number = 0;
      count = step_count w;
      missing = five (missing w);
      ends = padded step_places (ends w);
      prices = joined 5 (price_row w);
      reserved = 0;
    }

-- "A refused cutter or view answers the number and zeros"
unfoldable pub cut_refused : ℕ → Cut
cut_refused n =
    record {
      flags = replicate 5 0;
      number = n;
      count = 0;
      missing = replicate 5 0;
      ends = replicate step_places 0;
      prices = replicate 280 0;
      reserved = 0;
    }

-- "It answers the step count, upper ends, uncapped prices and, per schedule, a 64-bit word of flags .. with how many are set"
unfoldable pub cut_answer : List ℕ → Cut
cut_answer w = cond (eqb (cut_fault w) 0) (cut_of w) (cut_refused (cut_fault w))
