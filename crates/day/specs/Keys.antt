-- A slot for a line's key.
use Rattle.std.specs.Prelude.{ℕ, ◌+◌, ◌*◌, ◌%◌, List}
use Rattle.rules.specs.Layout.{participant, point, side}

-- lines with the same participant, point and side have the same slot
unfoldable pub slot_of : List ℕ → ℕ
slot_of w = (participant w * 4 + point w + side w * 64) % 128
