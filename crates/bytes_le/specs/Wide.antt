-- 64-bit little-endian numbers, unsigned and signed (document 01, "Totals and book": "signed 64-bit .. All are little-endian").
use Rattle.std.specs.Prelude.{ℕ, suc, ◌+◌, ◌*◌, ◌-◌, ◌^◌, List, cond, ℤ, pos, negsuc, ltb}
use Rattle.rules.specs.Layout.{word}

-- the 64 bits whose first byte is byte i
abbrev pub long_word : List ℕ → ℕ → ℕ
long_word b i = word b i + word b (i + 4) * 4294967296

-- the signed number that 64 bits stand for: 2^64 less where the highest is set
abbrev pub signed_of : ℕ → ℤ
signed_of v = cond (ltb v (2 ^ 63)) (pos v) (negsuc (2 ^ 64 - suc v))
