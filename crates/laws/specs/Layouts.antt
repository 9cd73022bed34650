-- The two layouts of a day file (document 02, F-5): where its parts stand, by the header's market offset.
use Rattle.std.specs.Prelude.{ℕ, ◌≤◌, ◌≡◌, List, Bool, true, false, cond, not, eqb}
use Rattle.std.proofs.Common.{arith, sym, ◌∙◌, ap}
use Rattle.rules.specs.Layout.{market_offset, count_word, ad_hoc, market_at, lines_at, record_count}

-- which layout it is, with the offset that was read
pub layout_is : (d : List ℕ) (m : ℕ) → m ≡ market_offset d → not (eqb m 16) ≡ ad_hoc d
unfolding ad_hoc
layout_is d m e = ap (λ (x : ℕ). not (eqb x 16)) e

-- what stands where, with the layout that was read
module _ (d : List ℕ) (t : Bool) (e : t ≡ ad_hoc d) where
  module _ (h : t ≡ true) where
    pub new_market : 24 ≡ market_at d
    unfolding market_at
    new_market = rw (sym e ∙ h)

    pub new_lines : 72 ≡ lines_at d
    unfolding lines_at
    new_lines = rw (sym e ∙ h)

    pub new_count : (c : ℕ) → c ≡ count_word d → c ≡ record_count d
    unfolding record_count
    new_count c w = rw (sym e ∙ h) w

  module _ (h : t ≡ false) where
    pub old_market_lem : 16 ≡ market_at d
    unfolding market_at
    old_market_lem = rw (sym e ∙ h)

    pub old_lines : 64 ≡ lines_at d
    unfolding lines_at
    old_lines = rw (sym e ∙ h)

    pub old_count : 0 ≡ record_count d
    unfolding record_count
    old_count = rw (sym e ∙ h)

-- the market table stands from byte 16 on, or from 24 on, the lines from 64 on, or from 72 on
market_by : (t : Bool) → cond t 24 16 ≤ 24
market_by true = omega arith
market_by false = omega arith

pub market_most : (d : List ℕ) → market_at d ≤ 24
unfolding market_at
market_most d = market_by (ad_hoc d)

lines_by : (t : Bool) → (64 ≤ cond t 72 64) × (cond t 72 64 ≤ 72)
lines_by true = (omega arith, omega arith)
lines_by false = (omega arith, omega arith)

pub lines_at_lem : (d : List ℕ) → (64 ≤ lines_at d) × (lines_at d ≤ 72)
unfolding lines_at
lines_at_lem d = lines_by (ad_hoc d)
