-- What the worked days leave open, worked out by hand in document 01's words: a pooled final payment whose quotient is rounded and one that
-- is its initial payment, an adjusted total that an earlier one makes up for, AGINO back over totals that rise, fall and rise, and a line that
-- is hedged in part; and in document 02's where accreditations hold (F-7).
use Rattle.std.specs.Prelude.{ℕ, ◌≡◌, refl, List, [], ◌∷◌, ◌++◌, map, true, length, get_or, replicate, pos, negsuc}
use Rattle.rules.specs.Fold.{five}
use Rattle.rules.specs.Steps.{holds_in, paid}
use Rattle.rules.specs.Quantities.{agino}
use Rattle.rules.specs.declared.Step.{Step}
use Rattle.rules.specs.Payments.{bit, Day, step_final}
use Rattle.rules.specs.Totals.{line_payment, total, adjusted}
use Rattle.rules.specs.Book.{bits64}
use Rattle.rules.proofs.Worked.Cases.{Case, every, number, neg}
use Rattle.rules.proofs.Worked.TableLine.{table_line}
use Rattle.rules.proofs.Worked.Opened.{opened}
use Rattle.rules.proofs.Worked.UpliftRows.{uplift_rows}

-- a step up to 100 with nothing priced and all of it delivered, so that C is the operating total: of a side, paid or not, with
-- price and C in schedule 1, and in the schedules after it. Market prices are 4 in schedule 1, then 3
abbrev simple_step : ℕ → ℕ → ℕ → ℕ → ℕ → ℕ → Step
simple_step sd paid p₁ p₂ c₁ c₂ =
    record {
      side = sd;
      lower = 0;
      upper = 100;
      price = p₁ ∷ replicate 4 p₂;
      flag = replicate 5 0;
      market = 4 ∷ replicate 4 3;
      paid = replicate 5 paid;
      pricing = replicate 5 0;
      operating = c₁ ∷ replicate 4 c₂;
      actual = c₂;
      most = 100;
    }

-- In schedule 2, of the injections: line 0, step 0 falls by 6, initial -6 x (9 - 3) = -36, revised -6 x (5 - 3) = -12; step 1 rises by 5, initial and
-- revised 5 x (8 - 3) = 25; line 1 falls by 2, initial and revised -2 x (4 - 3) = -2; line 2 is unpaid and rises by 40.
-- Line 3 is a withdrawal that rises by 50, initial and revised 50 x (3 - 1) = 100
abbrev pool_steps : List (List Step)
pool_steps =
    (simple_step 0 1 5 9 10 4 ∷ simple_step 0 1 5 8 0 5 ∷ [])
    ∷ (simple_step 0 1 5 4 3 1 ∷ [])
    ∷ (simple_step 0 0 5 9 0 40 ∷ [])
    ∷ (simple_step 1 1 1 1 0 50 ∷ [])
    ∷ []

-- with the clawback switch
abbrev pool_day : ℕ → Day
pool_day claw =
    record {
      lines = 4;
      participant = λ k. k;
      point = λ k. 0;
      side = λ k. get_or (0 ∷ 0 ∷ 0 ∷ 1 ∷ []) k 0;
      count = λ k. length (get_or pool_steps k []);
      step = λ k j. get_or (get_or pool_steps k []) j (simple_step 0 0 0 0 0 0);
      clawback = claw;
    }

-- the finals in schedule 2, step by step
abbrev finals_of : ℕ → List ℕ
finals_of claw =
    bits64 (step_final (pool_day claw) 1 0 0) ∷ bits64 (step_final (pool_day claw) 1 0 1) ∷ bits64 (step_final (pool_day claw) 1 1 0)
    ∷ bits64 (step_final (pool_day claw) 1 2 0) ∷ bits64 (step_final (pool_day claw) 1 3 0) ∷ []

-- 1 in each schedule in which an accreditation holds
abbrev marks_of : ℕ → List ℕ
marks_of a = five (λ s. bit (holds_in a s))

unfoldable pub hand_cases : List Case
hand_cases =
    -- T = -12 + 25 - 2 = 11, B = max(5, 6 + 2) = 8; 11 x 6 / 8 = 8, so -12 - 8 = -20 is above -36; 11 x 2 / 8 = 2, and -2 - 2 is below -2
    record { found = finals_of 1; expected = neg 20 ∷ 25 ∷ neg 2 ∷ 0 ∷ 100 ∷ [] }
    ∷ record { found = bits64 (line_payment (pool_day 1) 1 0) ∷ bits64 (total (pool_day 1) 1) ∷ []; expected = 5 ∷ 103 ∷ [] }
    -- clawback off: the initial payments
    ∷ record { found = finals_of 0; expected = neg 36 ∷ 25 ∷ neg 2 ∷ 0 ∷ 100 ∷ [] }
    -- t = 5 -2 -4 3 0: a(1) = max(0, 5 - 2 - 4) = 0; a(2) = min(0, -2 + 5) = 0; a(3) = min(0, -4 + 5 - 2) = -1; a(4) = min(3, 3 + 0) = 3; a(5) = 0
    ∷ record { found = map bits64 (five (adjusted (pos 5 ∷ negsuc 1 ∷ negsuc 3 ∷ pos 3 ∷ pos 0 ∷ []))); expected = 0 ∷ 0 ∷ neg 1 ∷ 3 ∷ 0 ∷ [] }
    -- O = 10 50 20 60 70, AGINO(5) = 65: 65 - (70 - 60) = 55, 65 - (70 - 20) = 15 twice, 65 - (70 - 10) = 5 going back
    ∷ record { found = five (agino (10 ∷ 50 ∷ 20 ∷ 60 ∷ 70 ∷ []) 5); expected = 5 ∷ 15 ∷ 15 ∷ 55 ∷ 65 ∷ [] }
    -- K1's line is accredited, with hedge 37: its step that ends at 37 is hedged, the next one, which ends at 45, is paid
    ∷ number (bit (paid table_line 37 0)) 0
    ∷ number (bit (paid table_line 45 0)) 1
    -- where accreditations hold: 0 nowhere, 1 everywhere, 32 nowhere, 33 in schedule 1, 43 = 32 + 1 + 2 + 8 in 1, 2 and 4, 48 = 32 + 16 in 5, 63 everywhere
    ∷ record { found = marks_of 0 ++ marks_of 1; expected = replicate 5 0 ++ replicate 5 1 }
    ∷ record { found = marks_of 32 ++ marks_of 33; expected = replicate 5 0 ++ (1 ∷ 0 ∷ 0 ∷ 0 ∷ 0 ∷ []) }
    ∷ record { found = marks_of 43 ++ marks_of 48; expected = 1 ∷ 1 ∷ 0 ∷ 1 ∷ 0 ∷ 0 ∷ 0 ∷ 0 ∷ 0 ∷ 1 ∷ [] }
    ∷ record { found = marks_of 63; expected = replicate 5 1 }
    ∷ []

-- it names the lemma of F-1's rows, so that where that is refused this is not computed
pub by_hand : every hand_cases ≡ true
unfolding opened hand_cases
by_hand = let k = uplift_rows in refl
