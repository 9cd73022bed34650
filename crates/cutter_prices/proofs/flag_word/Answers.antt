-- `cutter_prices::flag_word` meets its contract.
use native.Mathlib.Omega.{arith}
use Rattle.cutter_prices.proofs.Written.{shifted_fits, run_is}
use Rattle.cutter_prices.proofs.flag_word.Goals as goal

pub overflow_sub-result-2 : goal.overflow_sub-result-2
overflow_sub-result-2 c = shifted_fits _ _ (omega (arith, c.requires.1)) c.requires.0

pub returns : goal.returns
returns c = run_is _ _ c.requires.0
