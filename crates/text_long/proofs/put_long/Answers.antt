-- `text_long::put_long` meets its contract.
use native.Mathlib.Omega.{arith}
use Rattle.std.proofs.Common.{◌∙◌}
use Rattle.text_long.specs.Report.{written_long}
use Rattle.text_long.proofs.put_long.Goals as goal

pub returns : goal.returns
returns c =
    let put = c.put_refused.ensures in record { upper_bound = omega (arith, put.most, put.end); by_index = λ d begins size. written_long d _ _ _ _ (omega (arith, c.requires.1)) (c.number_of.ensures ∙ c.check_long.ensures d begins size) put }
