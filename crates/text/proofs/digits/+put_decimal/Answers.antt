-- The digits before the last one are the text of v / 10, by the call of itself.
use Rattle.std.proofs.Common.{arith, sym}
use Rattle.text.specs.Put.{then, written_as, written_within}
use Rattle.text.specs.Digits.{decimal_one, decimal_last, decimal_most, decimal_tenth}
use Rattle.text.proofs.digits.+put_decimal.Goals as goal

-- one digit
pub returns-then-v-lt10 : goal.returns-then-v-lt10
returns-then-v-lt10 t c = written_within (written_as (sym (decimal_one _ c.if-v-lt10.true)) c.put_byte.ensures) (decimal_most _)

-- the last digit has room
pub put_byte-requires-2 : goal.put_byte-requires-2
put_byte-requires-2 t c = omega (arith, decimal_tenth c.args.v c.ranges.v.fits)

-- the digits before the last, and the last
pub returns : goal.returns
returns t c =
    written_within
    (written_as (sym (decimal_last _ c.ranges.v.fits c.if-v-lt10.false)) (then c.put_decimal-p.ensures c.put_byte-2.ensures))
    (decimal_most _)
