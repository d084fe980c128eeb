use Rattle.std.proofs.Common.{arith, refl}
use Rattle.sg_names.proofs.HexValues.{digit_of, no_digit}
use Rattle.sg_names.proofs.hex.value_of.Goals as goal

pub returns-then-value-lt16-clause-some : goal.returns-then-value-lt16-clause-some
returns-then-value-lt16-clause-some c = (omega (arith, c.if-value-lt16.true), digit_of c.args.digit 0 _ c.ranges.digit.fits refl (omega (arith, c.if-value-lt16.true)))

pub returns-else-value-lt16-clause-none : goal.returns-else-value-lt16-clause-none
returns-else-value-lt16-clause-none c = no_digit c.args.digit 0 _ c.ranges.digit.fits refl (omega (arith, c.if-value-lt16.false))
