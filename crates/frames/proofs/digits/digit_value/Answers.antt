-- `frames::digits::digit_value` meets its contract: of a digit it is the digit's value.
use Rattle.frames.specs.Digits.{bits_of}
use Rattle.frames.proofs.DigitLaws.{bits-value}
use Rattle.frames.proofs.digits.digit_value.Goals as goal

pub returns-clause-value : goal.returns-clause-value
unfolding bits_of
returns-clause-value c = bits-value c.args.c
