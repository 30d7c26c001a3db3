-- `cases::parameters::parameters_of` is the numbers that its groups of digits say.
use Rattle.cases.specs.Digits.{numbers_read}
use Rattle.cases.proofs.parameters.parameters_of.Goals as goal

pub returns : goal.returns
unfolding numbers_read
returns c = cc
