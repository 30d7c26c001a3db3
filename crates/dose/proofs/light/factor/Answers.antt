-- `dose::light::factor` meets its contract: the exponential is at most 1, so its rest is a number,
-- and the lower one is held at 0.
use Rattle.std.proofs.Common.{◌*◌, arith}
use Rattle.dose_spec.specs.Light.{light_low_of, light_up_of}
use Rattle.dose_spec.proofs.DecayLaws.{decay_low-le}
use Rattle.dose.proofs.light.factor.Goals as goal

pub overflow_sub-upper : goal.overflow_sub-upper
overflow_sub-upper c = let a = c.args in omega (arith, decay_low-le (a.light_a * a.ppfd))

pub returns : goal.returns
unfolding light_low_of light_up_of
returns c = record { lower = omega arith; upper = omega arith }
