-- `dose::dose::quotient_low` meets its contract.
use Rattle.dose_spec.specs.Pair.{dividend, quotient}
use Rattle.dose.proofs.dose.quotient_low.Goals as goal

pub returns : goal.returns
unfolding dividend quotient
returns c = rw c.divisor.ensures.is
