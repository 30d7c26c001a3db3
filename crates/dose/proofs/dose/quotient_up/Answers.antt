-- `dose::dose::quotient_up` meets its contract.
use Rattle.dose_spec.specs.Pair.{dividend, quotient}
use Rattle.dose.proofs.dose.quotient_up.Goals as goal

pub returns : goal.returns
unfolding dividend quotient
returns c = rw c.divisor.ensures.is at c.divided.ensures
