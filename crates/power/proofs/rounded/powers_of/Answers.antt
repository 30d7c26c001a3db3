-- `power::rounded::powers_of` meets its contract.
use Rattle.std.proofs.Common.{arith}
use Rattle.power.proofs.PowerLaws.{near-powers}
use Rattle.power.proofs.rounded.powers_of.Goals as goal

pub returns : goal.returns
returns c = near-powers _ _ _ _ (omega arith) (omega arith) c.whole.ensures.0 c.whole-a.ensures.0
    c.whole-b.ensures.0 c.step-r16.ensures.step c.step-r8.ensures.step c.step-r4.ensures.step
    c.step-r2.ensures.step c.step.ensures.step
