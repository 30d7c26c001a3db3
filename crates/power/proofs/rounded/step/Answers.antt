-- `power::rounded::step` meets its contract.
use Rattle.std.proofs.Common.{arith}
use Rattle.power.proofs.PowerLaws.{near_step}
use Rattle.power.proofs.rounded.step.Goals as goal

pub returns : goal.returns
returns c = record {
  step =
      near_step _ _ c.times-square.ensures.product c.times_odd.ensures.odd_product
      c.times_odd-2.ensures.odd_product;
  within = record { short = omega arith; positive = omega arith; exponent = omega arith };
}
