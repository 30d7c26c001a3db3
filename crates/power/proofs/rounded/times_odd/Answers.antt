-- `power::rounded::times_odd` meets its contract.
use Rattle.std.proofs.Common.{arith}
use Rattle.power.proofs.PowerLaws.{near-odd, near_even}
use Rattle.power.proofs.rounded.times_odd.Goals as goal

pub returns-then-n-eq1 : goal.returns-then-n-eq1
returns-then-n-eq1 c = record {
  odd_product = near-odd _ (omega arith) c.times.ensures.product;
  within = c.times.ensures.within;
}

pub returns : goal.returns
returns c = record {
  odd_product = near_even _ (omega arith);
  within = record { short = omega arith; positive = omega arith; exponent = omega arith };
}
