-- `power::rounded::high_product` meets its contract.
use Rattle.std.proofs.Common.{arith}
use Rattle.power.specs.steps.Power.{full}
use Rattle.power.proofs.rounded.high_product.Goals as goal

pub returns : goal.returns
unfolding full
returns c = let wide = c.carrying_mul.ensures in
    let small = c.carrying_mul.type_inv in
    record { low = omega (arith, wide, small); high = omega (arith, wide, small) }
