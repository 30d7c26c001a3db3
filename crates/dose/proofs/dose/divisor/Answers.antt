-- `dose::dose::divisor` meets its contract; no product passes 64 bits.
use Rattle.std.proofs.Common.{ℕ, ◌+◌, ◌*◌, ◌^◌, ◌<◌, ◌≤◌, mul-le-mul, arith, rules}
use Rattle.dose_spec.specs.Pair.{resisted, divisor}
use Rattle.dose.proofs.dose.divisor.Goals as goal

product_le : (g p : ℕ) → g ≤ 500 → p ≤ 10000003 → g * p ≤ 5000001500
product_le g p h k = omega (arith, mul-le-mul h k)

divisor-small :
    (g p s m : ℕ) → g ≤ 500 → p ≤ 10000003 → s ≤ 14142136 → m ≤ 1 → divisor g p s m < 2 ^ 44
unfolding resisted divisor
divisor-small g p s m g_max share root more =
    let conductance : g * p + 164000000 ≤ 5164001500 = omega (arith, product_le g p g_max share) in
    omega (arith, mul-le-mul root conductance)

pub returns : goal.returns
unfolding resisted divisor
returns c = let a = c.args in
    let r = c.requires in
    record {
      is = search rules;
      size = (omega arith, divisor-small a.g_max a.p a.s a.more r.0 r.1 r.2 r.3);
    }
