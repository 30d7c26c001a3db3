-- `power::words::times_power` meets its contract.
use Rattle.std.proofs.Common.{◌≡◌, arith}
use Rattle.power.proofs.WordLaws.{power_product-none, power_product-next}
use Rattle.power.proofs.words.times_power.Goals as goal

pub loop-j-init : goal.loop-j-init
loop-j-init c = power_product-none _ _ _

pub times-words-requires : goal.times-words-requires
times-words-requires c = omega (arith, c.loop-j.invariant.words)

pub loop-j-preserved : goal.loop-j-preserved
loop-j-preserved c = power_product-next _ _ _ _ _ _ _ _ c.loop-j.invariant c.times-words.ensures

pub returns : goal.returns
returns c = let e : c.loop-j.j ≡ c.args.k = omega arith in
    let done = rw e at c.loop-j.invariant in (done.words, done.holds)
