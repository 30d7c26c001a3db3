-- `power::words::at_most` meets its contract.
use Rattle.std.proofs.Common.{refl, arith}
use Rattle.power.specs.steps.Power.{worth}
use Rattle.power.proofs.WordLaws.{order-next, worth-lt}
use Rattle.power.proofs.words.at_most.Goals as goal

pub loop-i-init : goal.loop-i-init
unfolding worth
loop-i-init c = (refl, omega arith, omega arith)

pub loop-i-preserved : goal.loop-i-preserved
loop-i-preserved c = let args = c.args in
    let s = c.settle-le.ensures in (
      order-next c.loop-i.i args.a.now args.b.now c.loop-i.le c.settle-le.result
          c.loop-i.invariant.1 c.loop-i.invariant.2 c.loop-i.invariant.0 s,
      worth-lt c.loop-i.i args.a.now c.loop-i.invariant.1 s.left,
      worth-lt c.loop-i.i args.b.now c.loop-i.invariant.2 s.right,
    )
