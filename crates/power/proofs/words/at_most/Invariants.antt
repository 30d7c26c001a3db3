-- `power::words::at_most` meets its contract.
use Rattle.std.proofs.Common.{◌≡◌, ◌^◌, ◌<◌, leb}
use Rattle.power.specs.steps.Power.{worth}
use Rattle.power.proofs.words.at_most.Given as goal

abbrev pub invariant-loop-i : goal.invariant-loop-i
invariant-loop-i l =
    (l.le ≡ leb (worth l.i l.a) (worth l.i l.b)) × (worth l.i l.a < 4294967296 ^ l.i)
    × (worth l.i l.b < 4294967296 ^ l.i)
