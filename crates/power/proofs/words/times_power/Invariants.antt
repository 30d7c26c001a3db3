-- `power::words::times_power` meets its contract.
use Rattle.power.proofs.WordLaws.{IsPowerProduct}
use Rattle.power.proofs.words.times_power.Given as goal

abbrev pub invariant-loop-j : goal.invariant-loop-j
invariant-loop-j l = IsPowerProduct l.initial.a l.a l.n l.c l.j l.words
