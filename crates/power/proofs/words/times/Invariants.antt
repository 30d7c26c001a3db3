-- `power::words::times` meets its contract.
use Rattle.power.proofs.WordLaws.{AreTimes}
use Rattle.power.proofs.words.times.Given as goal

abbrev pub invariant-loop-word : goal.invariant-loop-word
invariant-loop-word l = AreTimes l.c l.initial.word-items l.word-items l.word-index l.carry
