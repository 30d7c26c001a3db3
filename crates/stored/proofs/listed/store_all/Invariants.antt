-- `stored::listed::store_all`: the accounts below i are stored.
use lib.ListN.{take}
use Rattle.stored.specs.steps.Listed.{StoresAll}
use Rattle.stored.proofs.listed.store_all.Given as goal

abbrev pub invariant-loop-i : goal.invariant-loop-i
invariant-loop-i l = StoresAll (take l.i l.accounts) l.initial.bytes l.bytes
