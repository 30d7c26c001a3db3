-- `pod1::digits::number` meets its contract: the digits that are left say after the number held
-- what the word says.
use Prim.Native.Nat.{◌≤◌}
use mathlib.Core.Path.{◌≡◌}
use lib.ListN.{drop}
use Rattle.pod1.specs.Number.{greatest_number, said_after, number_of}
use Rattle.pod1.proofs.digits.number.Given as goal

abbrev pub invariant-loop-c : goal.invariant-loop-c
invariant-loop-c l =
    (l.held ≤ greatest_number) × (said_after l.held (drop l.c-index l.word) ≡ number_of l.word)
