-- `cases::digits::number` is what n digits say: after i of them, the number that they say.
use Prim.Native.Nat.{◌-◌, ◌≤◌}
use mathlib.Core.Path.{◌≡◌}
use Rattle.cases.specs.Digits.{hex_at}
use Rattle.cases.proofs.digits.number.Given as goal

abbrev pub invariant-loop-i : goal.invariant-loop-i
invariant-loop-i l = (l.i ≤ l.n) × (l.said ≡ hex_at l.i l.at l.line)

abbrev pub decreases-loop-i : goal.decreases-loop-i
decreases-loop-i l = l.n - l.i
