-- A temperature's degrees, out of its two bytes, and row 5 of a number that is not 7.
use Prim.Native.Nat.{ℕ}
use mathlib.Core.Path.{◌≡◌}
use mathlib.Core.Logic.{◌≢◌, ⊎_elim}
use native.Mathlib.Omega.{arith}
use borrow.Author.Tests.{lt-ltb, le-ltb}
use Rattle.trees.specs.Figures.{tree_row}
use Rattle.exact.proofs.OrderLaws.{le-or-lt}
use Rattle.trees.specs.MeasuredFigures.{number_row}

pub number-row-is : (t : ℕ) → t ≢ 7 → tree_row t ≡ number_row t
number-row-is t other =
    ⊎_elim (λ h. rw (le-ltb 6 t h, le-ltb 7 t (omega arith)))
    (λ h. rw (lt-ltb 6 t h, lt-ltb 7 t (omega arith))) (le-or-lt t 6)
