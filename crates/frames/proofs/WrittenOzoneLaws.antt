-- A reading of ozone in range is the one that its two bytes say, and each number says one reading:
-- FFFF says that there is none.
use Rattle.std.specs.Prelude.{Option, Some, None}
use Prim.Native.Nat.{ℕ, ◌≤◌, ◌<◌}
use mathlib.Core.Path.{◌≡◌, refl, sym}
use mathlib.Core.Bool.{Bool, true, false, cond}
use native.Mathlib.Omega.{arith}
use borrow.Author.Tests.{ne_eqb, eqb-true}
use lib.Dec.{eqb}
use Rattle.frames.specs.Ozone.{tenths_or}
use Rattle.frames.specs.Layout.{ozone_number, ozone_of}

pub ozone-back : (o : Option ℕ) → tenths_or 0 o ≤ 5000 → ozone_of (ozone_number o) ≡ o
ozone-back (Some n) h = simp (ne_eqb n 65535 (omega arith))
ozone-back None h = refl

pub ozone-number : (n : ℕ) → ozone_number (ozone_of n) ≡ n
ozone-number n = go (eqb n 65535) refl
  where
    go : (t : Bool) → eqb n 65535 ≡ t → ozone_number (cond t None (Some n)) ≡ n
    go true e = sym (eqb-true n 65535 e)
    go false e = refl

pub ozone-lt : (o : Option ℕ) → tenths_or 0 o ≤ 5000 → ozone_number o < 65536
ozone-lt (Some n) h = omega arith
ozone-lt None h = omega arith
