-- What hexadecimal digits say: below the power of 16 that their count gives.
use Prim.Native.Nat.{ℕ, zero, suc, ◌+◌, ◌*◌, ◌^◌, ◌<◌}
use mathlib.Core.Path.{◌≡◌}
use mathlib.Core.List.{List}
use native.Mathlib.Nat.{pow-suc, pow-le-pow_right}
use native.Mathlib.Numerals.{add-one}
use native.Mathlib.Omega.{arith}
use lib.ListN.{get_or}
use Rattle.frames.specs.Digits.{value_of}
use Rattle.frames.proofs.DigitLaws.{value-lt}
use Rattle.cases.specs.Digits.{hex_at}

pub hex_at-step :
    (n at : ℕ) (l : List ℕ) →
    hex_at (n + 1) at l ≡ hex_at n at l * 16 + value_of (get_or l (at + n) 0)
unfolding hex_at
hex_at-step n at l = rw add-one

pub hex_at-lt : (n at : ℕ) (l : List ℕ) → hex_at n at l < 16 ^ n
unfolding hex_at
hex_at-lt zero at l = omega arith
hex_at-lt (suc n) at l =
    rw (pow-suc 16 n) (omega (arith, hex_at-lt n at l, value-lt (get_or l (at + n) 0)))

-- fewer than 16 digits leave room for one more in 64 bits
pub hex_at-room : (n at : ℕ) (l : List ℕ) → n < 16 → hex_at n at l < 16 ^ 15
hex_at-room n at l h = omega (
  arith,
  hex_at-lt n at l,
  pow-le-pow_right {n = 16} (omega arith) {i = n} {j = 15} (omega arith),
)
