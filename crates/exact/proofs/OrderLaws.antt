-- Two numbers stand one way or the other, and a power of 10 is not 0.
use Prim.Native.Nat.{ℕ, ◌^◌, ◌≤◌, ◌<◌}
use mathlib.Core.Logic.{◌⊎◌, inl, inr}
use native.Mathlib.Decide.{dec_le}
use native.Mathlib.Nat.{one-le-pow, zero-lt-suc}
use native.Mathlib.Omega.{arith}

pub le-or-lt : (m n : ℕ) → (m ≤ n) ⊎ (n < m)
le-or-lt m n = elim (dec_le m n) [ yes p ↦ inl p | no q ↦ inr (omega arith) ]

pub ten-pos : (k : ℕ) → 0 < 10 ^ k
ten-pos k = one-le-pow k 10 (zero-lt-suc 9)
