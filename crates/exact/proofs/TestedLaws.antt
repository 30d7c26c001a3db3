-- A test that passes at n numbers, one after another from the first on, passes at each of them.
use Prim.Native.Nat.{ℕ, zero, suc, ◌+◌, ◌≤◌, ◌<◌}
use mathlib.Core.Bool.{Bool, true, ◌&&◌}
use native.Mathlib.Omega.{arith}
use lib.Dec.{T}
use store.Enc.{and_l, and_r}

abbrev pub all_from : (ℕ → Bool) → ℕ → ℕ → Bool
all_from test first zero = true
all_from test first (suc n) = test first && all_from test (suc first) n

pub all_from-each :
    (test : ℕ → Bool) (first n : ℕ) → T (all_from test first n) → (x : ℕ) → first ≤ x →
    x < first + n → T (test x)
all_from-each test first zero h x p q = absurd (omega arith)
all_from-each test first (suc n) h x p q =
    grind (arith, and_l, and_r, (all_from-each test (suc first) n))
