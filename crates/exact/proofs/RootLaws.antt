-- `greatest` passes the test and nothing greater does; where a rising f t is held to r, it is the
-- one t with f t ≤ r < f (t + 1).
use Prim.Native.Nat.{ℕ, zero, suc, ◌+◌, ◌≤◌, ◌<◌, zero-le}
use mathlib.Core.Bool.{Bool}
use native.Mathlib.Nat.{eq-or-lt_of_le}
use native.Mathlib.Omega.{arith}
use Rattle.std.proofs.lemmas.Bool.Decides.{nat_tests}
use lib.Dec.{T, leb, leb→le, le→leb}
use Rattle.exact.specs.Root.{greatest}

greatest-passes : (test : ℕ → Bool) → T (test zero) → (n : ℕ) → T (test (greatest test n))
unfolding greatest
greatest-passes test z zero = z
greatest-passes test z (suc n) = grind (arith, nat_tests, (greatest-passes test z n))

greatest-le : (test : ℕ → Bool) (n : ℕ) → greatest test n ≤ n
unfolding greatest
greatest-le test zero = zero-le
greatest-le test (suc n) = grind (arith, (greatest-le test n))

greatest-above : (test : ℕ → Bool) (n t : ℕ) → greatest test n < t → t ≤ n → T (test t) → ⊥
unfolding greatest
greatest-above test zero t l b p = omega arith
greatest-above test (suc n) t l b p = grind (arith, eq-or-lt_of_le, (greatest-above test n t))

-- what is held to r passes where f t ≤ r; f t is never below t, so no t above r passes
module _ (f : ℕ → ℕ) (r : ℕ) where
  pub greatest-under : f zero ≤ r → f (greatest (λ t. leb (f t) r) r) ≤ r
  greatest-under z = leb→le _ r (greatest-passes (λ t. leb (f t) r) (le→leb (f zero) r z) r)

  pub greatest-over : ((t : ℕ) → t ≤ f t) → r < f (greatest (λ t. leb (f t) r) r + 1)
  greatest-over up =
      let g : ℕ = greatest (λ t. leb (f t) r) r in
      grind (
        arith,
        nat_tests,
        greatest-above (λ t. leb (f t) r) r (g + 1),
        up (g + 1),
        greatest-le (λ t. leb (f t) r) r,
      )
