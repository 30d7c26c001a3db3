-- `least` passes the test where any number up to its bound does, and nothing smaller passes.
use mathlib.Core.Bool.{Bool}
use Prim.Native.Nat.{ℕ, zero, suc, ◌≤◌, zero-le}
use native.Mathlib.Nat.{eq-or-lt_of_le, le_refl}
use native.Mathlib.Omega.{arith}
use Rattle.std.proofs.lemmas.Bool.Decides.{nat_tests}
use lib.Dec.{T, leb, leb→le, le→leb}
use Rattle.exact.specs.Root.{least}

module _ (test : ℕ → Bool) where
  least-le : (n : ℕ) → least test n ≤ n
  unfolding least
  least-le zero = zero-le
  least-le (suc n) = grind (arith, (least-le n))

  pub least-passes : (n t : ℕ) → t ≤ n → T (test t) → T (test (least test n))
  unfolding least
  least-passes zero t h p = grind (arith, nat_tests)
  least-passes (suc n) t h p = grind (arith, nat_tests, eq-or-lt_of_le, (least-passes n t))

  least_first : (n t : ℕ) → t ≤ n → T (test t) → least test n ≤ t
  unfolding least
  least_first zero t h p = zero-le
  least_first (suc n) t h p =
      grind (arith, nat_tests, eq-or-lt_of_le, (least-passes n t), (least-le n), (least_first n t))

  pub least_under : (n t : ℕ) → T (test t) → least test n ≤ t
  least_under n t p = grind (arith, least_first, least-le)

-- what is to reach r passes where r ≤ f t
module _ (f : ℕ → ℕ) (r n : ℕ) where
  pub least-reaches : r ≤ f n → r ≤ f (least (λ t. leb r (f t)) n)
  least-reaches h = leb→le r _ (least-passes (λ t. leb r (f t)) n n (le_refl n) (le→leb r (f n) h))

  pub reaches-least : (t : ℕ) → r ≤ f t → least (λ u. leb r (f u)) n ≤ t
  reaches-least t h = least_under (λ u. leb r (f u)) n t (le→leb r (f t) h)
