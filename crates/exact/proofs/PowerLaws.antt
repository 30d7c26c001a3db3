-- Powers: to a product, of 0, against the number itself, and back to the number.
use Prim.Native.Nat.{ℕ, zero, suc, ◌*◌, ◌^◌, ◌≤◌, ◌<◌, zero-le}
use mathlib.Core.Path.{◌≡◌, ◌∙◌}
use native.Mathlib.Numerals.{unary_clauses}
use native.Mathlib.Omega.{arith}
use lib.Pow.{pow-add}
use native.Mathlib.Nat.{not-suc-le-zero, le-mul_of_pos_right, mul-suc, mul-zero, pow-suc, pow-succ'}
use native.Mathlib.Nat.{pow-lt-pow_left, one-le-pow}

pub pow-mul : (a j q : ℕ) → a ^ (j * q) ≡ (a ^ j) ^ q
pow-mul a j zero = simp unary_clauses
pow-mul a j (suc q) = simp (mul-suc, pow-add, pow-suc, (pow-mul a j q))

pub zero-pow : (q : ℕ) → zero < q → zero ^ q ≡ zero
zero-pow zero h = absurd (not-suc-le-zero h)
zero-pow (suc q) h = pow-suc zero q ∙ mul-zero (zero ^ q)

pub le-pow : (t q : ℕ) → zero < q → t ≤ t ^ q
le-pow zero q h = zero-le
le-pow (suc t) zero h = absurd (not-suc-le-zero h)
le-pow (suc t) (suc q) h = grind (arith, pow-succ', le-mul_of_pos_right, one-le-pow)

pub pow-le-inv : {a b : ℕ} (q : ℕ) → zero < q → a ^ q ≤ b ^ q → a ≤ b
pow-le-inv {a} {b} q h l = grind (arith, pow-lt-pow_left {a = b} {b = a} {n = q})
