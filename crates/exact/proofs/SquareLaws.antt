-- Squares keep the order both ways, and the square root of n, rounded down, is the one r with
-- r² ≤ n < (r + 1)².
use mathlib.Core.Path.{◌≡◌}
use Prim.Native.Nat.{ℕ, zero, suc, ◌+◌, ◌*◌, ◌≤◌, ◌<◌, zero-le}
use native.Mathlib.Nat.{lt_of_mul-lt-mul_right, le-mul_of_pos_right, zero-lt-suc}
use native.Mathlib.Omega.{arith}
use Rattle.exact.specs.Root.{square_root}
use Rattle.exact.proofs.RootLaws.{greatest-under, greatest-over}

pub square-lt : {a b : ℕ} → a * a < b * b → a < b
square-lt {a} {b} h = lt_of_mul-lt-mul_right (a + b) (omega arith)

pub square_le : {a b : ℕ} → a * a ≤ b * b → a ≤ b
square_le {a} {b} h = grind (arith, square-lt)

square-pos : (n r : ℕ) → n < r * r → 1 ≤ r
square-pos n zero h = absurd (omega arith)
square-pos n (suc r) h = omega arith

up : (t : ℕ) → t ≤ t * t
up zero = zero-le
up (suc t) = le-mul_of_pos_right (suc t) (zero-lt-suc t)

pub square_root-under : (n : ℕ) → square_root n * square_root n ≤ n
unfolding square_root
square_root-under n = greatest-under (λ t. t * t) n (omega arith)

pub square_root-over : (n : ℕ) → n < (square_root n + 1) * (square_root n + 1)
unfolding square_root
square_root-over n = greatest-over (λ t. t * t) n up

pub square_root-is : (n r : ℕ) → r * r ≤ n → n < (r + 1) * (r + 1) → r ≡ square_root n
square_root-is n r h k =
    let l : r < square_root n + 1 = square-lt (omega (arith, square_root-over n)) in
    let m : square_root n < r + 1 = square-lt (omega (arith, square_root-under n)) in
    omega arith
