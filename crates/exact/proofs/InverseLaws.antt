-- 1 divided by a fraction turns the order round and keeps products.
use Prim.Native.Nat.{◌<◌}
use native.Mathlib.Nat.{mul-pos, mul-le-mul_left}
use native.Mathlib.Omega.{arith}
use Rattle.exact.specs.Frac.{Frac, ◌⊗◌, ◌≼◌, ◌≈◌, inverse}

pub inverse-anti : {x y : Frac} → 0 < x.num → x ≼ y → inverse y ≼ inverse x
inverse-anti {x} {y} x_pos h = grind (arith, mul-le-mul_left)

pub inverse-⊗ : (x y : Frac) → 0 < x.num → 0 < y.num → inverse (x ⊗ y) ≈ inverse x ⊗ inverse y
inverse-⊗ x y x_pos y-pos = grind (arith, mul-pos)
