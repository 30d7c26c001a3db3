-- How large the quotients are, and how near: a concentration 1 unit more, a share 5 units more and
-- a root 1 unit less add at most 1; where f_VPD is steep, a share 51 units more adds at most 5.
use Prim.Native.Nat.{ℕ, ◌+◌, ◌*◌, ◌≤◌, ◌<◌}
use mathlib.Core.Bool.{Bool, true, false}
use native.Mathlib.Nat.{mul-le-mul, mul-le-mul_left, mul-le-mul_right, lt_of_mul-lt-mul_right}
use native.Mathlib.Nat.{le_of_mul-le-mul_right, div-mul-le_self, lt-div-mul-add}
use native.Mathlib.Omega.{arith}
use Rattle.dose_spec.specs.Pair.{dividend, resisted, divisor, quotient, most_concentration}
use Rattle.dose_spec.proofs.BudgetLaws.{near_in, top_in, step_in}

divisor-ge : (g p s m : ℕ) → 2050000000000 ≤ divisor g p s m
unfolding divisor
divisor-ge g p s m = omega arith

module _ (g c p s m : ℕ) where
  pub quotient_le : quotient g c p s m * divisor g p s m ≤ dividend g c p
  unfolding quotient
  quotient_le = omega (arith, div-mul-le_self (dividend g c p) (divisor g p s m))

  pub quotient-lt : dividend g c p < quotient g c p s m * divisor g p s m + divisor g p s m
  unfolding quotient
  quotient-lt = omega (
    arith,
    lt-div-mul-add {a = dividend g c p} {b = divisor g p s m} (omega (arith, divisor-ge g p s m)),
  )

-- ---- a greater concentration

dividend-mono : (g p : ℕ) {b c : ℕ} → b ≤ c → dividend g b p ≤ dividend g c p
unfolding dividend
dividend-mono g p h = mul-le-mul_right (g * p) h

pub quotient-mono : (g p s m : ℕ) {b c : ℕ} → b ≤ c → quotient g b p s m ≤ quotient g c p s m
quotient-mono g p s m {b} {c} h =
    let less : quotient g b p s m < quotient g c p s m + 1 =
    lt_of_mul-lt-mul_right (divisor g p s m)
    (omega (arith, quotient_le g b p s m, quotient-lt g c p s m, dividend-mono g p h)) in
    omega (arith, less)

-- ---- for a concentration up to `top` and a share of 1 and 3 units at most

dividend-le : (top g c p : ℕ) → c ≤ top → p ≤ 10000003 → dividend g c p ≤ top * 10000003 * g
unfolding dividend
dividend-le top g c p k l = omega (arith, mul-le-mul_left g (mul-le-mul k l))

pub quotient-most :
    (top each g c p s m : ℕ) → top * 10000003 ≤ each * 2050000000000 → c ≤ top → p ≤ 10000003 →
    quotient g c p s m ≤ each * g
quotient-most top each g c p s m room k l =
    le_of_mul-le-mul_right {k = 2050000000000}
    (omega (
      arith,
      quotient_le g c p s m,
      mul-le-mul_left (quotient g c p s m) (divisor-ge g p s m),
      dividend-le top g c p k l,
      mul-le-mul_right g room,
    ))
    (omega arith)

-- for any concentration in range
quotient-small :
    (g c p s m : ℕ) → c ≤ most_concentration → p ≤ 10000003 → quotient g c p s m ≤ 2603 * g
quotient-small g c p s m k l =
    quotient-most most_concentration 2603 g c p s m (omega arith) k l

product_le : (g p : ℕ) → g ≤ 500 → p ≤ 10000003 → g * p ≤ 5000001500
product_le g p h k = omega (arith, mul-le-mul h k)

top_in-le : (steep : Bool) → top_in steep ≤ most_concentration
top_in-le steep = grind arith

-- most_concentration·500·5, or 374040000·500·51, for the share and 5000001500 for the concentration
abbrev room_in : Bool → ℕ
room_in true = 9543020001500
room_in false = 1338980001500

dividend-gap :
    (steep : Bool) (g b c p q : ℕ) → g ≤ 500 → c ≤ top_in steep → c ≤ b + 1 →
    q ≤ p + near_in steep → p ≤ 10000003 → dividend g c q ≤ dividend g b p + room_in steep
unfolding dividend
dividend-gap true g b c p q h j k l m =
    omega (
      arith,
      mul-le-mul_left (c * g) l,
      mul-le-mul_right (g * p) k,
      mul-le-mul j h,
      product_le g p h m,
    )
dividend-gap false g b c p q h j k l m =
    omega (
      arith,
      mul-le-mul_left (c * g) l,
      mul-le-mul_right (g * p) k,
      mul-le-mul j h,
      product_le g p h m,
    )

resisted-gap :
    (g p q s t : ℕ) → g ≤ 500 → p ≤ q → q ≤ 10000003 → t ≤ s + 1 →
    resisted g p t ≤ resisted g q s + 201396058500
unfolding resisted
resisted-gap g p q s t h k l m =
    omega (arith, mul-le-mul m (mul-le-mul_left g k), product_le g q h l)

divisor-gap :
    (g p q s t : ℕ) → g ≤ 500 → p ≤ q → q ≤ 10000003 → t ≤ s + 1 →
    divisor g p t 1 ≤ divisor g q s 0 + 503492
unfolding divisor
divisor-gap g p q s t h k l m = omega (arith, resisted-gap g p q s t h k l m)

-- the room between the dividends, and between the divisors as often as the quotient has them, is at
-- most m divisors
apart :
    (a b d e q r x y m : ℕ) → q * d ≤ b → a < r * e + e → b ≤ a + x → e ≤ d + y →
    x + (r + 1) * y ≤ m * d → q ≤ r + m
apart a b d e q r x y m hq hr hb he room =
    let less : q < r + m + 1 =
    lt_of_mul-lt-mul_right d (omega (arith, mul-le-mul_left (r + 1) he)) in
    omega (arith, less)

room-le :
    (steep : Bool) (r d : ℕ) → r ≤ 1301500 → 2050000000000 ≤ d →
    room_in steep + (r + 1) * 503492 ≤ step_in steep * d
room-le steep r d h k = grind arith

module _ (steep : Bool) (g c q s : ℕ) (g-le : g ≤ 500) (c-le : c ≤ top_in steep)
    (q-le : q ≤ 10000003) where
  module _ (b p t : ℕ) (thick : c ≤ b + 1) (b-le : b ≤ c) (order : p ≤ q)
      (near : q ≤ p + near_in steep) (root : t ≤ s + 1) where
    few : quotient g b p t 1 ≤ 1301500
    few = omega (arith, quotient-small g b p t 1 (omega (arith, top_in-le steep)) (omega arith))

    pub quotient-near : quotient g c q s 0 ≤ quotient g b p t 1 + step_in steep
    quotient-near =
        apart (dividend g b p) (dividend g c q) (divisor g q s 0) (divisor g p t 1)
        (quotient g c q s 0) (quotient g b p t 1) (room_in steep) 503492 (step_in steep)
        (quotient_le g c q s 0) (quotient-lt g b p t 1)
        (dividend-gap steep g b c p q g-le c-le thick near (omega arith))
        (divisor-gap g p q s t g-le order q-le root)
        (room-le steep (quotient g b p t 1) (divisor g q s 0) few (divisor-ge g q s 0))
