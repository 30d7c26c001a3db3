-- Rounded up is the least whole number not below, rounded down the greatest not above; a number
-- times a fraction, so rounded, encloses the product and stays close to it.
use Prim.Native.Nat.{ℕ, ◌+◌, ◌-◌, ◌*◌, ◌/◌, ◌≤◌, ◌<◌, max}
use mathlib.Core.Path.{◌≡◌, ap}
use native.Mathlib.Nat.{
  le_refl,
  le_trans,
  le_antisymm,
  one-mul,
  mul-le-mul_left,
  mul-le-mul_right,
  mul-pos,
  div-mul-le_self,
  lt-div-mul-add,
  lt_of_mul-lt-mul_right,
}
use native.Mathlib.Omega.{arith}
use Rattle.exact.specs.Frac.{Frac, natural, ◌over◌, ◌⊕◌, ◌⊗◌, ◌≼◌, ◌≈◌}
use Rattle.exact.specs.Rounding.{round_up, round_down, IsCeiling, IsFloor, times_up, times_down}
use Rattle.exact.proofs.FracLaws.{≼_refl, ≼_trans, ≈-le, ≈-ge, ⊗-mono}

module _ (x : Frac) where
  round_up-ge : x.num ≤ round_up x * x.den
  unfolding round_up
  round_up-ge = omega (arith, x.positive, lt-div-mul-add {a = x.num + (x.den - 1)} x.positive)

  round_up-lt : round_up x * x.den < x.num + x.den
  unfolding round_up
  round_up-lt = omega (arith, x.positive, div-mul-le_self (x.num + (x.den - 1)) x.den)

  round_down-le : round_down x * x.den ≤ x.num
  unfolding round_down
  round_down-le = div-mul-le_self x.num x.den

  round_down-gt : x.num < round_down x * x.den + x.den
  unfolding round_down
  round_down-gt = lt-div-mul-add {a = x.num} x.positive

  pub round_up-ceiling : IsCeiling x (round_up x)
  round_up-ceiling = grind (arith, round_up-ge, lt_of_mul-lt-mul_right, round_up-lt)

  pub round_down-floor : IsFloor x (round_down x)
  round_down-floor = grind (arith, round_down-le, lt_of_mul-lt-mul_right, round_down-gt)

-- ---- a greater fraction

round_down-mono : {x y : Frac} → x ≼ y → round_down x ≤ round_down y
round_down-mono {x} {y} h =
    (round_down-floor y).greatest (round_down x) (≼_trans (round_down-floor x).not_above h)

round_up-mono : {x y : Frac} → x ≼ y → round_up x ≤ round_up y
round_up-mono {x} {y} h =
    (round_up-ceiling x).least (round_up y) (≼_trans h (round_up-ceiling y).not_below)

module _ {x y : Frac} (same : x ≈ y) where
  pub round_down-same : round_down x ≡ round_down y
  round_down-same = le_antisymm (round_down-mono (≈-le same)) (round_down-mono (≈-ge same))

  pub round_up-same : round_up x ≡ round_up y
  round_up-same = le_antisymm (round_up-mono (≈-le same)) (round_up-mono (≈-ge same))

-- ---- a fraction rounded down and one rounded up

module _ (x y : Frac) where
  round-order : x ≼ y → round_down x ≤ round_up y
  round-order h =
      let l = ≼_trans (round_down-floor x).not_above (≼_trans h (round_up-ceiling y).not_below) in
      omega (arith, l.cross)

  round-gap : (c : ℕ) → y ≼ x ⊕ natural c → round_up y ≤ round_down x + (c + 1)
  round-gap c h =
      let less : round_up y < round_down x + (c + 2) =
      lt_of_mul-lt-mul_right (x.den * y.den)
      (omega (
        arith,
        h.cross,
        mul-le-mul_right x.den (round_up-lt y),
        mul-le-mul_right y.den (round_down-gt x),
        mul-pos x.positive y.positive,
      )) in
      omega arith

-- the same fraction: one more where a rest is left
module _ (x : Frac) where
  pub round_whole : round_down x * x.den ≡ x.num → round_up x ≡ round_down x
  round_whole e =
      le_antisymm ((round_up-ceiling x).least (round_down x) (record { cross = omega (arith, e) }))
      (round-order x x (≼_refl x))

  pub round-rest : round_down x * x.den < x.num → round_up x ≡ round_down x + 1
  round-rest rest =
      let less : round_down x < round_up x =
      lt_of_mul-lt-mul_right x.den (omega (arith, rest, round_up-ge x)) in
      le_antisymm (round-gap x x 0 (record { cross = omega arith })) (omega (arith, less))

-- two numbers over one divisor
module _ (l u d : ℕ) where
  pub over-order : l ≤ u → round_down (l over d) ≤ round_up (u over d)
  over-order h = round-order (l over d) (u over d) (record { cross = mul-le-mul_right (max 1 d) h })

  pub over-gap :
      (c : ℕ) → u ≤ l + c * max 1 d → round_up (u over d) ≤ round_down (l over d) + (c + 1)
  over-gap c h =
      round-gap (l over d) (u over d) c
      (record { cross = omega (arith, mul-le-mul_right (max 1 d) h) })

-- ---- a number of a scale times a fraction

module _ (n : ℕ) (x : Frac) where
  pub times_down-is : times_down n x ≡ n * x.num / x.den
  unfolding times_down round_down
  times_down-is = rw (one-mul x.den)

  pub times_up-is : times_up n x ≡ (n * x.num + (x.den - 1)) / x.den
  unfolding times_up round_up
  times_up-is = rw (one-mul x.den)

module _ (n m : ℕ) (x : Frac) {y z : Frac} where
  pub times_down_lem : n over m ≼ y → x ≼ z → times_down n x over m ≼ y ⊗ z
  unfolding times_down
  times_down_lem h k =
      ≼_trans {y = n over m ⊗ x}
      (record { cross = omega (arith, mul-le-mul_right (max 1 m) (round_down-le (natural n ⊗ x))) })
      (⊗-mono h k)

  pub times-up : y ≼ n over m → z ≼ x → y ⊗ z ≼ times_up n x over m
  unfolding times_up
  times-up h k =
      ≼_trans {y = n over m ⊗ x} (⊗-mono h k)
      (record { cross = omega (arith, mul-le-mul_right (max 1 m) (round_up-ge (natural n ⊗ x))) })

module _ (l u : ℕ) (x : Frac) where
  pub times-order : l ≤ u → times_down l x ≤ times_up u x
  unfolding times_down times_up
  times-order h =
      round-order (natural l ⊗ x) (natural u ⊗ x)
      (record { cross = omega (arith, mul-le-mul_right (x.num * x.den) h) })

  pub times-gap : (c : ℕ) → x ≼ natural 1 → u ≤ l + c → times_up u x ≤ times_down l x + (c + 1)
  unfolding times_down times_up
  times-gap c below h =
      round-gap (natural l ⊗ x) (natural u ⊗ x) c
      (record {
        cross = omega (
          arith,
          mul-le-mul_right (x.num * x.den) h,
          mul-le-mul_left (c * x.den) below.cross,
        );
      })

module _ (n : ℕ) {x : Frac} (below : x ≼ natural 1) where
  pub times_up-le : times_up n x ≤ n
  unfolding times_up
  times_up-le =
      (round_up-ceiling (natural n ⊗ x)).least n
      (record { cross = omega (arith, mul-le-mul_left n below.cross) })

  pub times_down-le : times_down n x ≤ n
  times_down-le = le_trans (times-order n n x (le_refl n)) times_up-le

-- all of a scale: within it, and within one of it
module _ (m : ℕ) (x : Frac) where
  module _ (pos : 0 < m) where
    is : max 1 m ≡ m
    is = omega arith

    pub times_down-under : times_down m x over m ≼ x
    unfolding times_down
    times_down-under = record { cross = rw is (omega (arith, round_down-le (natural m ⊗ x))) }

    pub times_down-next : x ≼ (times_down m x + 1) over m
    unfolding times_down
    times_down-next = record { cross = rw is (omega (arith, round_down-gt (natural m ⊗ x))) }

    pub times_up-over : x ≼ times_up m x over m
    unfolding times_up
    times_up-over = record { cross = rw is (omega (arith, round_up-ge (natural m ⊗ x))) }

  pub times-next : times_up m x ≤ times_down m x + 1
  unfolding times_down times_up
  times-next = round-gap (natural m ⊗ x) (natural m ⊗ x) 0 (record { cross = omega arith })

  pub times_up-most : (n : ℕ) → x ≼ natural n → times_up m x ≤ m * n
  unfolding times_up
  times_up-most n h =
      (round_up-ceiling (natural m ⊗ x)).least (m * n)
      (record { cross = omega (arith, mul-le-mul_left m h.cross) })

module _ (m : ℕ) {x y : Frac} (h : x ≼ y) where
  pub times_down-mono : times_down m x ≤ times_down m y
  unfolding times_down
  times_down-mono = round_down-mono (⊗-mono (≼_refl (natural m)) h)

  pub times_up-mono : times_up m x ≤ times_up m y
  unfolding times_up
  times_up-mono = round_up-mono (⊗-mono (≼_refl (natural m)) h)

-- ---- the product of two numbers of scales s and t, in the scale r

module _ (a b s t r e : ℕ) (scales : max 1 s * max 1 t ≡ max 1 e * max 1 r) where
  abbrev n : Frac
  n = (a * b) over e

  scaled : (q : ℕ) → q * (max 1 s * max 1 t) ≡ q * (max 1 e * max 1 r)
  scaled q = ap (λ (c : ℕ). q * c) scales

  pub product-down : round_down ((a * b) over e) over r ≼ a over s ⊗ b over t
  product-down = record {
    cross = omega (arith, scaled (round_down n), mul-le-mul_right (max 1 r) (round_down-le n));
  }

  pub product-up : a over s ⊗ b over t ≼ round_up ((a * b) over e) over r
  product-up = record {
    cross = omega (arith, scaled (round_up n), mul-le-mul_right (max 1 r) (round_up-ge n));
  }
