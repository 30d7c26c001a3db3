-- A number times a fraction, rounded: the one s with s ≤ product < s + 1; by the digits of the
-- number; and near the product with a fraction that is a little smaller.
use Prim.Native.Nat.{ℕ, ◌+◌, ◌*◌, ◌/◌, ◌%◌, ◌≤◌, ◌<◌}
use mathlib.Core.Path.{◌≡◌, ap}
use native.Mathlib.Nat.{div-eq_of_lt-le, div-add-mod', add-mul-div_right, lt-div-mul-add}
use native.Mathlib.Nat.{mul-le-mul_right, mul-le-mul_left}
use native.Mathlib.Omega.{arith}
use Rattle.exact.specs.Frac.{Frac, natural, ◌over◌, ◌⊕◌, ◌⊗◌, ◌≼◌, ◌≺◌}
use Rattle.exact.specs.Rounding.{times_down, times_up}
use Rattle.exact.proofs.FracLaws.{≼_refl, ≼_trans, ⊕-high, ⊗-mono}
use Rattle.exact.proofs.RoundingLaws.{times_down-is, round_up-ceiling}

pub times_down-at :
    (m s : ℕ) (x : Frac) → 0 < m → s over m ≼ x → x ≺ (s + 1) over m → times_down m x ≡ s
times_down-at m s x m-pos low high = grind (arith, times_down-is, div-eq_of_lt-le)

-- ---- in two digits of base b: the higher one's quotient, then what it leaves with the lower one

module _ (n num den b more : ℕ) (den_pos : 0 < den) where
  abbrev high : ℕ
  high = n / b * num

  digits_sum : n * num + more ≡ high % den * b + n % b * num + more + high / den * b * den
  digits_sum =
      omega (arith, ap (λ t. t * num) (div-add-mod' n b), ap (λ t. t * b) (div-add-mod' high den))

  pub digits-is :
      high / den * b + (high % den * b + n % b * num + more) / den ≡ (n * num + more) / den
  digits-is =
      rw digits_sum
      (omega (
        arith,
        add-mul-div_right (high % den * b + n % b * num + more) (high / den * b) den_pos,
      ))

-- ---- the gap, where the fractions are w apart

module _ (l u c : ℕ) (x : Frac) (h : u ≤ l + c) (below : x ≼ natural 1) where
  product_le : natural u ⊗ x ≼ natural (times_down l x + 1 + c)
  product_le =
      let down = lt-div-mul-add {a = l * x.num} {b = x.den} x.positive in
      record {
        cross =
            rw (times_down-is l x)
            (omega (arith, down, mul-le-mul_right x.num h, mul-le-mul_left c below.cross));
      }

  pub times-near :
      (e : ℕ) (y w : Frac) → y ≼ x ⊕ w → natural u ⊗ w ≼ natural e →
      times_up u y ≤ times_down l x + (c + e + 1)
  unfolding times_up
  times-near e y w near small =
      let sum : times_down l x + 1 + c + e ≡ times_down l x + (c + e + 1) = omega arith in
      (round_up-ceiling (natural u ⊗ y)).least (times_down l x + (c + e + 1))
      (≼_trans (⊗-mono (≼_refl (natural u)) near)
      (≼_trans {y = natural u ⊗ x ⊕ natural u ⊗ w} (record { cross = omega arith })
      (rw sum at (⊕-high product_le small))))
