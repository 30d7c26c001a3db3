-- The straight line is the same in finer steps, and e of its s steps are at most e/s of what it
-- falls by.
use Prim.Native.Nat.{ℕ, ◌+◌, ◌-◌, ◌*◌, ◌≤◌, ◌<◌, max}
use mathlib.Core.Path.{◌≡◌, ap}
use mathlib.Core.Logic.{⊎_elim}
use native.Mathlib.Nat.{le_of_lt, sub-add_cancel, mul-pos, mul-le-mul_right}
use native.Mathlib.Nat.{mul-lt-mul_of_pos_right}
use native.Mathlib.Omega.{arith}
use Rattle.exact.specs.Frac.{Frac, ◌over◌, ◌⊕◌, ◌≼◌, ◌≈◌, straight}
use Rattle.exact.proofs.OrderLaws.{le-or-lt}
use Rattle.exact.proofs.FracLaws.{over-same, straight-along, straight-end}

module _ (from to d s c : ℕ) (c_pos : 0 < c) where
  scale-end : s ≤ d → straight from to (d * c) (s * c) ≈ straight from to d s
  scale-end h =
      rw (straight-end from to (d * c) (s * c) (mul-le-mul_right c h), straight-end from to d s h)
      (omega arith)

  scale-along : d < s → straight from to (d * c) (s * c) ≈ straight from to d s
  scale-along h =
      let left : s * c - d * c ≡ (s - d) * c =
      omega (arith, ap (λ t. t * c) (sub-add_cancel (le_of_lt h))) in
      rw (
        straight-along from to (d * c) (s * c) (mul-lt-mul_of_pos_right h c_pos),
        straight-along from to d s h,
        left,
      )
      (over-same (omega (arith, mul-pos {m = s} {n = c} (omega arith) c_pos))
      (omega arith) (omega arith))

  pub straight-scale : straight from to (d * c) (s * c) ≈ straight from to d s
  straight-scale = ⊎_elim scale-end scale-along (le-or-lt s d)

-- ---- e steps on

-- m steps are left of s
end-le : (to g d e m s : ℕ) → m + d ≡ s → m ≤ e → m * (to + g) + d * to ≤ to * s + e * g
end-le to g d e m s sum h = omega (arith, ap (λ t. to * t) sum, mul-le-mul_right g h)

-- the line falls by g to its end
module _ (to g d e s : ℕ) (s-pos : 0 < s) where
  abbrev fall : Frac
  fall = (e * g) over (100 * s)

  is : max 1 (100 * s) ≡ 100 * s
  is = omega arith

  near-past : s ≤ d → straight (to + g) to d s ≼ straight (to + g) to (d + e) s ⊕ fall
  near-past h =
      rw (straight-end (to + g) to d s h, straight-end (to + g) to (d + e) s (omega arith))
      (record { cross = rw is (omega arith) })

  near-end : d < s → s ≤ d + e → straight (to + g) to d s ≼ straight (to + g) to (d + e) s ⊕ fall
  near-end h k =
      rw (straight-along (to + g) to d s h, straight-end (to + g) to (d + e) s k)
      (record {
        cross =
            rw is
            (omega (
              arith,
              mul-le-mul_right (10000 * s) (end-le to g d e (s - d) s (omega arith) (omega arith)),
            ));
      })

  near-along : d + e < s → straight (to + g) to d s ≼ straight (to + g) to (d + e) s ⊕ fall
  near-along h =
      let left : s - d ≡ s - (d + e) + e = omega arith in
      rw (straight-along (to + g) to d s (omega arith), straight-along (to + g) to (d + e) s h)
      (record { cross = rw (is, left) (omega arith) })

  pub straight-near :
      straight (to + g) to d s ≼ straight (to + g) to (d + e) s ⊕ (e * g) over (100 * s)
  straight-near =
      ⊎_elim near-past (λ h. ⊎_elim (near-end h) near-along (le-or-lt s (d + e))) (le-or-lt s d)
