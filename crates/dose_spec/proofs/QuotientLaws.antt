-- The quotient and one more, each less 3600·Y, enclose the hour's dose between the bounds of its
-- concentration, of its share and of its root.
use Rattle.std.proofs.lemmas.Bool.Decides.{nat_tests}
use mathlib.Core.Path.{◌≡◌, ap}
use Prim.Native.Nat.{ℕ, zero, suc, ◌+◌, ◌-◌, ◌*◌, ◌^◌, ◌≤◌, ◌<◌}
use native.Mathlib.Nat.{mul-le-mul_left, mul-le-mul_right, le_of_mul-le-mul_left}
use native.Mathlib.Nat.{le_of_mul-le-mul_right}
use native.Mathlib.Omega.{arith}
use lib.Dec.{lit<}
use Rattle.exact.specs.Frac.{Frac, natural, ◌over◌, ◌≼◌}
use Rattle.exact.proofs.FracLaws.{≼_refl, ≼_trans, over-mono}
use Rattle.dose_spec.specs.Pair.{dividend, resisted, divisor, quotient}
use Rattle.dose_spec.proofs.FluxLaws.{denominator, shared_flux, shared_dose, flux-num, flux-den}
use Rattle.dose_spec.proofs.FluxLaws.{dose-num, dose-den, flux-mono}
use Rattle.dose_spec.proofs.QuotientSizes.{quotient_le, quotient-lt}

-- ---- F at c/18000, p/10⁷ and s/10⁷

-- the divisor, not rounded, in units of 1/400000
unfoldable whole : ℕ → ℕ → ℕ → ℕ
whole g p s = 820000000000000000 + resisted g p s

whole_pos : (g p s : ℕ) → 0 < whole g p s
unfolding whole
whole_pos g p s = omega arith

module _ (g c p s : ℕ) where
  at-num :
      (shared_flux g (c over 18000) (p over 10 ^ 7) (s over 10 ^ 7)).num
      ≡ 41000000000000000000 * (1000 * dividend g c p)
  unfolding dividend
  at-num = omega (arith, flux-num g (c over 18000) (p over 10 ^ 7) (s over 10 ^ 7))

  at-whole : denominator g p (10 ^ 7) s (10 ^ 7) ≡ 50000 * whole g p s
  unfolding denominator whole resisted
  at-whole = omega arith

  at-den :
      (shared_flux g (c over 18000) (p over 10 ^ 7) (s over 10 ^ 7)).den
      ≡ 41000000000000000000 * (9 * whole g p s)
  at-den = omega (arith, flux-den g (c over 18000) (p over 10 ^ 7) (s over 10 ^ 7), at-whole)

divisor-up : (g p s : ℕ) → whole g p s ≤ 400000 * divisor g p s 1
unfolding whole divisor
divisor-up g p s = omega arith

divisor-down : (g p s : ℕ) → 400000 * divisor g p s 0 ≤ whole g p s
unfolding whole divisor
divisor-down g p s = omega arith

-- n/d is F at those, or bounds it; w is a common factor of the terms x and y of that F
cross :
    (w a b n d x y : ℕ) → 0 < w → x ≡ w * (1000 * a) → y ≡ w * (9 * b) →
    (x * d ≤ n * y → 1000 * a * d ≤ 9 * n * b) × (n * y ≤ x * d → 9 * n * b ≤ 1000 * a * d)
cross w a b n d x y p e f =
    let top : x * d ≡ w * (1000 * a) * d = ap (λ (z : ℕ). z * d) e in
    let bottom : n * y ≡ n * (w * (9 * b)) = ap (λ (z : ℕ). n * z) f in (
      λ h. le_of_mul-le-mul_left {k = w} (omega (arith, top, bottom, h)) p,
      λ h. le_of_mul-le-mul_left {k = w} (omega (arith, top, bottom, h)) p,
    )

-- ---- rounding: q is a divided by m

below :
    (q a m b n d : ℕ) → 0 < b → q * m ≤ a → b ≤ 400000 * m →
    1000 * a * d ≤ 9 * n * b → q * d ≤ 3600 * n
below q a m b n d p h up k =
    let l : q * b ≤ 400000 * a = omega (arith, mul-le-mul_left q up) in
    le_of_mul-le-mul_right {k = b} (omega (arith, mul-le-mul_right d l)) p

above :
    (q a m b n d : ℕ) → 0 < b → a < q * m + m → 400000 * m ≤ b → 9 * n * b ≤ 1000 * a * d →
    3600 * n ≤ (q + 1) * d
above q a m b n d p h down k =
    let l : 400000 * a ≤ (q + 1) * b = omega (arith, mul-le-mul_left (q + 1) down) in
    le_of_mul-le-mul_right {k = b} (omega (arith, mul-le-mul_right d l)) p

-- u is at most, or at least, what 3600·Y leaves of q

less-below : (u y q n d : ℕ) → u ≤ q - 3600 * y → q * d ≤ 3600 * n → u * d ≤ 3600 * (n - y * d)
less-below zero y q n d e h = omega arith
less-below (suc u) y q n d e h =
    let l : suc u + 3600 * y ≤ q = omega arith in
    omega (arith, mul-le-mul_right d l)

less-above : (u y q n d : ℕ) → q ≤ u + 3600 * y → 3600 * n ≤ q * d → 3600 * (n - y * d) ≤ u * d
less-above u y q n d e h = omega (arith, mul-le-mul_right d e)

-- ---- the enclosure: each side needs one bound of the concentration, of the share and of the root

module _ (g c p s : ℕ) (z x r : Frac) where
  abbrev n : ℕ
  n = (shared_flux g z x r).num

  abbrev d : ℕ
  d = (shared_flux g z x r).den

  module _ (thin : c over 18000 ≼ z) (narrow : p over 10 ^ 7 ≼ x) (wide : r ≼ s over 10 ^ 7) where
    quotient-below : quotient g c p s 1 * d ≤ 3600 * n
    quotient-below =
        let f : 1000 * dividend g c p * d ≤ 9 * n * whole g p s =
        (cross 41000000000000000000 (dividend g c p) (whole g p s) n d _ _ (lit< tt)
        (at-num g c p s) (at-den g c p s)).0 (flux-mono g thin narrow wide).cross in
        below (quotient g c p s 1) (dividend g c p) (divisor g p s 1) (whole g p s) n d
        (whole_pos g p s) (quotient_le g c p s 1) (divisor-up g p s) f

    pub quotient-few : (m : ℕ) → shared_flux g z x r ≼ m over 3600 → quotient g c p s 1 ≤ m
    quotient-few m few =
        grind (arith, nat_tests, le_of_mul-le-mul_right, quotient-below, shared_flux)

    -- t is taken off
    pub quotient-under :
        (y t : ℕ) → 3600 * y ≤ t → natural (quotient g c p s 1 - t) ≼ shared_dose y g z x r
    quotient-under y t h =
        let q = quotient g c p s 1 in
        record {
          cross =
              rw (dose-num g z x r y, dose-den g z x r y)
              (omega (arith, less-below (q - t) y q n d (omega arith) quotient-below));
        }

  -- m is added and t taken off
  pub quotient-over :
      z ≼ c over 18000 → x ≼ p over 10 ^ 7 → s over 10 ^ 7 ≼ r → (y m t : ℕ) →
      t + 1 ≤ 3600 * y + m → shared_dose y g z x r ≼ natural ((quotient g c p s 0 + m) - t)
  quotient-over thick wide narrow y m t h =
      let q = quotient g c p s 0 in
      let f : 9 * n * whole g p s ≤ 1000 * dividend g c p * d =
      (cross 41000000000000000000 (dividend g c p) (whole g p s) n d _ _ (lit< tt)
      (at-num g c p s) (at-den g c p s)).1 (flux-mono g thick wide narrow).cross in
      let l : 3600 * n ≤ (q + 1) * d =
      above q (dividend g c p) (divisor g p s 0) (whole g p s) n d (whole_pos g p s)
      (quotient-lt g c p s 0) (divisor-down g p s) f in
      record {
        cross =
            rw (dose-num g z x r y, dose-den g z x r y)
            (omega (arith, less-above ((q + m) - t) y (q + 1) n d (omega arith) l));
      }

-- both hold at the lower concentration and share and the greater root
pub lower-le-upper :
    (g m t u : ℕ) {b c p q r s : ℕ} → b ≤ c → p ≤ q → r ≤ s → u + 1 ≤ t + m →
    quotient g b p s 1 - t ≤ (quotient g c q r 0 + m) - u
lower-le-upper g m t u {b} {c} {p} {q} {r} {s} j h k l =
    let order =
    ≼_trans (quotient-under g b p s (b over 18000) (p over 10 ^ 7) (s over 10 ^ 7) (≼_refl _)
    (≼_refl _) (≼_refl _) 0 0 (omega arith))
    (quotient-over g c q r (b over 18000) (p over 10 ^ 7) (s over 10 ^ 7) (over-mono 18000 j)
    (over-mono (10 ^ 7) h) (over-mono (10 ^ 7) k) 0 1 0 (omega arith)) in
    omega (arith, order.cross)
