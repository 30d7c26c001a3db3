-- The series of exp(n/d) over the common denominator d^k·k!, on which it is computed and compared;
-- it is `series_at`.
use mathlib.Core.Path.{◌≡◌, refl, ap}
use Prim.Native.Nat.{ℕ, zero, suc, ◌+◌, ◌*◌, ◌^◌, ◌<◌, max}
use native.Mathlib.Nat.{pow-zero, pow-suc, mul-pos, zero-lt-suc}
use native.Mathlib.Omega.{arith}
use Rattle.exact.specs.Frac.{Frac, ◌≈◌}
use Rattle.exact.specs.Series.{factorial, series_at}

unfoldable pub common_den : ℕ → ℕ → ℕ
common_den zero d = 1
common_den (suc k) d = common_den k d * (d * suc k)

unfoldable pub common_num : ℕ → ℕ → ℕ → ℕ
common_num zero n d = 1
common_num (suc k) n d = common_num k n d * (d * suc k) + n ^ suc k

common-is : (k d : ℕ) → d ^ k * factorial k ≡ common_den k d
unfolding common_den factorial
common-is zero d = rw (pow-zero d)
common-is (suc k) d = rw (pow-suc d k) (omega (arith, ap (λ u. u * (d * suc k)) (common-is k d)))

module _ (d : ℕ) (d-pos : 0 < d) where
  pub common_den-pos : (k : ℕ) → 0 < common_den k d
  unfolding common_den
  common_den-pos zero = omega arith
  common_den-pos (suc k) = mul-pos (common_den-pos k) (mul-pos d-pos (zero-lt-suc k))

  over-is : (k : ℕ) → max 1 (d ^ k * factorial k) ≡ common_den k d
  over-is k = rw (common-is k d) (omega (arith, common_den-pos k))

  abbrev pub common : ℕ → ℕ → Frac
  common k n = record { num = common_num k n d; den = common_den k d; positive = common_den-pos k }

  cross-is :
      (k n : ℕ) → (series_at k n d).num * common_den k d ≡ common_num k n d * (series_at k n d).den
  unfolding series_at common_num common_den
  cross-is zero n = refl
  cross-is (suc k) n =
      rw (over-is (suc k))
      (omega (arith, ap (λ t. t * (d * suc k * common_den (suc k) d)) (cross-is k n)))

  pub series-common : (k n : ℕ) → series_at k n d ≈ common k n
  series-common k n = record { cross = cross-is k n }

  pub series-pos : (k n : ℕ) → 0 < (series_at k n d).num
  unfolding series_at
  series-pos zero n = omega arith
  series-pos (suc k) n =
      rw (over-is (suc k)) (omega (arith, mul-pos (series-pos k n) (common_den-pos (suc k))))
