-- exp(y) at k never rises as k grows; a number that some terms of the series put below it is below
-- it at every k, and one that they put above it is above it at a k that is large enough.
use Prim.Native.Nat.{ℕ, suc, ◌+◌, ◌*◌, ◌≤◌, ◌<◌}
use mathlib.Core.Path.{◌≡◌}
use native.Mathlib.Nat.{mul-le-mul_right}
use native.Mathlib.Decide.{le_ind}
use native.Mathlib.Omega.{arith}
use Rattle.exact.specs.Frac.{Frac, natural, ◌≼◌, ◌≺◌}
use Rattle.exact.specs.Series.{series_at, growth}
use Rattle.exact.proofs.FracLaws.{≼_refl, ≼_trans}
use Rattle.exact.proofs.SeriesLaws.{decay_at-anti}
use Rattle.exact.proofs.GrowthLaws.{growth-anti, growth-ge, growth-le}
use Rattle.dose_spec.specs.Vapour.{Signed, plus, minus, power_at, exp_at}
use Rattle.dose_spec.specs.HumidityFacts.{Under}

-- ---- n = k + 4

power_at-least : (k : ℕ) → 4 ≤ power_at k
unfolding power_at
power_at-least k = omega arith

power_at-suc : (k : ℕ) → power_at (suc k) ≡ suc (power_at k)
unfolding power_at
power_at-suc k = omega arith

power_at-ge : (k : ℕ) → k ≤ power_at k
unfolding power_at
power_at-ge k = omega arith

module _ (y : Frac) (under : y ≺ natural 4) where
  power_at-under : (k : ℕ) → y ≺ natural (power_at k)
  power_at-under k = omega (arith, under.cross, mul-le-mul_right y.den (power_at-least k))

  growth-falls : {k l : ℕ} → k ≤ l → growth (power_at l) y ≼ growth (power_at k) y
  growth-falls {k} {l} h =
      le_ind (λ m. growth (power_at m) y ≼ growth (power_at k) y) (≼_refl (growth (power_at k) y))
      (λ m _ p. ≼_trans (rw (power_at-suc m) (growth-anti y (power_at m) (power_at-under m))) p) l h

  pub plus-ge : (j k : ℕ) → series_at j y.num y.den ≼ exp_at k (plus y)
  unfolding exp_at
  plus-ge j k = growth-ge y (power_at k) (power_at-under k) j

  -- 1/(m·den) is what is added to y
  pub plus-le :
      (m k : ℕ) → 0 < m → y.num * y.num * m + y.num ≤ k * y.den →
      exp_at k (plus y) ≼ series_at (power_at k) (y.num * m + 1) (y.den * m)
  unfolding exp_at
  plus-le m k m-pos far =
      growth-le y (power_at k) (power_at-under k) m m-pos
      (omega (arith, far, mul-le-mul_right y.den (power_at-ge k)))

pub exp_at-anti : (y : Signed) → Under 4 y → {k l : ℕ} → k ≤ l → exp_at l y ≼ exp_at k y
unfolding exp_at
exp_at-anti (plus y) under h = growth-falls y under h
exp_at-anti (minus z) _ h = decay_at-anti z.den z.positive z.num h
