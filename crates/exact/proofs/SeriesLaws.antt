-- The series at k never falls as k grows, and its values multiply where its arguments add; 1
-- divided by it never rises.
use Prim.Native.Nat.{ℕ, zero, suc, ◌+◌, ◌*◌, ◌^◌, ◌≤◌, ◌<◌, zero-le, max}
use mathlib.Core.Path.{◌≡◌, refl, ap}
use native.Mathlib.Nat.{mul-pos, le_refl, mul-le-mul_left, zero-lt-suc}
use native.Mathlib.Omega.{arith}
use Rattle.exact.specs.Frac.{natural, ◌⊗◌, ◌≼◌}
use Rattle.exact.specs.Series.{factorial, series_at, decay_at}
use Rattle.exact.proofs.FracLaws.{≼_trans, ≈-le, ≈-ge, ⊗-mono}
use Rattle.exact.proofs.PowerLaws.{zero-pow}
use Rattle.exact.proofs.InverseLaws.{inverse-anti, inverse-⊗}
use Rattle.exact.proofs.SeriesCommon.{common_den, common, series-common, series-pos}
use Rattle.exact.proofs.SeriesSums.{common-sum-le, common-sum-ge, common-mono}

module _ (d : ℕ) (d-pos : 0 < d) where
  by-common :
      (k j n m : ℕ) → common d d-pos k n ≼ common d d-pos j m → series_at k n d ≼ series_at j m d
  by-common k j n m h =
      ≼_trans (≈-le (series-common d d-pos k n)) (≼_trans h (≈-ge (series-common d d-pos j m)))

  series-mono : {j k : ℕ} (n : ℕ) → j ≤ k → series_at j n d ≼ series_at k n d
  series-mono {j} {k} n h = by-common j k n n (record { cross = common-mono n d j k h })

  pub series-sum-le : (k x y : ℕ) → series_at k (x + y) d ≼ series_at k x d ⊗ series_at k y d
  series-sum-le k x y =
      ≼_trans (≈-le (series-common d d-pos k (x + y)))
      (≼_trans {y = common d d-pos k x ⊗ common d d-pos k y}
      (omega (arith, mul-le-mul_left (common_den k d) (common-sum-le d d-pos x y k)))
      (⊗-mono (≈-ge (series-common d d-pos k x)) (≈-ge (series-common d d-pos k y))))

  pub series-sum-ge :
      (j k x y : ℕ) → series_at j x d ⊗ series_at k y d ≼ series_at (j + k) (x + y) d
  series-sum-ge j k x y =
      ≼_trans (⊗-mono (≈-le (series-common d d-pos j x)) (≈-le (series-common d d-pos k y)))
      (≼_trans {y = common d d-pos (j + k) (x + y)}
      (record { cross = common-sum-ge d d-pos x y j k (j + k) (le_refl (j + k)) })
      (≈-ge (series-common d d-pos (j + k) (x + y))))

  -- exp(0) is 1 at every k
  pub series-zero : (k : ℕ) → (series_at k 0 d).num ≡ (series_at k 0 d).den
  unfolding series_at
  series-zero zero = refl
  series-zero (suc k) =
      rw (zero-pow (suc k) (zero-lt-suc k))
      (omega (arith, ap (λ n. n * max 1 (d ^ suc k * factorial (suc k))) (series-zero k)))

  -- ---- exp(-z) at k

  pub decay_at-zero : (k : ℕ) → natural 1 ≼ decay_at k 0 d
  unfolding decay_at
  decay_at-zero k = let is = series-zero k in let pos = series-pos d d-pos k 0 in omega arith

  pub decay_at-anti : {j k : ℕ} (n : ℕ) → j ≤ k → decay_at k n d ≼ decay_at j n d
  unfolding decay_at
  decay_at-anti {j} n h = inverse-anti (series-pos d d-pos j n) (series-mono n h)

  pub decay_at-le : (k n : ℕ) → decay_at k n d ≼ natural 1
  unfolding decay_at series_at
  decay_at-le k n = ≼_trans {y = decay_at 0 n d} (decay_at-anti {k = k} n zero-le) (omega arith)

  pub decay_at-sum-ge : (k x y : ℕ) → decay_at k x d ⊗ decay_at k y d ≼ decay_at k (x + y) d
  unfolding decay_at
  decay_at-sum-ge k x y =
      let p = series-pos d d-pos k x in
      let q = series-pos d d-pos k y in
      ≼_trans (≈-ge (inverse-⊗ (series_at k x d) (series_at k y d) p q))
      (inverse-anti (series-pos d d-pos k (x + y)) (series-sum-le k x y))

  pub decay_at-sum-le : (j k x y : ℕ) → decay_at (j + k) (x + y) d ≼ decay_at j x d ⊗ decay_at k y d
  unfolding decay_at
  decay_at-sum-le j k x y =
      let p = series-pos d d-pos j x in
      let q = series-pos d d-pos k y in
      ≼_trans (inverse-anti (mul-pos p q) (series-sum-ge j k x y))
      (≈-le (inverse-⊗ (series_at j x d) (series_at k y d) p q))
