-- (n/(n - z))^n never rises as n grows; it is at least the series of exp(z), however many terms,
-- and from some n on at most that of a number as close above z as one likes.
use Prim.Native.Nat.{ℕ, zero, suc, ◌+◌, ◌-◌, ◌*◌, ◌^◌, ◌≤◌, ◌<◌, max}
use mathlib.Core.Path.{◌≡◌, refl, ap}
use native.Mathlib.Omega.{arith}
use native.Mathlib.Nat.{zero-mul, pow-zero, pow-suc, pow-le-pow_left, one-le-pow}
use native.Mathlib.Nat.{lt_of_mul-lt-mul_right, mul-pos, zero-lt-suc, mul-le-mul_right}
use native.Mathlib.Nat.{le_of_mul-le-mul_right}
use Rattle.exact.specs.Frac.{Frac, natural, ◌over◌, ◌⊖◌, ◌⊗◌, ◌⊘◌, ◌≼◌, ◌≺◌, ◌≈◌, power}
use Rattle.exact.specs.Series.{factorial, series_at, growth}
use Rattle.exact.proofs.FracLaws.{≼_refl, ≼_trans, ≈-le, ≈-ge, ⊕-mono, ⊗-mono, over-le, over-same}
use Rattle.std.proofs.lemmas.Nat.{mul-pow}
use Rattle.exact.proofs.MeanLaws.{bernoulli}
use Rattle.exact.proofs.SeriesCommon.{common_num, common_den}
use Rattle.exact.proofs.SeriesLaws.{series-zero, series-sum-le, series-sum-ge}
use Rattle.exact.proofs.SeriesBounds.{with-series}

-- ---- powers of a fraction

factorial-pos : (i : ℕ) → 0 < factorial i
unfolding factorial
factorial-pos zero = zero-lt-suc 0
factorial-pos (suc i) = mul-pos (factorial-pos i) (zero-lt-suc i)

factorial-one : factorial 1 ≡ 1
unfolding factorial
factorial-one = refl

power-mono : {x y : Frac} (n : ℕ) → x ≼ y → power x n ≼ power y n
power-mono {x} {y} n h =
    record {
      cross = rw (← (mul-pow x.num y.den n), ← (mul-pow y.num x.den n)) (pow-le-pow_left h.cross n);
    }

power-suc : (x : Frac) (n : ℕ) → power x (suc n) ≈ power x n ⊗ x
power-suc x n = record { cross = rw (pow-suc x.num n, pow-suc x.den n) }

-- ---- the series at c·n / c·d is that at n / d

module _ (c d : ℕ) (c_pos : 0 < c) (d-pos : 0 < d) (n : ℕ) where
  term-scale :
      (i : ℕ) → ((c * n) ^ i) over ((c * d) ^ i * factorial i) ≈ (n ^ i) over (d ^ i * factorial i)
  term-scale i =
      over-same (mul-pos (one-le-pow i (c * d) (mul-pos c_pos d-pos)) (factorial-pos i))
      (mul-pos (one-le-pow i d d-pos) (factorial-pos i))
      (rw (mul-pow c n i, mul-pow c d i) (omega arith))

  scale-le : (k : ℕ) → series_at k (c * n) (c * d) ≼ series_at k n d
  unfolding series_at
  scale-le zero = ≼_refl (natural 1)
  scale-le (suc k) = ⊕-mono (scale-le k) (≈-le (term-scale (suc k)))

  scale-ge : (k : ℕ) → series_at k n d ≼ series_at k (c * n) (c * d)
  unfolding series_at
  scale-ge zero = ≼_refl (natural 1)
  scale-ge (suc k) = ⊕-mono (scale-ge k) (≈-ge (term-scale (suc k)))

-- ---- powers and the series

module _ (d : ℕ) (d-pos : 0 < d) (x : ℕ) where
  -- S_k(m·z) ≤ S_k(z)^m
  series-power-le : (k m : ℕ) → series_at k (m * x) d ≼ power (series_at k x d) m
  series-power-le k zero = record {
    cross =
        rw (zero-mul x, pow-zero (series_at k x d).num, pow-zero (series_at k x d).den)
        (omega (arith, series-zero d d-pos k));
  }
  series-power-le k (suc m) =
      let e : suc m * x ≡ m * x + x = omega arith in
      rw e
      (≼_trans (series-sum-le d d-pos k (m * x) x)
      (≼_trans (⊗-mono (series-power-le k m) (≼_refl (series_at k x d)))
      (≈-ge (power-suc (series_at k x d) m))))

  first-le : (d + x) over d ≼ series_at 1 x d
  unfolding series_at
  first-le = grind (
    arith,
    over-same,
    mul-pos,
    one-le-pow,
    factorial-pos,
    pow-suc,
    pow-zero,
    factorial-one,
    ≼_trans,
    ⊕-mono,
    ≼_refl,
    ≈-ge,
  )

  -- (1 + z)^m ≤ S_m(m·z)
  series-power-ge : (m : ℕ) → power ((d + x) over d) m ≼ series_at m (m * x) d
  unfolding series_at
  series-power-ge zero = record { cross = rw (pow-zero (d + x), pow-zero (max 1 d)) (omega arith) }
  series-power-ge (suc m) =
      let e : suc m * x ≡ m * x + x = omega arith in
      let more : m + 1 ≡ suc m = omega arith in
      rw e
      (≼_trans (≈-le (power-suc ((d + x) over d) m))
      (≼_trans (⊗-mono (series-power-ge m) first-le)
      (rw more at (series-sum-ge d d-pos m 1 (m * x) x))))

  -- S_k(z) ≤ 1/(1 - z)
  geometric : (k c : ℕ) → 0 < c → c + x ≡ d → series_at k x d ≼ d over c
  unfolding common_num common_den
  geometric k c c_pos e =
      with-series x d c d d-pos {last = 0}
      (record {
        m = c;
        is = omega arith;
        pos = c_pos;
        holds = rw (pow-suc x 0, pow-zero x) (omega (arith, ap (λ t. t * c) e));
      })
      k c_pos

-- ---- (n/(n - z))^n, for z = a/b, as powers of n·b and of c = n·b - a

module _ (z : Frac) (n : ℕ) where
  base-is : natural n ⊘ (natural n ⊖ z) ≈ (n * z.den) over (n * z.den - z.num)
  base-is =
      let is : max 1 (n * z.den - z.num * 1) ≡ max 1 (n * z.den - z.num) = omega arith in
      record { cross = rw is (omega arith) }

  growth-le-power : growth n z ≼ power ((n * z.den) over (n * z.den - z.num)) n
  unfolding growth
  growth-le-power = power-mono n (≈-le base-is)

  growth-ge-power : power ((n * z.den) over (n * z.den - z.num)) n ≼ growth n z
  unfolding growth
  growth-ge-power = power-mono n (≈-ge base-is)

-- 1/(1 - y/n) ≤ 1 + (y + 1/(b·m))/n, where g = n·b is large enough
ratio-le : (a m g c : ℕ) → c + a ≡ g → a * a * m + a ≤ g → g * (g * m) ≤ (g * m + (a * m + 1)) * c
ratio-le a m g c e h = omega (arith, ap (λ t. t * (g * m)) e, ap (λ t. t * (a * m)) e, e, h)

cancel-le :
    (n b a c P Q : ℕ) → 0 < n → 0 < c → c + a ≡ n * b →
    P * (suc n * c) * (suc n * c + suc n * a) ≤ suc n * c * (Q * n) → P * suc n * b ≤ Q
cancel-le n b a c P Q n_pos c_pos e h =
    le_of_mul-le-mul_right {k = n * (suc n * c)}
    (omega (arith, h, ap (λ t. P * (suc n * c) * suc n * t) e))
    (mul-pos n_pos (mul-pos (zero-lt-suc n) c_pos))

-- ((n+1)/(n+1 - y))^(n+1) ≤ (n/(n - y))^n
power-falls :
    (n b a c : ℕ) → 0 < n → 0 < c → c + a ≡ n * b →
    (suc n * b) ^ suc n * c ^ n ≤ (n * b) ^ n * (c + b) ^ suc n
power-falls n b a c n_pos c_pos e =
    let q : suc n * c + a ≡ n * (c + b) = omega (arith, e) in
    let h =
    rw (q, mul-pow n (c + b) (suc n), pow-suc (suc n * c) n, pow-suc n n)
    at (bernoulli (suc n * c) a (suc n)) in
    let l =
    cancel-le n b a c ((suc n * c) ^ n) (n ^ n * (c + b) ^ suc n) n_pos c_pos e
    (omega (arith, h)) in
    rw (mul-pow (suc n) b (suc n), pow-suc (suc n) n, pow-suc b n, mul-pow n b n)
    (omega (arith, mul-le-mul_right (b ^ n) (rw (mul-pow (suc n) c n) at l)))

module _ (z : Frac) (n : ℕ) (under : z ≺ natural n) where
  abbrev a : ℕ
  a = z.num

  abbrev b : ℕ
  b = z.den

  abbrev c : ℕ
  c = n * b - a

  c_pos : 0 < c
  c_pos = omega (arith, under.cross)

  c-is : c + a ≡ n * b
  c-is = omega (arith, under.cross)

  n_pos : 0 < n
  n_pos = lt_of_mul-lt-mul_right b (omega (arith, under.cross))

  pub growth-anti : growth (suc n) z ≼ growth n z
  growth-anti =
      let is : suc n * b - a ≡ c + b = omega (arith, under.cross) in
      let one : max 1 c ≡ c = omega (arith, c_pos) in
      let next : max 1 (c + b) ≡ c + b = omega (arith, c_pos) in
      let step : power ((suc n * b) over (c + b)) (suc n) ≼ power ((n * b) over c) n =
      record { cross = rw (one, next) (power-falls n b a c n_pos c_pos c-is) } in
      ≼_trans (rw is at (growth-le-power z (suc n))) (≼_trans step (growth-ge-power z n))

  pub growth-ge : (k : ℕ) → series_at k a b ≼ growth n z
  growth-ge k =
      let nb-pos : 0 < n * b = mul-pos n_pos z.positive in
      ≼_trans (scale-ge n b n_pos z.positive a k)
      (≼_trans (series-power-le (n * b) nb-pos a k n)
      (≼_trans (power-mono n (geometric (n * b) nb-pos a k c c_pos c-is)) (growth-ge-power z n)))

  pub growth-le :
      (m : ℕ) → 0 < m → a * a * m + a ≤ n * b → growth n z ≼ series_at n (a * m + 1) (b * m)
  growth-le m m-pos far =
      let d : ℕ = n * (b * m) in
      let x : ℕ = a * m + 1 in
      let bm-pos : 0 < b * m = mul-pos z.positive m-pos in
      let d-pos : 0 < n * (b * m) = mul-pos n_pos bm-pos in
      let e : n * b * m ≡ n * (b * m) = omega arith in
      let step : (n * b) over c ≼ (d + x) over d =
      over-le c_pos d-pos (rw e at (ratio-le a m (n * b) c c-is far)) in
      ≼_trans (growth-le-power z n)
      (≼_trans (power-mono n step)
      (≼_trans (series-power-ge d d-pos x n) (scale-le n (b * m) n_pos bm-pos x n)))
