-- The root of leaf/wind, rounded up to k decimals, is the least that reaches it and never rises as
-- k grows, nor as the wind does; `root_low` and the next enclose it.
use Rattle.std.proofs.lemmas.Bool.Decides.{nat_tests}
use mathlib.Core.Path.{◌≡◌, ap, ◌∙◌}
use Prim.Native.Nat.{ℕ, ◌+◌, ◌-◌, ◌*◌, ◌/◌, ◌^◌, ◌≤◌, ◌<◌}
use native.Mathlib.Nat.{le_trans, mul-le-mul_left, mul-le-mul_right, le_of_mul-le-mul_right}
use native.Mathlib.Nat.{div-mul-le_self, lt-div-mul-add}
use native.Mathlib.Omega.{arith}
use lib.Pow.{pow-add}
use Rattle.exact.specs.Frac.{natural, ◌over◌, ◌≼◌}
use Rattle.exact.proofs.OrderLaws.{ten-pos}
use Rattle.exact.proofs.FracLaws.{≼_refl, ⊗-mono, over-le}
use Rattle.exact.proofs.LeastLaws.{least-reaches, reaches-least}
use Rattle.exact.proofs.SquareLaws.{square_le, square-lt, square_root-under, square_root-over}
use Rattle.dose_spec.specs.BoundaryLayer.{wind_read, root_up_at, resistance_at}
use Rattle.dose_spec.specs.Facts.{BoundaryFacts}
use Rattle.dose_spec.specs.Pair.{root_low}

-- 10^(2k), as a square
twice : (k : ℕ) → 10 ^ (2 * k) ≡ 10 ^ k * 10 ^ k
twice k = ap (λ (m : ℕ). 10 ^ m) (omega arith) ∙ pow-add 10 k k

reached : (n w : ℕ) → 0 < w → n ≤ n * n * (10 * w)
reached n w h = grind (arith, mul-le-mul_left (n * n) h)

module _ (k leaf wind : ℕ) where
  root_up_at-reaches :
      0 < wind → 10 ^ (2 * k) * leaf ≤ root_up_at k leaf wind * root_up_at k leaf wind * (10 * wind)
  unfolding root_up_at
  root_up_at-reaches h =
      least-reaches (λ r. r * r * (10 * wind)) (10 ^ (2 * k) * leaf) (10 ^ (2 * k) * leaf)
      (reached (10 ^ (2 * k) * leaf) wind h)

  root_up_at-least :
      (r : ℕ) → 10 ^ (2 * k) * leaf ≤ r * r * (10 * wind) → root_up_at k leaf wind ≤ r
  unfolding root_up_at
  root_up_at-least r h =
      reaches-least (λ t. t * t * (10 * wind)) (10 ^ (2 * k) * leaf) (10 ^ (2 * k) * leaf) r h

scale : (a b n w r : ℕ) → a * a * n ≤ r * r * w → a * b * (a * b) * n ≤ b * r * (b * r) * w
scale a b n w r h = omega (arith, mul-le-mul_left (b * b) h)

module _ (leaf wind : ℕ) (blows : 0 < wind) where
  root_up_at-next : (k j : ℕ) → root_up_at (k + j) leaf wind ≤ 10 ^ j * root_up_at k leaf wind
  root_up_at-next k j =
      grind (arith, nat_tests, root_up_at-least, twice, pow-add, scale, root_up_at-reaches)

  further :
      (k j : ℕ) → root_up_at (k + j) leaf wind * 10 ^ k ≤ root_up_at k leaf wind * 10 ^ (k + j)
  further k j = rw (pow-add 10 k j) (omega (arith, mul-le-mul_right (10 ^ k) (root_up_at-next k j)))

  pub root_up_at-anti :
      {k l : ℕ} → k ≤ l → root_up_at l leaf wind over 10 ^ l ≼ root_up_at k leaf wind over 10 ^ k
  root_up_at-anti {k} {l} h =
      let all : k + (l - k) ≡ l = omega arith in
      over-le (ten-pos l) (ten-pos k) (rw all at (further k (l - k)))

wind-blows : (wind : ℕ) → 0 < wind_read wind
wind-blows wind = omega arith

-- ---- Rb as the wind rises

root_up_at-falls :
    (k leaf wind wind' : ℕ) → 0 < wind → wind ≤ wind' →
    root_up_at k leaf wind' ≤ root_up_at k leaf wind
root_up_at-falls k leaf wind wind' blows h =
    let r = root_up_at k leaf wind in
    root_up_at-least k leaf wind' r
    (omega (arith, root_up_at-reaches k leaf wind blows, mul-le-mul_left (r * r) h))

resistance_at-falls :
    (leaf k wind wind' : ℕ) → wind ≤ wind' →
    resistance_at k leaf wind' ≼ resistance_at k leaf wind
unfolding resistance_at
resistance_at-falls leaf k wind wind' h =
    let read : wind_read wind ≤ wind_read wind' = omega (arith, h) in
    let fewer = root_up_at-falls k leaf (wind_read wind) (wind_read wind') (wind-blows wind) read in
    ⊗-mono (≼_refl (natural 195))
    (over-le (ten-pos k) (ten-pos k) (mul-le-mul_right (10 ^ k) fewer))

resistance_at-level :
    (leaf k wind : ℕ) → wind ≤ 10 → resistance_at k leaf wind ≡ resistance_at k leaf 10
unfolding resistance_at
resistance_at-level leaf k wind h =
    let read : wind_read wind ≡ 10 = omega (arith, h) in rw read

pub boundary-facts : (leaf : ℕ) → BoundaryFacts leaf
boundary-facts leaf = record { falls = resistance_at-falls leaf; level = resistance_at-level leaf }

-- ---- the root between two numbers

module _ (leaf wind : ℕ) where
  root_low-under : root_low leaf wind * root_low leaf wind * wind_read wind ≤ leaf * 10 ^ 13
  unfolding root_low
  root_low-under =
      le_trans (mul-le-mul_right (wind_read wind)
      (square_root-under (leaf * 10 ^ 13 / wind_read wind)))
      (div-mul-le_self (leaf * 10 ^ 13) (wind_read wind))

  root_low-over :
      leaf * 10 ^ 13 ≤ (root_low leaf wind + 1) * (root_low leaf wind + 1) * wind_read wind
  unfolding root_low
  root_low-over =
      let n : ℕ = leaf * 10 ^ 13 / wind_read wind in
      le_trans (omega (arith, lt-div-mul-add {a = leaf * 10 ^ 13} (wind-blows wind)))
      (mul-le-mul_right (wind_read wind) (square_root-over n))

  between :
      (r s t : ℕ) → r * r * wind_read wind ≤ leaf * 10 ^ 13 →
      t * t * leaf ≤ s * s * (10 * wind_read wind) → r * t ≤ s * 10 ^ 7
  between r s t h k =
      square_le
      (le_of_mul-le-mul_right {k = 10 * wind_read wind}
      (omega (arith, mul-le-mul_right (10 * (t * t)) h, mul-le-mul_right (10 ^ 14) k))
      (omega arith))

  pub root_low-le :
      (k : ℕ) → root_low leaf wind over 10 ^ 7 ≼ root_up_at k leaf (wind_read wind) over 10 ^ k
  root_low-le k =
      over-le (ten-pos 7) (ten-pos k)
      (between (root_low leaf wind) (root_up_at k leaf (wind_read wind)) (10 ^ k) root_low-under
      (rw (twice k) at (root_up_at-reaches k leaf (wind_read wind) (wind-blows wind))))

  pub root_up_at-le :
      root_up_at 7 leaf (wind_read wind) over 10 ^ 7 ≼ (root_low leaf wind + 1) over 10 ^ 7
  root_up_at-le =
      over-le (ten-pos 7) (ten-pos 7)
      (mul-le-mul_right (10 ^ 7)
      (root_up_at-least 7 leaf (wind_read wind) (root_low leaf wind + 1)
      (omega (arith, root_low-over))))

  -- a wind is read as 10 cm/s at least
  root_low-lt : (top : ℕ) → leaf * 10 ^ 12 < top * top → root_low leaf wind < top
  root_low-lt top h =
      let read : 10 ≤ wind_read wind = omega arith in
      square-lt (omega (
        arith,
        root_low-under,
        mul-le-mul_left (root_low leaf wind * root_low leaf wind) read,
      ))

  pub root_low-200 : leaf ≤ 200 → root_low leaf wind + 1 ≤ 14142136
  root_low-200 h = omega (arith, root_low-lt 14142136 (omega arith))
